use Rattle.std.proofs.Common.{◌≡◌, ◌+◌, ◌-◌}
use Rattle.byteorder.specs.Endian.{little_from}
use Rattle.group_slots.proofs.tags.last_text.Given as goal

abbrev pub invariant-loop-taken : goal.invariant-loop-taken
invariant-loop-taken l = l.number ≡ little_from (l.begin + (l.len - l.taken)) l.taken l.bytes
