use Rattle.std.proofs.Common.{◌≡◌, ◌+◌, ◌-◌}
use Rattle.byteorder.specs.Endian.{little_from}
use Rattle.bitmap.proofs.words.eight_bytes.Given as goal

abbrev pub invariant-loop-taken : goal.invariant-loop-taken
invariant-loop-taken l = l.number ≡ little_from (l.at + (l.count - l.taken)) l.taken l.bytes
