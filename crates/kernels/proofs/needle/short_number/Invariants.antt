use Rattle.std.proofs.Common.{◌≡◌, ◌-◌}
use Rattle.byteorder.specs.Endian.{little_from}
use Rattle.kernels.proofs.needle.short_number.Given as goal

abbrev pub invariant-loop-taken : goal.invariant-loop-taken
invariant-loop-taken l = l.number ≡ little_from (l.count - l.taken) l.taken l.bytes
