use Rattle.std.proofs.Common.{◌≡◌, ◌*◌, ◌-◌, take, drop}
use Rattle.arrays.specs.Nulls.{valid_slots}
use Rattle.array_buffers.specs.ColumnBuffers.{bits_number}
use Rattle.array_buffers.proofs.buffer_writing.valid_byte.Given as goal

abbrev pub invariant-loop-taken : goal.invariant-loop-taken
invariant-loop-taken l =
    l.bits ≡ bits_number (drop (l.count - l.taken) (take 8 (drop (8 * l.byte) (valid_slots l.column))))
