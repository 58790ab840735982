use Rattle.std.proofs.Common.{◌≡◌, ◌+◌, ◌++◌, length, take}
use Rattle.arrays.proofs.Rest.{rest_of}
use Rattle.arrays.specs.Column.{values_of}
use Rattle.arrays.specs.WrittenSlots.{texts_joined, offsets_from}
use Rattle.array_buffers.proofs.buffer_writing.append_offsets.Given as goal

abbrev pub invariant-loop-place : goal.invariant-loop-place
invariant-loop-place l = record {
  all : l.offset + length (texts_joined (rest_of l.column l.place)) ≡ length (texts_joined (values_of l.column));
  out : l.out.items ++ offsets_from l.offset (rest_of l.column l.place) ≡ l.fn.out.items ++ offsets_from 0 (values_of l.column);
  begins : take (length l.fn.out.items) l.out.items ≡ l.fn.out.items;
}
