use Rattle.std.proofs.Common.{◌≡◌, ◌++◌, length, take}
use Rattle.arrays.proofs.Rest.{rest_of}
use Rattle.arrays.specs.Column.{values_of}
use Rattle.arrays.specs.WrittenSlots.{texts_joined}
use Rattle.array_buffers.proofs.buffer_writing.append_each_text.Given as goal

abbrev pub invariant-loop-place : goal.invariant-loop-place
invariant-loop-place l = record {
  out : l.out.items ++ texts_joined (rest_of l.column l.place) ≡ l.fn.out.items ++ texts_joined (values_of l.column);
  begins : take (length l.fn.out.items) l.out.items ≡ l.fn.out.items;
}
