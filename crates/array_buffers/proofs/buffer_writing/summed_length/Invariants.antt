use Rattle.std.proofs.Common.{◌≡◌, ◌+◌, ◌<◌, ◌^◌, length}
use Rattle.arrays.proofs.Rest.{rest_of}
use Rattle.arrays.specs.Column.{values_of}
use Rattle.arrays.specs.WrittenSlots.{texts_joined}
use Rattle.array_buffers.proofs.buffer_writing.summed_length.Given as goal

abbrev pub invariant-loop-place : goal.invariant-loop-place
invariant-loop-place l = record {
  low : l.length < 2 ^ 31;
  all : l.length + length (texts_joined (rest_of l.column l.place)) ≡ length (texts_joined (values_of l.column));
}
