use Rattle.std.proofs.Common.{◌≡◌, ◌++◌, length, take, map}
use Rattle.std.specs.List.{range_with_len}
use Rattle.arrays.specs.Nulls.{valid_slots}
use Rattle.array_buffers.proofs.Packed.{byte_of}
use Rattle.array_buffers.proofs.buffer_writing.append_valid_slots.Given as goal

abbrev pub invariant-loop-byte : goal.invariant-loop-byte
invariant-loop-byte l = record {
  out : l.out.items ≡ l.fn.out.items ++ map (byte_of (valid_slots l.column)) (range_with_len 0 l.byte);
  begins : take (length l.fn.out.items) l.out.items ≡ l.fn.out.items;
}
