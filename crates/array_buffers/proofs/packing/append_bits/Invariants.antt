use Rattle.std.proofs.Common.{◌≡◌, ◌+◌, ◌*◌, ◌-◌, ◌++◌, length, take, drop}
use Rattle.array_buffers.specs.ColumnBuffers.{packed_bits}
use Rattle.array_buffers.proofs.packing.append_bits.Given as goal

abbrev pub invariant-loop-word : goal.invariant-loop-word
invariant-loop-word l = record {
  out : l.out.items ++ packed_bits (take (l.len - 64 * l.word) (drop (l.from + 64 * l.word) l.bits))
      ≡ l.fn.out.items ++ packed_bits (take l.len (drop l.from l.bits));
  begins : take (length l.fn.out.items) l.out.items ≡ l.fn.out.items;
}
