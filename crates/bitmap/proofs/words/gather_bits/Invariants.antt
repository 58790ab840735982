use Rattle.std.proofs.Common.{◌≡◌, ◌+◌, ◌*◌, length, map, take}
use Rattle.bitmap.specs.Bits.{bit_of, bits_of}
use Rattle.bitmap.proofs.words.gather_bits.Given as goal

abbrev pub invariant-loop-i : goal.invariant-loop-i
invariant-loop-i l = record {
  long : length l.made.items ≡ 8 * l.i;
  made : bits_of l.made.items 0 (64 * l.i) ≡ map (λ place. bit_of l.bytes (l.first + place)) (take (64 * l.i) l.places);
}
