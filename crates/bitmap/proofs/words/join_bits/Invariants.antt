use Rattle.std.proofs.Common.{◌≡◌, ◌*◌, length}
use Rattle.std.specs.Simd.Lanes.{zip2}
use Rattle.bitmap.specs.Bits.{bits_of}
use Rattle.bitmap.specs.inside.JoinedBits.{joined}
use Rattle.bitmap.proofs.words.join_bits.Given as goal

abbrev pub invariant-loop-i : goal.invariant-loop-i
invariant-loop-i l = record {
  long : length l.made.items ≡ 8 * l.i;
  made : bits_of l.made.items 0 (64 * l.i) ≡ zip2 (joined l.operation) (bits_of l.left l.left_first (64 * l.i)) (bits_of l.right l.right_first (64 * l.i));
}
