use Rattle.std.proofs.Common.{◌≡◌, ◌*◌, count_by}
use Rattle.bitmap.specs.Bits.{bits_of}
use Rattle.bitmap.proofs.words.count_bits.Given as goal

abbrev pub invariant-loop-i : goal.invariant-loop-i
invariant-loop-i l = l.total ≡ count_by (λ b. b) (bits_of l.bytes l.first (64 * l.i))
