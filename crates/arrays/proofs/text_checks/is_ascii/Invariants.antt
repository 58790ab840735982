use Rattle.std.proofs.Common.{◌≡◌, ◌<◌, ℕ, true, slice_index}
use Rattle.arrays.proofs.text_checks.is_ascii.Given as goal

abbrev pub invariant-loop-byte : goal.invariant-loop-byte
invariant-loop-byte l = l.ascii ≡ true → (k : ℕ) → k < l.byte-index → slice_index l.bytes k < 128
