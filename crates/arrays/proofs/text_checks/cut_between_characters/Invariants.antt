use Rattle.std.proofs.Common.{◌≡◌, ◌<◌, ◌-◌, ℕ, true, IsCharBoundary}
use Rattle.arrays.specs.Number.{element_at}
use Rattle.arrays.proofs.text_checks.cut_between_characters.Given as goal

abbrev pub invariant-loop-place : goal.invariant-loop-place
invariant-loop-place l = l.between ≡ true → (k : ℕ) → k < l.place → IsCharBoundary l.whole (element_at 4 l.offsets k - l.first)
