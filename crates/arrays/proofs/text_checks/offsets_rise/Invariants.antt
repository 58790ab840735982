use Rattle.std.proofs.Common.{◌≡◌, ◌≤◌, ◌<◌, ◌+◌, ℕ, true}
use Rattle.arrays.specs.Number.{element_at}
use Rattle.arrays.proofs.text_checks.offsets_rise.Given as goal

abbrev pub invariant-loop-place : goal.invariant-loop-place
invariant-loop-place l = l.rise ≡ true → (k : ℕ) → k < l.place → element_at 4 l.offsets k ≤ element_at 4 l.offsets (k + 1)
