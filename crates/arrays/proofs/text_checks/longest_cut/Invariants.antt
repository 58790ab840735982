use Rattle.std.proofs.Common.{◌≤◌, ◌<◌, ◌+◌, ℕ}
use Rattle.arrays.specs.Number.{element_at}
use Rattle.arrays.proofs.text_checks.longest_cut.Given as goal

abbrev pub invariant-loop-place : goal.invariant-loop-place
invariant-loop-place l = (k : ℕ) → l.fn.from ≤ k → k < l.place → element_at 4 l.offsets (k + 1) ≤ element_at 4 l.offsets k + l.longest
