use Rattle.std.proofs.Common.{◌<◌, ◌≤ℤ◌, ℕ}
use Rattle.arrays.specs.Number.{element_at}
use Rattle.arrays.proofs.index_checks.greatest_of.Given as goal

abbrev pub invariant-loop-place : goal.invariant-loop-place
invariant-loop-place g l = (k : ℕ) → k < l.place → g.E.Number.value (g.E.FixedWidth.of_bits (element_at g.E.Element.WIDTH l.values k)) ≤ℤ g.E.Number.value l.greatest
