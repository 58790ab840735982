use Rattle.std.proofs.Common.{◌≡◌, ◌≤◌, ◌<◌, ◌-◌, ℕ, Some}
use Rattle.scan_base.specs.declared.value.Value.TheVariants.{Int}
use Rattle.arrays.specs.Number.{element_at}
use Rattle.batch_stats.specs.Stats.{with_value}
use Rattle.batch_stats.proofs.numbers.NumberRange.count_outside.Given as goal

abbrev pub invariant-loop-place : goal.invariant-loop-place
invariant-loop-place g l = record {
  few : l.outside ≤ l.place - l.from;
  kept : l.outside ≡ 0 → (k : ℕ) → l.from ≤ k → k < l.place → with_value (Some (Int (g.E.Number.value l.self.least), Int (g.E.Number.value l.self.greatest)))
      (Int (g.E.Number.value (g.E.FixedWidth.of_bits (element_at g.E.Element.WIDTH l.values k)))) ≡ Some (Int (g.E.Number.value l.self.least), Int (g.E.Number.value l.self.greatest));
}
