use Rattle.std.proofs.Common.{◌≡◌, Some}
use Rattle.scan_base.specs.declared.value.Value.TheVariants.{Int}
use Rattle.arrays.specs.Number.{element_at}
use Rattle.arrays.specs.Validity.{where_valid}
use Rattle.batch_stats.specs.inside.Slots.{ends_with}
use Rattle.batch_stats.proofs.numbers.NumberRange.with_each_valid.Given as goal

abbrev pub invariant-loop-place : goal.invariant-loop-place
invariant-loop-place g l =
    ends_with (Some (Int (g.E.Number.value l.range.least), Int (g.E.Number.value l.range.greatest))) (where_valid l.packed.validity.now (λ place. Int (g.E.Number.value (g.E.FixedWidth.of_bits (element_at g.E.Element.WIDTH l.packed.values.now place))))) l.place l.to
    ≡ ends_with (Some (Int (g.E.Number.value l.fn.self.least), Int (g.E.Number.value l.fn.self.greatest))) (where_valid l.packed.validity.now (λ place. Int (g.E.Number.value (g.E.FixedWidth.of_bits (element_at g.E.Element.WIDTH l.packed.values.now place))))) l.from l.to
