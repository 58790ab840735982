use Rattle.std.proofs.Common.{ℕ, ◌+◌, Some, sym, ap, ◌∙◌}
use Rattle.scan_base.specs.declared.value.Value.{Value}
use Rattle.scan_base.specs.declared.value.Value.TheVariants.{Int}
use Rattle.arrays.specs.Number.{element_at}
use Rattle.batch_stats.specs.Stats.{with_value}
use Rattle.batch_stats.specs.inside.Slots.{ends_with}
use Rattle.batch_stats.proofs.Passes.{pass_more}
use Rattle.batch_stats.proofs.numbers.NumberRange.with_all.Goals as goal

pub loop-place-preserved : goal.loop-place-preserved
loop-place-preserved g c =
    let value = g.E.Number.value in
    let slot : ℕ → Value = λ place. Int (value (g.E.FixedWidth.of_bits (element_at g.E.Element.WIDTH c.args.values.now place))) in
    let place = c.loop-place.place in
    let range = c.loop-place.range in
    let before = Some (Int (value range.least), Int (value range.greatest)) in
    ap (λ ends. ends_with ends slot (place + 1) c.args.to) (c.with-range.ensures ∙ ap (λ number. with_value before (Int (value number))) c.read.ensures)
    ∙ sym (pass_more before slot place c.args.to c.loop-place-test.true)
    ∙ c.loop-place.invariant
