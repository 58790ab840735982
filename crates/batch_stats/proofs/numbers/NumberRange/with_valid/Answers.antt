use Rattle.std.proofs.Common.{◌≡◌, ◌≤◌, ◌+◌, ◌*◌, ℕ, Option, Some, sym, ap, ◌∙◌, arith}
use Rattle.scan_base.specs.declared.value.Value.{Value}
use Rattle.scan_base.specs.declared.value.Value.TheVariants.{Int}
use Rattle.arrays.specs.Number.{element_at}
use Rattle.arrays.specs.Validity.{where_valid}
use Rattle.batch_stats.specs.inside.Slots.{ends_with}
use Rattle.batch_stats.proofs.Passes.{pass_parts}
use Rattle.batch_stats.proofs.numbers.NumberRange.with_valid.Goals as goal

pub loop-block-preserved : goal.loop-block-preserved
loop-block-preserved g c =
    let value = g.E.Number.value in
    let packed = c.args.packed.now in
    let number : ℕ → Value = λ place. Int (value (g.E.FixedWidth.of_bits (element_at g.E.Element.WIDTH packed.values.now place))) in
    let slot : ℕ → Value = where_valid packed.validity.now number in
    let start = c.args.from + 64 * c.loop-block.block in
    let range = c.loop-block.range in
    let before : Option (Value × Value) = Some (Int (value range.least), Int (value range.greatest)) in
    let after : Option (Value × Value) = Some (Int (value c.with_block-range.result.least), Int (value c.with_block-range.result.greatest)) in
    let within : start + 64 ≤ c.args.to = omega (arith, c.saturating_sub-blocks.ensures, c.loop-block-test.true) in
    let next : c.args.from + 64 * (c.loop-block.block + 1) ≡ start + 64 = omega arith in
    ap (λ (place : ℕ). ends_with after slot place c.args.to) next
    ∙ ap (λ ends. ends_with ends slot (start + 64) c.args.to) c.with_block-range.ensures
    ∙ sym (pass_parts before slot start 64 c.args.to within)
    ∙ c.loop-block.invariant
