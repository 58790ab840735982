use Rattle.std.proofs.Common.{ℕ, Option, Some, sym}
use Rattle.scan_base.specs.declared.value.Value.{Value}
use Rattle.scan_base.specs.declared.value.Value.TheVariants.{Int}
use Rattle.arrays.specs.Number.{element_at}
use Rattle.batch_stats.proofs.Passes.{pass_inside}
use Rattle.batch_stats.proofs.numbers.NumberRange.with_block.Goals as goal

pub returns-then-count_outside-eq0 : goal.returns-then-count_outside-eq0
returns-then-count_outside-eq0 g c =
    let value = g.E.Number.value in
    let packed = c.args.packed.now in
    let number : ℕ → Value = λ place. Int (value (g.E.FixedWidth.of_bits (element_at g.E.Element.WIDTH packed.values.now place))) in
    let ends : Option (Value × Value) = Some (Int (value c.args.self.least), Int (value c.args.self.greatest)) in
    sym (pass_inside ends packed.validity.now number c.args.from c.args.to (c.count_outside.ensures c.if-count_outside-eq0.true))
