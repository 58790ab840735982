use Rattle.std.proofs.Common.{◌≡◌, ℕ, ℤ, ◌+◌, Option, None, Some, sym, ap, ◌∙◌}
use Rattle.std.specs.Int.{w128}
use Rattle.std.proofs.lemmas.Int.{to_z-of_z}
use mir.Val.{to_z, of_z}
use Rattle.scan_base.specs.declared.value.Value.{Value}
use Rattle.scan_base.specs.declared.value.Value.TheVariants.{Int}
use Rattle.arrays.specs.Number.{element_at}
use Rattle.arrays.specs.Validity.{where_valid}
use Rattle.batch_stats.specs.inside.Slots.{ends_with}
use Rattle.batch_stats.proofs.Passes.{pass_valid}
use Rattle.batch_stats.proofs.numbers.numbers_stats.Goals as goal

pub returns-clause-ends : goal.returns-clause-ends
returns-clause-ends g c = λ column.
    let value = g.E.Number.value in
    let packed = c.args.packed.now in
    let number : ℕ → Value = λ place. Int (value (g.E.FixedWidth.of_bits (element_at g.E.Element.WIDTH packed.values.now place))) in
    let slot : ℕ → Value = where_valid packed.validity.now number in
    let start = c.in-Some.start in
    let to = c.args.to in
    let range = c.with_slots-range.result in
    let found = c.in-Some.ensures.some in
    let low : to_z w128 (of_z w128 c.wide.result) ≡ value range.least = to_z-of_z w128 c.wide.result (record { sfits = c.wide.type_inv }) ∙ c.wide.ensures in
    let high : to_z w128 (of_z w128 c.wide-2.result) ≡ value range.greatest = to_z-of_z w128 c.wide-2.result (record { sfits = c.wide-2.type_inv }) ∙ c.wide-2.ensures in
    let all : ends_with None slot c.args.from to ≡ ends_with (Some (number start, number start)) slot (start + 1) to =
    found.nulls number ∙ pass_valid None packed.validity.now number start to found.high found.valid in
    let rest : Some (Int (value range.least), Int (value range.greatest)) ≡ ends_with (Some (number start, number start)) slot (start + 1) to =
    c.with_slots-range.ensures ∙ ap (λ x. ends_with (Some (Int (value x), Int (value x))) slot (start + 1) to) c.read-number.ensures in
    let ends : Option (Value × Value) = Some (Int (to_z w128 (of_z w128 c.wide.result)), Int (to_z w128 (of_z w128 c.wide-2.result))) in
    let are : ends ≡ Some (Int (value range.least), Int (value range.greatest)) =
    ap (λ (least : ℤ). Some (Int least, Int (to_z w128 (of_z w128 c.wide-2.result)))) low ∙ ap (λ (greatest : ℤ). Some (Int (value range.least), Int greatest)) high in
    are ∙ rest ∙ sym all
