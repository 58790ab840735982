use Rattle.std.proofs.Common.{◌≡◌, ℕ, ◌+◌, true, Option, Some, inl, inr, sym, ap, ◌∙◌, arith}
use Rattle.std.proofs.lemmas.Bool.{cases_Bool}
use Rattle.scan_base.specs.declared.value.Value.{Value}
use Rattle.scan_base.specs.declared.value.Value.TheVariants.{Int}
use Rattle.arrays.specs.Number.{element_at}
use Rattle.arrays.specs.Validity.{is_valid, where_valid}
use Rattle.batch_stats.specs.Stats.{with_value}
use Rattle.batch_stats.specs.inside.Slots.{ends_with}
use Rattle.batch_stats.proofs.Passes.{pass_kept, pass_null, pass_valid, where_null, where_some}
use Rattle.batch_stats.proofs.numbers.NumberRange.with_each_valid.Goals.{then-not-has+then-is_valid, else-not-has, else-not-has-via-then-not-has+else-is_valid, else-not-has-via-else-not-has}
use Rattle.batch_stats.proofs.numbers.NumberRange.with_each_valid.Goals as goal

pub loop-place-preserved : goal.loop-place-preserved
loop-place-preserved g c =
    let value = g.E.Number.value in
    let packed = c.args.packed.now in
    let bits = packed.validity.now in
    let number : ℕ → Value = λ place. Int (value (g.E.FixedWidth.of_bits (element_at g.E.Element.WIDTH packed.values.now place))) in
    let slot : ℕ → Value = where_valid bits number in
    let place = c.loop-place.place in
    let to = c.args.to in
    let low = c.loop-place-test.true in
    let range = c.loop-place.range in
    let before : Option (Value × Value) = Some (Int (value range.least), Int (value range.greatest)) in
    let all : Option (Value × Value) = ends_with (Some (Int (value c.args.self.least), Int (value c.args.self.greatest))) slot c.args.from to in
    let so_far : ends_with before slot place to ≡ all = c.loop-place.invariant in
    elim c.if-not-has.branch [
      | then-not-has+then-is_valid w ↦
          let after : Option (Value × Value) = Some (Int (value w.with-range.result.least), Int (value w.with-range.result.greatest)) in
          let more : after ≡ with_value before (number place) = w.with-range.ensures ∙ ap (λ x. with_value before (Int (value x))) c.read-number.ensures in
          let next : ends_with after slot (place + 1) to ≡ all =
          ap (λ ends. ends_with ends slot (place + 1) to) more
          ∙ sym (pass_valid before bits number place to low (sym w.is_valid.ensures ∙ w.if-is_valid.true)) ∙ so_far in
          rw w.range-is next
      | else-not-has w ↦ elim w.else-not-has.branch [
        | else-not-has-via-then-not-has+else-is_valid v ↦
            let next : ends_with before slot (place + 1) to ≡ all = sym (pass_null before bits number place to low (sym v.is_valid.ensures ∙ v.if-is_valid.false)) ∙ so_far in
            rw w.range-is next
        | else-not-has-via-else-not-has v ↦
            let has : c.has.result ≡ true = grind (arith, v.if-not-has.false) in
            let stays : with_value before (number place) ≡ before = sym (ap (λ x. with_value before (Int (value x))) c.read-number.ensures) ∙ c.has.ensures has in
            let same : with_value before (slot place) ≡ before = elim (cases_Bool (is_valid bits place)) [
              | inl valid ↦ ap (with_value before) (where_some bits number place valid) ∙ stays
              | inr null ↦ ap (with_value before) (where_null bits number place null)
            ] in
            let next : ends_with before slot (place + 1) to ≡ all = sym (pass_kept before slot place to low same) ∙ so_far in
            rw w.range-is next
      ]
    ]
