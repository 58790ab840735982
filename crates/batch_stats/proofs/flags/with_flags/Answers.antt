use Rattle.std.proofs.Common.{◌≡◌, ℕ, ◌+◌, Bool, false, true, not, List, Option, get_or, Some, sym, ap, ◌∙◌}
use Rattle.scan_base.specs.declared.value.Value.{Value}
use Rattle.scan_base.specs.declared.value.Value.TheVariants.{Bool as Flag}
use Rattle.arrays.specs.Validity.{is_valid, where_valid}
use Rattle.batch_stats.specs.Stats.{with_value}
use Rattle.batch_stats.specs.inside.Slots.{ends_with}
use Rattle.batch_stats.proofs.Passes.{pass_null, pass_valid}
use Rattle.batch_stats.proofs.FlagEnds.{both_found, found_again, both_kept, other_of, same_of}
use Rattle.batch_stats.proofs.flags.with_flags.Goals.{else-is_valid-via-then-is_valid+else-get-flag, else-is_valid-via-else-is_valid}
use Rattle.batch_stats.proofs.flags.with_flags.Goals as goal

pub returns-then-get-flag-clause-ends : goal.returns-then-get-flag-clause-ends
returns-then-get-flag-clause-ends c = λ column.
    let flag = c.args.flag in
    let cells = c.args.cells.now in
    let place = c.loop-place.place in
    let to = c.args.to in
    let value : ℕ → Value = λ p. Flag (get_or cells.values p false) in
    let slot : ℕ → Value = where_valid cells.validity value in
    let before : Option (Value × Value) = Some (Flag flag, Flag flag) in
    let known : is_valid cells.validity place ≡ true = sym (ap (λ (v : Option (List Bool)). is_valid v place) c.validity.ensures) ∙ sym c.is_valid.ensures ∙ c.if-is_valid.true in
    let got : get_or cells.values place false ≡ not flag =
    sym (c.get.ensures ∙ ap (λ (v : List Bool). get_or v place false) c.values.ensures) ∙ other_of c.get.result flag c.if-get-flag.true in
    let step : ends_with before slot place to ≡ Some (Flag false, Flag true) =
    pass_valid before cells.validity value place to c.loop-place-test.true known
    ∙ ap (λ (g : Bool). ends_with (with_value before (Flag g)) slot (place + 1) to) got
    ∙ ap (λ (e : Option (Value × Value)). ends_with e slot (place + 1) to) (both_found flag)
    ∙ both_kept slot (place + 1) to in
    let so_far : ends_with before slot place to ≡ ends_with before slot c.args.from to = c.loop-place.invariant in
    sym step ∙ so_far

pub loop-place-preserved : goal.loop-place-preserved
loop-place-preserved c =
    let flag = c.args.flag in
    let cells = c.args.cells.now in
    let place = c.loop-place.place in
    let to = c.args.to in
    let value : ℕ → Value = λ p. Flag (get_or cells.values p false) in
    let slot : ℕ → Value = where_valid cells.validity value in
    let before : Option (Value × Value) = Some (Flag flag, Flag flag) in
    let known : is_valid cells.validity place ≡ c.is_valid.result = sym (ap (λ (v : Option (List Bool)). is_valid v place) c.validity.ensures) ∙ sym c.is_valid.ensures in
    let so_far : ends_with before slot place to ≡ ends_with before slot c.args.from to = c.loop-place.invariant in
    elim c.else-is_valid.branch [
      | else-is_valid-via-then-is_valid+else-get-flag w ↦
          let got : get_or cells.values place false ≡ flag =
          sym (w.get.ensures ∙ ap (λ (v : List Bool). get_or v place false) w.values.ensures) ∙ same_of w.get.result flag w.if-get-flag.false in
          let step : ends_with before slot place to ≡ ends_with before slot (place + 1) to =
          pass_valid before cells.validity value place to c.loop-place-test.true (known ∙ w.if-is_valid.true)
          ∙ ap (λ (g : Bool). ends_with (with_value before (Flag g)) slot (place + 1) to) got
          ∙ ap (λ (e : Option (Value × Value)). ends_with e slot (place + 1) to) (found_again flag) in
          let next : ends_with before slot (place + 1) to ≡ ends_with before slot c.args.from to = sym step ∙ so_far in
          next
      | else-is_valid-via-else-is_valid w ↦
          let next : ends_with before slot (place + 1) to ≡ ends_with before slot c.args.from to =
          sym (pass_null before cells.validity value place to c.loop-place-test.true (known ∙ w.if-is_valid.false)) ∙ so_far in
          next
    ]
