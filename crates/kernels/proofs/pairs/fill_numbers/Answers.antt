use Rattle.std.proofs.Common.{◌≡◌, ◌+◌, ℕ, ℤ, Bool, List, Option, pos, get_or, if◌then◌else◌, sym, ap, ◌∙◌, arith}
use Rattle.std.specs.Int.{w128, cast_signed}
use Rattle.scan_base.specs.declared.value.Value.TheVariants.{Null, Int}
use Rattle.arrays.specs.declared.layout.Layout.{Layout}
use Rattle.arrays.specs.declared.layout.Layout.TheVariants.{Integers, Decimals}
use Rattle.arrays.specs.Layout.{layout_slot}
use Rattle.arrays.specs.Number.{element_at}
use Rattle.arrays.specs.Validity.{is_valid}
use Rattle.arrays.specs.inside.SignedNumbers.{signed128}
use Rattle.kernels.proofs.pairs.fill_numbers.Goals as goal

pub returns-in-Integers : goal.returns-in-Integers
returns-in-Integers c = λ row lt.
    let column = c.args.column.now in
    let from = c.args.from in
    let cells = c.in-Integers.cells in
    let place : ℕ = c.first.result + from + row in
    let at : column.first + (from + row) ≡ place = omega (arith, c.first.ensures) in
    let block = c.fill_integers.new.block in
    sym (ap (λ (l : Layout). layout_slot l (column.first + (from + row))) c.in-Integers.ensures.value)
    ∙ ap (layout_slot (Integers cells)) at
    ∙ ap (λ (z : ℤ). if is_valid cells.validity place then Int z else Null) (sym (c.fill_integers.ensures row lt))
    ∙ ap (λ (b : Bool). if b then Int (get_or block row (pos 0)) else Null)
    (sym (c.valid_word.ensures row lt ∙ ap (λ (v : Option (List Bool)). is_valid v place) c.validity.ensures))

pub returns-in-Decimals : goal.returns-in-Decimals
returns-in-Decimals c = λ row lt.
    let column = c.args.column.now in
    let from = c.args.from in
    let cells = c.in-Decimals.cells in
    let place : ℕ = c.first.result + from + row in
    let at : column.first + (from + row) ≡ place = omega (arith, c.first.ensures) in
    let block = c.fill_cells.new.block in
    sym (ap (λ (l : Layout). layout_slot l (column.first + (from + row))) c.in-Decimals.ensures.value)
    ∙ ap (layout_slot (Decimals cells)) at
    ∙ ap (λ (z : ℤ). if is_valid cells.validity place then Int z else Null)
    (sym (c.fill_cells.ensures row lt ∙ ap (λ (v : List ℕ). cast_signed w128 (element_at 16 v place)) c.values.ensures ∙ signed128 (element_at 16 cells.values place)))
    ∙ ap (λ (b : Bool). if b then Int (get_or block row (pos 0)) else Null)
    (sym (c.valid_word-in-Decimals.ensures row lt ∙ ap (λ (v : Option (List Bool)). is_valid v place) c.validity-in-Decimals.ensures))
