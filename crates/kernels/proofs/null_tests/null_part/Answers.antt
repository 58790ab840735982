use Rattle.std.proofs.Common.{◌≡◌, ℕ, ◌+◌, Bool, List, Option, ap, sym, ◌∙◌, arith}
use Rattle.scan_base.specs.declared.truth.Truth.TheVariants.{False}
use Rattle.scan_base.specs.Comparison.{nullness}
use Rattle.scan_base.specs.Truth.{truth_from}
use Rattle.scan_base.specs.Value.{is_null}
use Rattle.arrays.specs.declared.layout.Layout.{Layout}
use Rattle.arrays.specs.Column.{slot_of}
use Rattle.arrays.specs.Layout.{layout_slot}
use Rattle.kernels.specs.Nulls.{null_truth}
use Rattle.kernels.proofs.Alike.{said_alike}
use Rattle.kernels.proofs.NullTruths.{none_null}
use Rattle.kernels.proofs.WordRows.{same_range}
use Rattle.kernels.proofs.null_tests.null_part.Goals as goal

pub returns-then-null_count-eq0 : goal.returns-then-null_count-eq0
returns-then-null_count-eq0 c =
    let part = c.args.part.now in
    let column = part.column.now in
    c.in_ok-mask.ensures
    ∙ said_alike (λ (row : ℕ). nullness (slot_of column row)) False part.from part.len
    (λ i lt. none_null (slot_of column) column.len (part.from + i) (sym c.null_count.ensures ∙ c.if-null_count-eq0.true) (omega (arith, c.requires, lt)))

pub returns-in_ok-mask-in-Some : goal.returns-in_ok-mask-in-Some
returns-in_ok-mask-in-Some c =
    let part = c.args.part.now in
    let column = part.column.now in
    let kernel = c.null_slots-kernel.result in
    let tells = c.in-Some.ensures in
    let first = c.first.result in
    c.in_ok-mask-in-Some.ensures
    ∙ same_range (null_truth kernel.validity.now) (λ (row : ℕ). nullness (slot_of column row)) (first + part.from) part.from part.len (λ i lt.
    let place : ℕ = first + part.from + i in
    let at : place ≡ column.first + (part.from + i) = omega (arith, c.first.ensures) in
    ap (λ (v : Option (List Bool)). null_truth v place) c.null_slots-kernel.ensures.validity
    ∙ ap truth_from (sym (tells.nulls place) ∙ ap (λ (p : ℕ). is_null (layout_slot c.layout.result p)) at ∙ ap (λ (l : Layout). is_null (layout_slot l (column.first + (part.from + i)))) c.layout.ensures.value))
