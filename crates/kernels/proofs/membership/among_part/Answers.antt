use Rattle.std.proofs.Common.{◌≡◌, ℕ, ◌+◌, List, map, ap, ◌∙◌, arith}
use Rattle.std.specs.List.{range_with_len}
use Rattle.scan_base.specs.declared.truth.Truth.{Truth}
use Rattle.scan_base.specs.declared.value.Value.{Value}
use Rattle.scan_base.specs.Predicate.{any_equal}
use Rattle.arrays.specs.declared.layout.Layout.{Layout}
use Rattle.arrays.specs.declared.layout.Layout.TheVariants.{Integers}
use Rattle.arrays.specs.Column.{slot_of}
use Rattle.arrays.specs.Layout.{layout_slot}
use Rattle.kernels.specs.Parts.{said_of}
use Rattle.kernels.proofs.AmongCodes.{found_again}
use Rattle.kernels.proofs.WordRows.{same_range}
use Rattle.kernels.proofs.membership.among_part.Goals as goal

pub returns-in-Integers : goal.returns-in-Integers
returns-in-Integers c =
    let part = c.args.part.now in
    let column = part.column.now in
    let items = c.args.items.now in
    let cells = c.in-Integers.cells in
    let first = c.first.result + part.from in
    found_again c.integers_among.result
    (λ (mask : List Truth). (cell : ℕ → Value) → mask ≡ map (λ place. any_equal cell (layout_slot (Integers cells) place) items) (range_with_len first part.len))
    (λ (mask : List Truth). (cell : ℕ → Value) → mask ≡ said_of (λ value. any_equal cell value items) part)
    (λ mask had cell. had cell
    ∙ same_range (λ (place : ℕ). any_equal cell (layout_slot (Integers cells) place) items) (λ (place : ℕ). any_equal cell (slot_of column place) items) first part.from part.len (λ i lt.
    let at : c.first.result + part.from + i ≡ column.first + (part.from + i) = omega (arith, c.first.ensures) in
    ap (λ (v : Value). any_equal cell v items)
    (ap (layout_slot (Integers cells)) at ∙ ap (λ (l : Layout). layout_slot l (column.first + (part.from + i))) c.in-Integers.ensures.value)))
    c.integers_among.ensures
