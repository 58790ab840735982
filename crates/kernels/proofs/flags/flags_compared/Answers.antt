use Rattle.std.proofs.Common.{◌≡◌, ℕ, ◌+◌, Bool, false, List, Option, get_or, if◌then◌else◌, ap, ◌∙◌, arith}
use Rattle.scan_base.specs.declared.truth.Truth.{Truth}
use Rattle.scan_base.specs.declared.value.Value.{Value}
use Rattle.scan_base.specs.declared.value.Value.TheVariants.{Null, Bool as Flag}
use Rattle.scan_base.specs.Comparison.{compared}
use Rattle.arrays.specs.declared.layout.Layout.{Layout}
use Rattle.arrays.specs.declared.layout.Layout.TheVariants.{Bools}
use Rattle.arrays.specs.Column.{slot_of}
use Rattle.arrays.specs.Layout.{layout_slot}
use Rattle.arrays.specs.Validity.{is_valid}
use Rattle.kernels.specs.Ranges.{where_known}
use Rattle.kernels.proofs.FlagTruths.{flag_slot}
use Rattle.kernels.proofs.WordRows.{same_range}
use Rattle.kernels.proofs.flags.flags_compared.Goals as goal

pub returns-in_ok-mask-in-Bools : goal.returns-in_ok-mask-in-Bools
returns-in_ok-mask-in-Bools c =
    let part = c.args.part.now in
    let column = part.column.now in
    let cells = c.in-Bools.cells in
    let kernel = c.flag_tests-kernel.result in
    let is = c.flag_tests-kernel.ensures in
    let f : ℕ → Truth = λ place. where_known (is_valid kernel.validity.now place) (if get_or kernel.values.now place false then kernel.of_true else kernel.of_false) in
    let g : ℕ → Truth = λ row. compared c.args.comparison (slot_of column row) (Flag c.args.other) in
    c.in_ok-mask-in-Bools.ensures
    ∙ same_range f g (c.first.result + part.from) part.from part.len (λ i lt.
    let place : ℕ = c.first.result + part.from + i in
    let at : place ≡ column.first + (part.from + i) = omega (arith, c.first.ensures) in
    flag_slot c.args.comparison (is_valid kernel.validity.now place) (get_or kernel.values.now place false) c.args.other kernel.of_true kernel.of_false is.of_true is.of_false
    ∙ ap (λ (value : Value). compared c.args.comparison value (Flag c.args.other))
    (ap (λ (v : Option (List Bool)). if is_valid v place then Flag (get_or kernel.values.now place false) else Null) is.validity
    ∙ ap (λ (l : List Bool). if is_valid cells.validity place then Flag (get_or l place false) else Null) is.values
    ∙ ap (layout_slot (Bools cells)) at ∙ ap (λ (l : Layout). layout_slot l (column.first + (part.from + i))) c.in-Bools.ensures.value))
