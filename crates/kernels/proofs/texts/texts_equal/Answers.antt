use Rattle.std.proofs.Common.{◌≡◌, ℕ, ◌+◌, Bool, List, Option, ap, ◌∙◌, arith}
use Rattle.scan_base.specs.declared.truth.Truth.{Truth}
use Rattle.scan_base.specs.declared.value.Value.{Value}
use Rattle.scan_base.specs.declared.value.Value.TheVariants.{Text}
use Rattle.scan_base.specs.declared.comparison.Comparison.TheVariants.{Equal}
use Rattle.scan_base.specs.Comparison.{compared}
use Rattle.arrays.specs.declared.layout.Layout.{Layout}
use Rattle.arrays.specs.declared.layout.Layout.TheVariants.{Texts}
use Rattle.arrays.specs.Column.{slot_of}
use Rattle.arrays.specs.Layout.{layout_slot}
use Rattle.arrays.specs.Validity.{is_valid}
use Rattle.kernels.specs.Ranges.{where_known}
use Rattle.kernels.specs.TextTests.{cut_at, is_text_at}
use Rattle.kernels.proofs.TextCuts.{equal_slot}
use Rattle.kernels.proofs.WordRows.{same_range}
use Rattle.kernels.proofs.texts.texts_equal.Goals as goal

pub returns-in_ok-mask-in-Texts : goal.returns-in_ok-mask-in-Texts
returns-in_ok-mask-in-Texts c =
    let part = c.args.part.now in
    let column = part.column.now in
    let cells = c.in-Texts.cells in
    let kernel = c.equal_texts-kernel.result in
    let is = c.equal_texts-kernel.ensures in
    let other = c.args.other.now in
    let first = c.first.result in
    let f : ℕ → Truth = λ place. where_known (is_valid kernel.validity.now place) (is_text_at kernel.needle kernel.offsets.now kernel.bytes.now place) in
    let g : ℕ → Truth = λ row. compared Equal (slot_of column row) (Text other) in
    c.in_ok-mask-in-Texts.ensures
    ∙ same_range f g (first + part.from) part.from part.len (λ i lt.
    let place : ℕ = first + part.from + i in
    let known : Bool = is_valid cells.validity place in
    let at : place ≡ column.first + (part.from + i) = omega (arith, c.first.ensures) in
    ap (λ (v : Option (List Bool)). where_known (is_valid v place) (is_text_at kernel.needle kernel.offsets.now kernel.bytes.now place)) is.validity
    ∙ ap (λ (t : List ℕ). where_known known (is_text_at t kernel.offsets.now kernel.bytes.now place)) is.needle
    ∙ ap (λ (o : List ℕ). where_known known (is_text_at other o kernel.bytes.now place)) is.offsets
    ∙ ap (λ (b : List ℕ). where_known known (is_text_at other cells.offsets b place)) is.bytes
    ∙ equal_slot known (cut_at cells.offsets cells.bytes place) other
    ∙ ap (λ (value : Value). compared Equal value (Text other))
    (ap (layout_slot (Texts cells)) at ∙ ap (λ (l : Layout). layout_slot l (column.first + (part.from + i))) c.in-Texts.ensures.value))
