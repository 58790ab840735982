use Rattle.std.proofs.Common.{◌≡◌, ℕ, List, map, ap, sym, ◌∙◌}
use Rattle.std.specs.List.{range_with_len}
use Rattle.scan_base.specs.declared.truth.Truth.{Truth}
use Rattle.scan_base.specs.declared.comparison.Comparison.{Comparison}
use Rattle.scan_base.specs.declared.comparison.Comparison.TheVariants.{Equal, NotEqual}
use Rattle.scan_base.specs.declared.value.Value.TheVariants.{Text}
use Rattle.scan_base.specs.Comparison.{compared}
use Rattle.scan_base.specs.Truth.{truth_not}
use Rattle.arrays.specs.Column.{slot_of}
use Rattle.kernels.proofs.TextCuts.{unequal_slot, turned}
use Rattle.kernels.proofs.texts.texts_compared.Goals as goal

pub returns-in-Some : goal.returns-in-Some
returns-in-Some c =
    let part = c.args.part.now in
    let other = c.args.other.now in
    let rows : List ℕ = range_with_len part.from part.len in
    let said : Comparison → ℕ → Truth = λ comparison row. compared comparison (slot_of part.column.now row) (Text other) in
    let equal : c.in-Some.mask ≡ map (said Equal) rows = rw c.in-Some.is at c.in_ok-mask-in-NotEqual.ensures in
    c.not.ensures ∙ ap (map truth_not) equal
    ∙ turned (said Equal) (said NotEqual) rows (λ row. unequal_slot (slot_of part.column.now row) other)
    ∙ ap (λ (comparison : Comparison). map (said comparison) rows) (sym c.in-NotEqual.is)
