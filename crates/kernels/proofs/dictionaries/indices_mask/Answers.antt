use Rattle.std.proofs.Common.{◌≡◌, ◌<◌, ℕ, ◌+◌, Bool, List, Option, map, sym, ap, ◌∙◌, arith}
use Rattle.std.specs.List.{range_with_len}
use Rattle.scan_base.specs.View.{pred_of}
use Rattle.scan_base.specs.declared.truth.Truth.{Truth}
use Rattle.scan_base.specs.declared.value.Value.TheVariants.{Null}
use Rattle.arrow_types.specs.declared.data_type.IntegerType.{IntegerType}
use Rattle.arrays.specs.declared.layout.Layout.{Layout}
use Rattle.arrays.specs.declared.layout.Layout.TheVariants.{Indices}
use Rattle.arrays.specs.Column.{slot_of}
use Rattle.arrays.specs.Indices.{AreIndices}
use Rattle.arrays.specs.Layout.{layout_count, layout_slot}
use Rattle.arrays.specs.Validity.{is_valid}
use Rattle.kernels.specs.Codes.{code_at}
use Rattle.kernels.specs.Entries.{truth_at, truths_at, by_entry}
use Rattle.kernels.specs.Parts.{said_of}
use Rattle.kernels.proofs.AmongCodes.{ok_again}
use Rattle.kernels.proofs.EntryRows.{slot_by_entry}
use Rattle.kernels.proofs.WordRows.{same_range}
use Rattle.kernels.proofs.dictionaries.indices_mask.Goals as goal

pub returns : goal.returns
returns c =
    let p = pred_of c.args.predicate.now in
    let cells = c.args.cells.now in
    let part = c.args.part.now in
    let column = part.column.now in
    let first = c.first.result + part.from in
    let numbers = c.packed_indices.result in
    let is = c.packed_indices.ensures in
    let are : AreIndices cells = rw (c.slots.ensures, c.requires.layout) at c.len.ensures.stands in
    let count : layout_count column.layout ≡ cells.len = ap layout_count c.requires.layout in
    let truths : c.as_slice.result.now ≡ truths_at p cells.dictionary = c.as_slice.ensures.value ∙ c.in_ok-truths.ensures ∙ ap (truths_at p) c.dictionary.ensures in
    let f : ℕ → Truth = λ place. by_entry c.as_slice.result.now c.truth_at.result (is_valid numbers.validity.now place) (code_at numbers.integer numbers.values.now place) in
    ok_again c.mask.result (λ (mask : List Truth). mask ≡ map f (range_with_len first part.len)) (λ (mask : List Truth). mask ≡ said_of (truth_at p) part)
    (λ mask had. had ∙ same_range f (λ (place : ℕ). truth_at p (slot_of column place)) first part.from part.len (λ i lt.
    let place = first + i in
    let at : first + i ≡ column.first + (part.from + i) = omega (arith, c.first.ensures) in
    let low : place < cells.len = omega (arith, at, lt, count, c.requires.part, c.len-len.ensures.stands.within) in
    ap (λ (l : List Truth). by_entry l c.truth_at.result (is_valid numbers.validity.now place) (code_at numbers.integer numbers.values.now place)) truths
    ∙ ap (λ (t : Truth). by_entry (truths_at p cells.dictionary) t (is_valid numbers.validity.now place) (code_at numbers.integer numbers.values.now place)) c.truth_at.ensures
    ∙ ap (λ (v : Option (List Bool)). by_entry (truths_at p cells.dictionary) (truth_at p Null) (is_valid v place) (code_at numbers.integer numbers.values.now place)) is.validity
    ∙ ap (λ (integer : IntegerType). by_entry (truths_at p cells.dictionary) (truth_at p Null) (is_valid cells.validity place) (code_at integer numbers.values.now place)) is.integer
    ∙ ap (λ (values : List ℕ). by_entry (truths_at p cells.dictionary) (truth_at p Null) (is_valid cells.validity place) (code_at cells.index values place)) is.values
    ∙ slot_by_entry p cells place are low
    ∙ ap (λ (n : ℕ). truth_at p (layout_slot (Indices cells) n)) at
    ∙ ap (λ (l : Layout). truth_at p (layout_slot l (column.first + (part.from + i)))) (sym c.requires.layout)))
    c.mask.ensures
