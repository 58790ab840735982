use Rattle.std.proofs.Common.{◌≡◌, ℕ, List, map, sym, ap, ◌∙◌}
use Rattle.std.specs.List.{range_with_len}
use Rattle.scan_base.specs.Predicate.{cell_in}
use Rattle.scan_base.specs.View.{pred_of}
use Rattle.scan_base.specs.declared.truth.Truth.{Truth}
use Rattle.arrays.specs.Column.{slot_of}
use Rattle.kernels.specs.Entries.{truth_at}
use Rattle.kernels.specs.Parts.{said_of}
use Rattle.kernels.specs.Rows.{read_cells, truth_in, truths_of}
use Rattle.kernels.proofs.AmongCodes.{found_again}
use Rattle.kernels.proofs.EntryRows.{alone_truth}
use Rattle.kernels.proofs.WordRows.{same_map}
use Rattle.kernels.proofs.dictionaries.dictionary_leaf.Goals as goal

pub returns-else-rows-number : goal.returns-else-rows-number
returns-else-rows-number c =
    let p = pred_of c.args.predicate.now in
    let rows = c.args.rows.now in
    let columns = rows.columns.columns.now in
    let read = rows.columns.read.now in
    let part = c.part.result in
    let f : ℕ → Truth = λ place. truth_at p (slot_of part.column.now place) in
    found_again c.entries_part.result (λ (mask : List Truth). mask ≡ said_of (truth_at p) part) (λ (mask : List Truth). mask ≡ truths_of columns read p rows.from rows.len)
    (λ mask had. had
    ∙ ap (λ (n : ℕ). map f (range_with_len n part.len)) c.part.ensures.from
    ∙ ap (λ (n : ℕ). map f (range_with_len rows.from n)) c.part.ensures.len
    ∙ same_map f (truth_in columns read p) (λ row.
    ap (truth_at p) (c.part.ensures.cells row) ∙ sym (alone_truth c.in-Some.number (cell_in (read_cells columns read row)) p c.in-Some.ensures)) (range_with_len rows.from rows.len))
    c.entries_part.ensures
