-- Rows that are chosen before they are given.
use Rattle.std.proofs.Common.{◌≡◌, ℕ, ◌-◌, ◌+◌, min, sym, ap, ◌∙◌}
use Rattle.std.specs.List.{filter, range_with_len}
use Rattle.arrays.specs.Batch.{BatchAt, row_of}
use Rattle.table_versions.specs.StoredTables.{TableAt}
use Rattle.row_sources.specs.declared.cursor.Cursor.{Cursor}
use Rattle.row_sources.specs.declared.batch_slice.BatchSlice.{BatchSlice}
use Rattle.row_sources.specs.Picking.{PickAt, holds, chosen_rows}
use Rattle.row_sources.specs.PlaceCursor.{IsNextPart}

-- the same rows are chosen of any part that comes next
pub same_chosen : (table : TableAt) (cursor : Cursor) (pick : PickAt) (one other : BatchSlice) → IsNextPart table cursor one → IsNextPart table cursor other →
    chosen_rows pick one ≡ chosen_rows pick other
same_chosen table cursor pick one other is that =
    let batch : one.batch.now ≡ other.batch.now = let e = sym is.batch ∙ that.batch in cc in
    let from : one.from ≡ other.from = is.from ∙ sym that.from in
    let to : one.to ≡ other.to =
    is.to ∙ ap (λ (b : BatchAt). min (min b.rows (cursor.to - cursor.start)) (cursor.at - cursor.start + cursor.most)) batch ∙ sym that.to in
    ap (λ (b : BatchAt). filter (λ row. holds pick (row_of b.columns row)) (range_with_len one.from (one.to - one.from))) batch
    ∙ ap (λ (n : ℕ). filter (λ row. holds pick (row_of other.batch.now.columns row)) (range_with_len n (one.to - n))) from
    ∙ ap (λ (n : ℕ). filter (λ row. holds pick (row_of other.batch.now.columns row)) (range_with_len other.from (n - other.from))) to
