-- Inside: where a cursor stands among the batches of a table, and how it goes on.
use Rattle.std.specs.Prelude.{◌≡◌, ◌≤◌, ◌<◌, ◌⊎◌, ℕ, ◌+◌, List, ◌++◌, length, map, slice_get, Some}
use Rattle.std.specs.Prelude.{None, min, ◌-◌}
use Rattle.std.specs.List.{last_or, range_with_len}
use Rattle.arrays.specs.Batch.{rows_of, cut_batch}
use Rattle.arrays.specs.TypedLayouts.{AreOf}
use Rattle.scan_base.specs.Limits.{most_rows}
use Rattle.table_versions.specs.StoredTables.{TableAt, table_of}
use Rattle.table_versions.specs.Standing.{rows_before}
use Rattle.table_versions.specs.Table.{Row}
use Rattle.typed_plan.specs.TypedPlans.{types_of}
use Rattle.row_sources.specs.declared.cursor.Cursor.{Cursor}
use Rattle.row_sources.specs.declared.batch_slice.BatchSlice.{BatchSlice}
use Rattle.row_sources.specs.Parts.{numbered_parts, numbered_rows}
use Rattle.batch_skipping.specs.OpenedBatches.{batches_in}
use Rattle.array_select.specs.Room.{most_batch_rows}

-- Where a cursor stands: between the range's ends, in its batch or at its begin, after the batches
-- that were opened. Each batch before its own has a row, and each of the table has one of the
-- range. One row at least is looked at at once, and not too many are.
pub record IsPlaced (table : TableAt) (cursor : Cursor) : Type 0 where
  pub begun : cursor.from ≤ cursor.at
  pub ordered : cursor.at ≤ cursor.to
  pub few : cursor.at < cursor.to → cursor.to ≤ length (table_of table).rows
  pub start : cursor.start ≡ rows_before table.batches cursor.batch
  pub behind : cursor.at < cursor.to → cursor.start ≤ cursor.at
  pub within : cursor.at < cursor.to →
      (cursor.at ≡ cursor.start) ⊎ (cursor.at < rows_before table.batches (cursor.batch + 1))
  pub filled : cursor.batch ≤ cursor.start
  pub opened : cursor.opened ≡ length (batches_in cursor.from cursor.at table.batches)
  pub fresh : cursor.opened ≡ 0 → cursor.at ≡ cursor.from
  pub each : batches_in cursor.from cursor.to table.batches
      ≡ range_with_len 0 (length table.batches)
  pub looks : 1 ≤ cursor.most
  pub bounded : cursor.most ≤ most_batch_rows

-- before the first row of a range
pub record Begins (from to : ℕ) (cursor : Cursor) : Type 0 where
  pub from_is : cursor.from ≡ from
  pub to_is : cursor.to ≡ to
  pub at_is : cursor.at ≡ from

-- rows of a batch of a table, one or more, no more than are ever looked at at once
pub record IsBatchSlice (table : TableAt) (part : BatchSlice) : Type 0 where
  pub some : part.from < part.to
  pub within : part.to ≤ part.batch.now.rows
  pub short : part.to ≤ part.from + most_batch_rows
  pub few : part.batch.now.rows ≤ most_rows
  pub wide : length part.batch.now.columns ≡ length table.schema.fields
  pub typed : AreOf (types_of table.schema.fields) part.batch.now.columns

-- a part is the next one of a cursor's range
pub record IsNextPart (table : TableAt) (cursor : Cursor) (part : BatchSlice) : Type 0 where
  pub batch : slice_get table.batches cursor.batch ≡ Some part.batch.now
  pub from : part.from ≡ cursor.at - cursor.start
  pub to : part.to ≡ min (min part.batch.now.rows (cursor.to - cursor.start))
      (cursor.at - cursor.start + cursor.most)

-- the rows that a cursor has still to look at
abbrev pub rows_ahead : TableAt → Cursor → List (ℕ × Row)
rows_ahead table cursor = numbered_rows (numbered_parts cursor.at cursor.to table.batches)

-- a part is what is next of the range; as many rows are looked at at once as before
pub record Opens (table : TableAt) (before : Cursor) (part : BatchSlice)
    (after : Cursor) : Type 0 where
  pub from : after.from ≡ before.from
  pub to : after.to ≡ before.to
  pub most : after.most ≡ before.most
  pub forth : before.at < after.at
  pub rows : rows_ahead table before
      ≡ map (λ row. (before.batch, row)) (rows_of (cut_batch part.batch.now part.from part.to))
      ++ rows_ahead table after
  pub latest : last_or None (batches_in after.from after.at table.batches) ≡ Some before.batch

-- the first row of a cursor's range in a batch, counted from the batch's first row, and the first
-- after those in it
abbrev pub begin_in : TableAt → Cursor → ℕ → ℕ
begin_in table cursor number = cursor.from - rows_before table.batches number

abbrev pub end_in : TableAt → Cursor → ℕ → ℕ
end_in table cursor number =
    min (rows_before table.batches (number + 1)) cursor.to - rows_before table.batches number
