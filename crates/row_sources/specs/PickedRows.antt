-- Batches of the rows of a source that are given.
use Rattle.std.specs.Prelude.{◌≡◌, ◌<◌, ℕ, IsTrue, All, List, [], length, map, Option, Some, None}
use Rattle.std.specs.Prelude.{Result, Ok, Err}
use Rattle.std.specs.List.{AllZip, filter}
use Rattle.std.specs.declared.alloc.AllocError.{AllocError}
use Rattle.arrow_types.specs.declared.data_type.DataType.{DataType}
use Rattle.arrays.specs.Batch.{BatchAt, rows_of, cut_batch}
use Rattle.arrays.specs.Column.{ColumnAt, slot_of, values_of}
use Rattle.arrays.specs.TypedLayouts.{AreOf, IsOfType}
use Rattle.table_versions.specs.Table.{Row}
use Rattle.typed_plan.specs.TypedPlans.{type_at}
use Rattle.row_sources.specs.declared.batch_slice.BatchSlice.{BatchSlice}
use Rattle.batch_skipping.specs.ChosenColumns.{are_within, columns_at}
use Rattle.row_sources.specs.Picking.{PickAt, cells_at, holds}

-- what is given of rows of the source
abbrev pub given : PickAt → List Row → List Row
given pick rows = map (cells_at pick.shown) (filter (holds pick) rows)

-- a column has the slots of another at these places, and its types
pub record HasSlotsAt (places : List ℕ) (column made : ColumnAt) : Type 0 where
  pub values : values_of made ≡ map (slot_of column) places
  pub long : made.len ≡ length places
  pub typed : (data_type : DataType) → IsOfType data_type column.layout →
      IsOfType data_type made.layout

-- a batch has these columns of the rows of another at these places
pub record HasRowsAt (places numbers : List ℕ) (batch made : BatchAt) : Type 0 where
  pub rows : made.rows ≡ length places
  pub columns : AllZip (HasSlotsAt places) (columns_at numbers batch.columns) made.columns

-- what is given of a part of a batch
abbrev pub given_of_part : PickAt → BatchSlice → List Row
given_of_part pick part = given pick (rows_of (cut_batch part.batch.now part.from part.to))

-- a batch is what is given of a part: one row or more, in columns of the types of those that are
-- shown
pub record IsPicked (pick : PickAt) (part : BatchSlice) (batch : BatchAt) : Type 0 where
  pub rows : rows_of batch ≡ given_of_part pick part
  pub some : 0 < batch.rows
  pub typed : (types : List DataType) → AreOf types part.batch.now.columns →
      AreOf (map (type_at types) pick.shown) batch.columns

-- a batch of what is given of a part, or nothing where that is no row
abbrev pub Picks : PickAt → BatchSlice → Result (Option BatchAt) AllocError → Type 0
Picks pick part (Ok (Some batch)) = IsPicked pick part batch
Picks pick part (Ok None) = given_of_part pick part ≡ []
Picks pick part (Err _) = Unit {0}
