-- Rows that are read without their filters, which choose among them later.
use Rattle.std.specs.Prelude.{◌≡◌, length}
use Rattle.std.specs.List.{filter}
use Rattle.row_sources.specs.declared.row_source.UnfilteredRows.{UnfilteredRows}
use Rattle.row_sources.specs.CollectedRows.{plain_rows}
use Rattle.row_sources.specs.Picking.{IsPick, holds, pick_of}
use Rattle.row_sources.specs.RowSource.{SourceAt}

-- All rows of a source, in columns of its types, with the filters that let through the rows that it
-- gives.
pub record IsUnfiltered (source : SourceAt) (made : UnfilteredRows) : Type 0 where
  pub types : made.types.items ≡ source.rows.types
  pub typed : made.rows.types ≡ source.rows.types
  pub pick : IsPick (length source.rows.types) (pick_of made.picker)
  pub kept : filter (holds (pick_of made.picker)) (plain_rows made.rows.ahead)
      ≡ plain_rows source.rows.ahead
  pub count : length made.rows.ahead ≡ source.count
  pub batches : made.rows.batches ≡ source.rows.batches
  pub opened : made.rows.opened ≡ source.rows.opened
