-- Inside: the sources of rows.
use Rattle.std.specs.Prelude.{◌-◌}
use Rattle.typed_plan.specs.TypedPlans.{types_of}
use Rattle.row_sources.specs.declared.place.PlaceRows.{PlaceRows}
use Rattle.batch_skipping.specs.OpenedBatches.{batches_in}
use Rattle.row_sources.specs.PlaceCursor.{rows_ahead}
use Rattle.row_sources.specs.Running.{RowsAt}

-- the rows of a place, before its filters
abbrev pub rows_of_place : PlaceRows → RowsAt
rows_of_place place = record {
  types = types_of place.table.schema.fields;
  ahead = rows_ahead place.table place.cursor;
  batches = batches_in place.cursor.from place.cursor.to place.table.batches;
  opened = batches_in place.cursor.from place.cursor.at place.table.batches;
  depth = 0;
  unseen = place.cursor.to - place.cursor.at;
}
