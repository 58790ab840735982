-- Inside: what gives rows, with its filters, before its first row.
use Rattle.std.specs.Prelude.{◌≡◌, ℕ, List, [], length, map}
use Rattle.scan_base.specs.View.{pred_of}
use Rattle.row_sources.specs.declared.build.FilteredSource.{FilteredSource}
use Rattle.row_sources.specs.JoinedRows.{source_at, IsSource}
use Rattle.row_sources.specs.Picking.{PickAt, IsPick}
use Rattle.row_sources.specs.RowSource.{SourceAt}
use Rattle.row_sources.specs.Running.{RowsAt, picked_of}

-- the filters of a source, over the columns that are given
abbrev pub sourced_pick : FilteredSource → PickAt
sourced_pick s = record {
  filters = map pred_of s.filters.items;
  read = s.columns.items;
  shown = s.columns.items;
}

-- the rows that a source gives through its filters
abbrev pub filtered_source_at : FilteredSource → RowsAt
filtered_source_at s = picked_of (sourced_pick s) (source_at s.source)

-- these rows as a caller sees them
abbrev pub source_of : FilteredSource → SourceAt
source_of s = record { rows = filtered_source_at s; count = length (source_at s.source).ahead }

-- these columns of all rows of a source
abbrev pub unfiltered : List ℕ → RowsAt → RowsAt
unfiltered columns source =
    picked_of (record { filters = []; read = columns; shown = columns }) source

-- the columns are there, and of the types
pub record IsFilteredSource (s : FilteredSource) : Type 0 where
  pub source : IsSource s.source
  pub pick : IsPick (length (source_at s.source).types) (sourced_pick s)
  pub types : s.types.items ≡ (filtered_source_at s).types
