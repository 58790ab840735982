-- The statistics of the columns of a batch.
use Rattle.std.specs.Prelude.{ℕ, List, Option, Some, None, slice_get}
use Rattle.arrays.specs.Column.{ColumnAt, values_of}
use Rattle.batch_stats.specs.Stats.{StatsAt, stats_of}

-- the statistics of a column; one that is not there is one null
abbrev pub stats_if_there : Option ColumnAt → StatsAt
stats_if_there (Some column) = stats_of (values_of column)
stats_if_there None = record { ends = None; nulls = 1 }

-- the statistics of the column of a number
abbrev pub stats_in : List ColumnAt → ℕ → StatsAt
stats_in columns number = stats_if_there (slice_get columns number)
