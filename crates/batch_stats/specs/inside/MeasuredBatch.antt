-- Statistics of many columns.
use Rattle.std.specs.Prelude.{List}
use Rattle.std.specs.List.{AllZip}
use Rattle.arrays.specs.Column.{ColumnAt}
use Rattle.batch_stats.specs.declared.stats.Stats.{Stats}
use Rattle.batch_stats.specs.HeldStats.{IsStatsOf}

-- there are statistics for each column
abbrev pub AreStatsOf : List ColumnAt → List Stats → Type 0
AreStatsOf columns stats = AllZip IsStatsOf columns stats
