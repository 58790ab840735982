use Rattle.std.proofs.Common.{◌≡◌, ℕ, length, slice_get, Some, Vec}
use Rattle.std.specs.Global.{Global}
use Rattle.batch_stats.specs.declared.owned_stats.OwnedStats.{OwnedStats}
use Rattle.table_versions.specs.StatsPages.{AreStatsFrom}
use Rattle.table_versions.proofs.growing_table.GrowingTable.page_from.Given as goal

-- the columns before this one
abbrev pub invariant-loop-column : goal.invariant-loop-column
invariant-loop-column l = record {
  long : length l.columns.items ≡ l.column;
  are : (column : ℕ) (all : Vec OwnedStats Global) → slice_get l.columns.items column ≡ Some all → AreStatsFrom l.self.batches l.fn.first column all.items;
}
