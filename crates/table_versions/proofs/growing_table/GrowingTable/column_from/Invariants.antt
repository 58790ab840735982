use Rattle.std.proofs.Common.{◌≡◌, ◌+◌, length}
use Rattle.table_versions.specs.StatsPages.{AreStatsFrom}
use Rattle.table_versions.proofs.growing_table.GrowingTable.column_from.Given as goal

-- those of the batches before this one
abbrev pub invariant-loop-index : goal.invariant-loop-index
invariant-loop-index l = record {
  long : l.fn.first + length l.all.items ≡ l.index;
  are : AreStatsFrom l.self.batches l.fn.first l.fn.column l.all.items;
}
