use Rattle.std.proofs.Common.{◌≡◌, ◌+◌, length}
use Rattle.table_versions.specs.StatsPages.{AreRowsFrom}
use Rattle.table_versions.proofs.growing_table.GrowingTable.rows_from.Given as goal

-- those of the batches before this one
abbrev pub invariant-loop-index : goal.invariant-loop-index
invariant-loop-index l = record {
  long : l.fn.first + length l.rows.items ≡ l.index;
  are : AreRowsFrom l.self.batches l.fn.first l.rows.items;
}
