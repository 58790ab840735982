use Rattle.std.proofs.Common.{◌<◌, ◌≤◌, ◌-◌, length}
use Rattle.table_versions.specs.Standing.{rows_before}
use Rattle.table_versions.proofs.table.TableVersion.batch_of.Given as goal

-- the row stands between the begin of the one batch and that of the other
abbrev pub invariant-loop-end : goal.invariant-loop-end
invariant-loop-end l = record {
  ordered : l.index < l.end;
  high : l.end ≤ length l.self.batches;
  behind : rows_before l.self.batches l.index ≤ l.row;
  before : l.row < rows_before l.self.batches l.end;
}

abbrev pub decreases-loop-end : goal.decreases-loop-end
decreases-loop-end l = l.end - l.index
