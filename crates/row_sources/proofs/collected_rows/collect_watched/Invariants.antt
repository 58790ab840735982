use Rattle.std.proofs.Common.{◌≡◌, All, ◌+◌, ◌++◌, length}
use Rattle.std.specs.List.{flat_map}
use Rattle.arrays.specs.Batch.{rows_of}
use Rattle.row_sources.specs.CollectedRows.{plain_rows, IsBatchOf}
use Rattle.row_sources.specs.Running.{GoesOn}
use Rattle.row_sources.proofs.collected_rows.collect_watched.Given as goal

-- the rows of the batches so far, and then those that are still to be given
abbrev pub invariant-loop-batches : goal.invariant-loop-batches
invariant-loop-batches g l = record {
  rows : flat_map rows_of l.batches.items ++ plain_rows l.rows.ahead ≡ plain_rows l.fn.rows.ahead;
  each : All (IsBatchOf l.fn.rows.types) l.batches.items;
  on : GoesOn l.fn.rows l.rows;
  ready : g.W.Watches.ready l.watch;
  watched : g.W.Watches.watched l.fn.watch l.watch;
}

abbrev pub decreases-loop-batches : goal.decreases-loop-batches
decreases-loop-batches g l = l.rows.unseen
