use Rattle.std.proofs.Common.{◌≤◌, ◌<◌, ◌+◌}
use Rattle.row_stream.proofs.batch_cuts.next_cut.Given as goal

abbrev pub invariant-loop-rows : goal.invariant-loop-rows
invariant-loop-rows l = record {
  some : 0 < l.rows;
  few : l.rows ≤ l.fn.most;
  within : l.fn.at + l.rows ≤ l.fn.batch.rows;
}

abbrev pub decreases-loop-rows : goal.decreases-loop-rows
decreases-loop-rows l = l.rows
