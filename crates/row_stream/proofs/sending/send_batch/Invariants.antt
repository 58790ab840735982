use Rattle.std.proofs.Common.{◌≡◌, ◌≤◌, ◌<◌, ◌-◌}
use Rattle.row_stream.proofs.Cuts.{SentTo}
use Rattle.row_stream.proofs.sending.send_batch.Given as goal

abbrev pub invariant-loop-at : goal.invariant-loop-at
invariant-loop-at g l = record {
  within : l.at ≤ l.fn.batch.rows;
  some : 0 < l.most;
  few : l.most ≤ 65536;
  sent : SentTo l.fn.dresser l.fn.batch l.at (g.W.Output.contents l.fn.writer) (g.W.Output.contents l.writer) l.fn.outbox l.outbox;
  count : g.W.Output.failures l.writer ≡ g.W.Output.failures l.fn.writer;
}

abbrev pub decreases-loop-at : goal.decreases-loop-at
decreases-loop-at g l = l.fn.batch.rows - l.at
