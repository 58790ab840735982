use Rattle.std.proofs.Common.{◌≡◌, take}
use Rattle.std.specs.List.{flat_map}
use Rattle.grpc_frame.specs.Sending.{Sent}
use Rattle.row_text.proofs.Rows.{batch_rows}
use Rattle.row_text.proofs.walk.send_batches.Given as goal

abbrev pub invariant-loop-batch : goal.invariant-loop-batch
invariant-loop-batch g l = record {
  sent : Sent (g.W.Output.contents l.initial.writer) (g.W.Output.contents l.writer) l.initial.outbox l.outbox (flat_map (batch_rows (g.F.RowFormat.format l.format)) (take l.batch-index l.batches));
  count : g.W.Output.failures l.writer ≡ g.W.Output.failures l.initial.writer;
}
