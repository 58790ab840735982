use Rattle.std.proofs.Common.{◌≡◌, take}
use Rattle.std.specs.List.{flat_map}
use Rattle.arrays.specs.Batch.{rows_of}
use Rattle.grpc_frame.specs.Sending.{Sent}
use Rattle.row_text.specs.Rows.{values_row}
use Rattle.row_text.proofs.walk.send_batch.Given as goal

abbrev pub invariant-loop-place : goal.invariant-loop-place
invariant-loop-place g l = record {
  sent : Sent (g.W.Output.contents l.initial.writer) (g.W.Output.contents l.writer) l.initial.outbox l.outbox (flat_map (values_row (g.F.RowFormat.format l.format)) (take l.place (rows_of l.batch)));
  count : g.W.Output.failures l.writer ≡ g.W.Output.failures l.initial.writer;
}
