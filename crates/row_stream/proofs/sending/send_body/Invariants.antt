use Rattle.std.proofs.Common.{◌≡◌, take}
use Rattle.std.specs.List.{flat_map}
use Rattle.flatbuf.specs.Block.{padded}
use Rattle.grpc_frame.specs.Sending.{Sent}
use Rattle.row_stream.proofs.sending.send_body.Given as goal

abbrev pub invariant-loop-buffer : goal.invariant-loop-buffer
invariant-loop-buffer g l = record {
  sent : Sent (g.W.Output.contents l.initial.writer) (g.W.Output.contents l.writer) l.initial.outbox l.outbox (flat_map padded (take l.buffer-index l.buffers));
  count : g.W.Output.failures l.writer ≡ g.W.Output.failures l.initial.writer;
}
