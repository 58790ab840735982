use Rattle.std.proofs.Common.{◌≡◌, take}
use Rattle.std.specs.List.{flat_map}
use Rattle.grpc_frame.specs.Sending.{Sent}
use Rattle.row_stream.specs.inside.Frames.{written_frame}
use Rattle.row_stream.proofs.sending.send_dictionaries.Given as goal

abbrev pub invariant-loop-dictionary : goal.invariant-loop-dictionary
invariant-loop-dictionary g l = record {
  sent : Sent (g.W.Output.contents l.initial.writer) (g.W.Output.contents l.writer) l.initial.outbox l.outbox (flat_map written_frame (take l.dictionary-index l.dictionaries));
  count : g.W.Output.failures l.writer ≡ g.W.Output.failures l.initial.writer;
}
