use Rattle.std.proofs.Common.{◌≡◌, take}
use Rattle.std.specs.List.{flat_map}
use Rattle.grpc_frame.specs.Sending.{Sent}
use Rattle.row_text.specs.Lines.{name_line}
use Rattle.row_text.proofs.line_format.write_names.Given as goal

abbrev pub invariant-loop-name : goal.invariant-loop-name
invariant-loop-name g l = record {
  sent : Sent (g.W.Output.contents l.initial.output) (g.W.Output.contents l.output) l.initial.outbox l.outbox (flat_map name_line (take l.name-index l.names));
  count : g.W.Output.failures l.output ≡ g.W.Output.failures l.initial.output;
}
