use Rattle.std.proofs.Common.{◌≡◌, take}
use Rattle.std.specs.List.{flat_map}
use Rattle.grpc_frame.specs.Sending.{Sent}
use Rattle.row_text.specs.Tables.{rule_cell}
use Rattle.row_text.proofs.table.send_rule.Given as goal

abbrev pub invariant-loop-width : goal.invariant-loop-width
invariant-loop-width g l = record {
  sent : Sent (g.W.Output.contents l.initial.writer) (g.W.Output.contents l.writer) l.initial.outbox l.outbox (flat_map rule_cell (take l.width-index l.widths));
  count : g.W.Output.failures l.writer ≡ g.W.Output.failures l.initial.writer;
}
