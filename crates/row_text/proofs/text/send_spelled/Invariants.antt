use Rattle.std.proofs.Common.{◌≡◌, ◌≤◌, take}
use Rattle.std.specs.List.{flat_map}
use Rattle.grpc_frame.specs.Sending.{Sent}
use Rattle.row_text.proofs.Escapes.{run}
use Rattle.row_text.proofs.text.send_spelled.Given as goal

abbrev pub invariant-loop-at : goal.invariant-loop-at
invariant-loop-at g l = record {
  sent : Sent (g.W.Output.contents l.initial.writer) (g.W.Output.contents l.writer) l.initial.outbox l.outbox (flat_map g.S.Spelling.spelled (take l.from l.bytes));
  plain : flat_map g.S.Spelling.spelled (run l.bytes l.from l.at) ≡ run l.bytes l.from l.at;
  within : l.from ≤ l.at;
  count : g.W.Output.failures l.writer ≡ g.W.Output.failures l.initial.writer;
}
