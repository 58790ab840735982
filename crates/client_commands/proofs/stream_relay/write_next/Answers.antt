use Rattle.std.proofs.Common.{◌∷◌, ◌++◌}
use Rattle.std.proofs.lemmas.Result.{err_from_is_err_and}
use Rattle.flight_proto.specs.FlightInfo.{endpoint_said}
use Rattle.command_ends.specs.Printing.{said_of}
use Rattle.client_commands.specs.inside.Runs.{HandoverAt}
use Rattle.client_commands.proofs.Rows.{passes_behind, stops_behind}
use Rattle.client_commands.proofs.stream_relay.write_next.Goals as goal

pub returns-in_err-passing-clause-passes : goal.returns-in_err-passing-clause-passes
returns-in_err-passing-clause-passes g c before front line begun passed =
    let p = err_from_is_err_and c.from_residual.result c.from_residual.ensures.1 in
    let mid = said_of g.O.Output c.args.output.now in
    let stops = c.in_err-passing.ensures.opens (before ++ passed.streams) begun passed.sent in
    rw (p.1, p.2) (λ behind. stops_behind g.F.RowWriter.format before front line begun mid _ c.args.passed passed (endpoint_said c.args.endpoint.now ∷ behind) _ (stops behind))

pub returns-clause-passes : goal.returns-clause-passes
returns-clause-passes g c before front line begun passed =
    let mid = said_of g.O.Output c.args.output.now in
    let opened = c.in_ok-passing.ensures.opens (before ++ passed.streams) begun passed.sent in
    let endpoint = endpoint_said c.args.endpoint.now in
    passes_behind g.F.RowWriter.format before front line begun mid _ c.args.passed passed (λ (now : HandoverAt). now) endpoint c.write_begun.result (c.write_begun.ensures.passes (before ++ passed.streams) endpoint c.args.passed.line begun opened)
