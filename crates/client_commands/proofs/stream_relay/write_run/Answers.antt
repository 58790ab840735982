use Rattle.std.proofs.Common.{◌≡◌, ◌+◌, ◌∷◌, map, take, drop, arith, subst, sym, ◌∙◌, take_all}
use Rattle.std.proofs.lemmas.Result.{err_from_is_err_and}
use Rattle.flight_proto.specs.FlightInfo.{endpoint_said}
use Rattle.command_ends.specs.Printing.{said_of}
use Rattle.client_commands.specs.inside.Runs.{HaveCome, HandoverAt}
use Rattle.client_commands.proofs.Rows.{passed_more, stopped_among}
use Rattle.client_commands.proofs.stream_relay.write_run.Goals as goal

pub returns-in_err-passed-2-clause-passes : goal.returns-in_err-passed-2-clause-passes
returns-in_err-passed-2-clause-passes g c before endpoint line begun opened =
    let i = c.loop-endpoint.invariant in
    let p = err_from_is_err_and c.from_residual-in_err-passed-2.result c.from_residual-in_err-passed-2.ensures.1 in
    let others = c.args.others.now in
    let place = c.loop-endpoint.endpoint-index in
    let stops = c.in_err-passed-2.ensures.passes before (endpoint ∷ map endpoint_said (take place others)) line begun (i.passed before endpoint line begun opened) (map endpoint_said (drop (place + 1) others)) in
    rw (p.1, p.2) (stopped_among g.F.RowWriter.format endpoint_said others place c.endpoint-item.result c.loop-endpoint-test.true c.endpoint-item.is before endpoint _ line begun _ stops)

pub loop-endpoint-preserved : goal.loop-endpoint-preserved
loop-endpoint-preserved g c =
    let i = c.loop-endpoint.invariant in
    let others = c.args.others.now in
    let place = c.loop-endpoint.endpoint-index in
    record {
      passed = λ before endpoint line begun opened.
          passed_more g.F.RowWriter.format endpoint_said others place c.endpoint-item.result c.loop-endpoint-test.true c.endpoint-item.is before endpoint line begun _ _
          (c.in_ok-passed-2.ensures.passes before (endpoint ∷ map endpoint_said (take place others)) line begun (i.passed before endpoint line begun opened));
      count = c.in_ok-passed-2.ensures.counts ∙ i.count;
    }

pub returns-clause-passes : goal.returns-clause-passes
returns-clause-passes g c before endpoint line begun opened =
    let i = c.loop-endpoint.invariant in
    let others = c.args.others.now in
    let place = c.loop-endpoint.endpoint-index in
    let out = said_of g.O.Output c.loop-endpoint.output in
    let whole : take place others ≡ others = take_all place others (omega arith) in
    let all = subst {A = _} (λ l. HaveCome g.F.RowWriter.format before (endpoint ∷ map endpoint_said l) line begun c.loop-endpoint.passed out) whole (i.passed before endpoint line begun opened) in
    (c.passed.inside.connection, subst (λ (now : HandoverAt). HaveCome g.F.RowWriter.format before (endpoint ∷ map endpoint_said others) line begun now out) (sym c.passed.view_is) all)
