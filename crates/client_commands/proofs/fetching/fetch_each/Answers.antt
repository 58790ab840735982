use Rattle.std.proofs.Common.{rules, ◌≡◌, ◌∙◌, ◌++◌, ◌∷◌, []}
use Rattle.std.proofs.lemmas.Result.{err_from_is_err_and}
use Rattle.flight_proto.specs.FlightInfo.{endpoint_said}
use Rattle.client_commands.proofs.Fetched.{stops_before, stops_at, stops_behind, next_fetched, quiet}
use Rattle.client_commands.proofs.fetching.fetch_each.Goals as goal

pub returns-in_err-streams : goal.returns-in_err-streams
returns-in_err-streams g c =
    let p = err_from_is_err_and c.from_residual.result c.from_residual.ensures.1 in
    rw (p.1, p.2) (stops_before _ _)

pub returns-in_err-stream : goal.returns-in_err-stream
returns-in_err-stream g c =
    let p = err_from_is_err_and c.from_residual-in_err-stream.result c.from_residual-in_err-stream.ensures.1 in
    rw (p.1, p.2)
    (stops_at endpoint_said c.args.endpoints.now c.loop-endpoint.endpoint-index c.endpoint-item.result c.loop-endpoint-test.true c.endpoint-item.is _ _ _ _ _ c.loop-endpoint.invariant.0
    (rw c.deref.ensures.value at c.in_err-stream.ensures))

pub returns-then-is_err : goal.returns-then-is_err
returns-then-is_err g c =
    stops_behind endpoint_said c.args.endpoints.now c.loop-endpoint.endpoint-index c.endpoint-item.result c.loop-endpoint-test.true c.endpoint-item.is _ _ _ _ _ c.loop-endpoint.invariant.0
    (rw c.deref.ensures.value at c.in_ok-stream.ensures)

pub loop-endpoint-preserved : goal.loop-endpoint-preserved
loop-endpoint-preserved g c =
    let one = rw c.deref.ensures.value at c.in_ok-stream.ensures in
    let still = quiet (endpoint_said c.endpoint-item.result) c.in_ok-stream.stream _ _ one in
    let items : c.push.new.self.items ≡ c.loop-endpoint.streams.items ++ c.in_ok-stream.stream ∷ [] = search rules in (
      rw items
          (next_fetched endpoint_said c.args.endpoints.now c.loop-endpoint.endpoint-index c.endpoint-item.result c.loop-endpoint-test.true c.endpoint-item.is _ _ _ _ _ c.loop-endpoint.invariant.0 one),
      still.0 ∙ c.loop-endpoint.invariant.1,
      still.1 ∙ c.loop-endpoint.invariant.2,
    )
