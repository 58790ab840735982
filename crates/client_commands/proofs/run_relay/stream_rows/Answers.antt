use Rattle.std.proofs.Common.{ap, inl, map, refl}
use Rattle.std.proofs.lemmas.Result.{err_from_is_err_and}
use Rattle.flight_proto.specs.FlightInfo.{endpoint_said}
use Rattle.flight_proto.specs.InfoCommand.{rows_of}
use Rattle.client_commands.proofs.InTurn.{streams_by}
use Rattle.client_commands.proofs.run_relay.stream_rows.Goals as goal

pub returns-in_err-endpoints : goal.returns-in_err-endpoints
returns-in_err-endpoints g c =
    let p = err_from_is_err_and c.from_residual.result c.from_residual.ensures.1 in
    let stops = c.in_err-endpoints.ensures.asked in
    rw (p.1, p.2) (c.ask_places.new.connection, inl (stops.0, stops.1, refl))

pub returns : goal.returns
returns g c = (
  c.ask_places.new.connection,
  streams_by g.F.RowWriter.format _ _ _ (rows_of c.args.query.sql.now) _ _ c.args.connection c.ask_places.new.connection _ _ _ _ _ _ (ap (map endpoint_said) c.deref.ensures.value) c.in_ok-endpoints.ensures.asked c.write_runs.ensures,
)
