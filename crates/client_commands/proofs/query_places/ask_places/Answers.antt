use Rattle.std.proofs.Common.{List, Vec, inl, inr, map, refl}
use Rattle.std.specs.Global.{Global}
use Rattle.std.proofs.lemmas.Result.{err_from_is_err_and}
use Rattle.flight_proto.specs.FlightInfo.{EndpointSaid, endpoint_said}
use Rattle.flight_proto.specs.InfoCommand.{rows_of}
use Rattle.flight_proto.specs.declared.flight_info.FlightEndpoint.{FlightEndpoint}
use Rattle.client_commands.proofs.Fetched.{asked, not_asked}
use Rattle.client_commands.proofs.query_places.ask_places.Goals as goal

-- the endpoints, as plain data
abbrev seen : Vec FlightEndpoint Global → List EndpointSaid
seen endpoints = map endpoint_said endpoints.items

pub returns-in_err-endpoints-clause-asked : goal.returns-in_err-endpoints-clause-asked
returns-in_err-endpoints-clause-asked g c =
    let p = err_from_is_err_and c.from_residual.result c.from_residual.ensures.1 in
    rw (p.1, p.2) (inl (not_asked seen (rows_of c.args.query.sql.now) c.args.connection.now c.info.new.connection _ c.in_err-endpoints.ensures), refl)

pub returns-in_err-handles-clause-asked : goal.returns-in_err-handles-clause-asked
returns-in_err-handles-clause-asked g c =
    let p = err_from_is_err_and c.from_residual-in_err-handles.result c.from_residual-in_err-handles.ensures.1 in
    let found = asked seen (rows_of c.args.query.sql.now) c.args.connection.now c.info.new.connection c.in_ok-endpoints.endpoints c.in_ok-endpoints.ensures in
    rw (p.1, p.2) (inr (refl, (seen c.in_ok-endpoints.endpoints, found)), c.in_err-handles.ensures)
