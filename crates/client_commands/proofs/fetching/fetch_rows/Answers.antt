use Rattle.std.proofs.Common.{List, Vec, inl, inr, map, refl}
use Rattle.std.specs.Global.{Global}
use Rattle.std.proofs.lemmas.Result.{err_from_is_err_and}
use Rattle.flight_proto.specs.FlightInfo.{EndpointSaid, endpoint_said}
use Rattle.flight_proto.specs.InfoCommand.{wanted_said}
use Rattle.flight_proto.specs.declared.flight_info.FlightEndpoint.{FlightEndpoint}
use Rattle.client_commands.proofs.Fetched.{asked, not_asked}
use Rattle.client_commands.proofs.fetching.fetch_rows.Goals as goal

-- the endpoints, as plain data
abbrev seen : Vec FlightEndpoint Global → List EndpointSaid
seen endpoints = map endpoint_said endpoints.items

pub returns-in_err-endpoints : goal.returns-in_err-endpoints
returns-in_err-endpoints g c =
    let p = err_from_is_err_and c.from_residual.result c.from_residual.ensures.1 in
    rw (p.1, p.2) (inl (not_asked seen (wanted_said c.args.wanted) c.args.connection.now c.info.new.connection _ c.in_err-endpoints.ensures))

pub returns-in_err-streams : goal.returns-in_err-streams
returns-in_err-streams g c =
    let p = err_from_is_err_and c.from_residual-in_err-streams.result c.from_residual-in_err-streams.ensures.1 in
    rw (p.1, p.2)
    (inr (record {
      endpoints = map endpoint_said c.in_ok-endpoints.endpoints.items;
      middle = c.info.new.connection;
      asked = asked seen (wanted_said c.args.wanted) c.args.connection.now c.info.new.connection c.in_ok-endpoints.endpoints c.in_ok-endpoints.ensures;
      why = inl (rw c.deref.ensures.value at c.in_err-streams.ensures);
    }))

pub returns-in_err-join : goal.returns-in_err-join
returns-in_err-join g c =
    let p = err_from_is_err_and c.from_residual-in_err-join.result c.from_residual-in_err-join.ensures.1 in
    rw (p.1, p.2)
    (inr (record {
      endpoints = map endpoint_said c.in_ok-endpoints.endpoints.items;
      middle = c.info.new.connection;
      asked = asked seen (wanted_said c.args.wanted) c.args.connection.now c.info.new.connection c.in_ok-endpoints.endpoints c.in_ok-endpoints.ensures;
      why = inr (record {
        streams = c.in_ok-streams.streams.items;
        fetched = rw c.deref.ensures.value at c.in_ok-streams.ensures;
        fault = _;
        failure_is = refl;
        refused = c.in_err-join.ensures.exact;
      });
    }))
