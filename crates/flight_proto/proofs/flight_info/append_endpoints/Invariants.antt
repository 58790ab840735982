use Rattle.std.proofs.Common.{◌≡◌, ◌++◌, take, map}
use Rattle.flight_proto.specs.Message.{spelled}
use Rattle.flight_proto.specs.FlightInfo.{endpoint_field}
use Rattle.flight_proto.proofs.flight_info.append_endpoints.Given as goal

-- the endpoints so far are written
abbrev pub invariant-loop-ticket : goal.invariant-loop-ticket
invariant-loop-ticket l =
    l.out.items ≡ l.fn.out.items ++ spelled (map endpoint_field (map (λ ticket. ticket.items) (take l.ticket-index l.tickets)))
