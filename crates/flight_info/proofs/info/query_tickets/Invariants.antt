use Rattle.std.proofs.Common.{◌≡◌, map, take}
use Rattle.endpoint_split.specs.Handle.{Query}
use Rattle.flight_info.specs.inside.InfoParts.{ticket_bytes}
use Rattle.flight_info.proofs.info.query_tickets.Given as goal

abbrev pub invariant-loop-range : goal.invariant-loop-range
invariant-loop-range l =
    map (λ ticket. ticket.items) l.tickets.items ≡ map (λ range. ticket_bytes (Query l.version range.from range.to l.text)) (take l.range-index l.ranges)
