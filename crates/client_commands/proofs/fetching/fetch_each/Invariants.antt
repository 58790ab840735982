use Rattle.std.proofs.Common.{◌≡◌, map, take}
use Rattle.flight_proto.specs.FlightInfo.{endpoint_said}
use Rattle.client_commands.specs.Fetching.{FetchesEach}
use Rattle.client_commands.proofs.fetching.fetch_each.Given as goal

abbrev pub invariant-loop-endpoint : goal.invariant-loop-endpoint
invariant-loop-endpoint g l =
    (FetchesEach (map endpoint_said (take l.endpoint-index l.endpoints)) l.streams.items l.initial.connection l.connection)
    × (l.connection.incoming.failed ≡ l.initial.connection.incoming.failed)
    × (l.connection.outgoing.failed ≡ l.initial.connection.outgoing.failed)
