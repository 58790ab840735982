use Rattle.std.proofs.Common.{◌≡◌, ◌∷◌, List, map, take}
use Rattle.flight_proto.specs.FlightInfo.{EndpointSaid, endpoint_said}
use Rattle.flight_client.specs.Stream.{StreamAt}
use Rattle.client_calls.specs.Outcome.{Line}
use Rattle.command_ends.specs.Printing.{Said, said_of}
use Rattle.client_commands.specs.inside.Runs.{HaveCome, IsOpen}
use Rattle.client_commands.proofs.stream_relay.write_run.Given as goal

-- the streams of the first endpoints were passed on
abbrev pub invariant-loop-endpoint : goal.invariant-loop-endpoint
invariant-loop-endpoint g l = record {
  passed : (before : List StreamAt) (endpoint : EndpointSaid) (line : Line) (begun : Said) → IsOpen g.F.RowWriter.format before endpoint.ticket line begun l.fn.passing (said_of g.O.Output l.fn.output) →
      HaveCome g.F.RowWriter.format before (endpoint ∷ map endpoint_said (take l.endpoint-index l.others)) line begun l.passed (said_of g.O.Output l.output);
  count : g.O.Output.failures l.output ≡ g.O.Output.failures l.fn.output;
}
