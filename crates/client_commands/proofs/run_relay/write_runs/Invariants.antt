use Rattle.std.proofs.Common.{◌≡◌, length, map}
use Rattle.std.specs.Vec.Iter.{into_iter_items}
use Rattle.flight_proto.specs.FlightInfo.{endpoint_said}
use Rattle.command_ends.specs.Printing.{said_of}
use Rattle.client_commands.specs.inside.Turns.{IsTurnBy}
use Rattle.client_commands.proofs.run_relay.write_runs.Given as goal

-- the runs before were passed on, and the next one is open
abbrev pub invariant-loop-handle : goal.invariant-loop-handle
invariant-loop-handle g l = record {
  turn : IsTurnBy (λ old ends new. g.C.Connect.connects old l.fn.writing.port ends new) g.F.RowWriter.format l.fn.connection l.fn.handles.items (into_iter_items l.handle-iterator)
      (map endpoint_said l.endpoints) (map endpoint_said l.others) (map endpoint_said l.behind) (said_of g.O.Output l.fn.output) l.passing (said_of g.O.Output l.output);
  left : l.left ≡ length (into_iter_items l.handle-iterator);
}
