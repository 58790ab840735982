-- A connection as it is opened.
use Rattle.std.specs.Prelude.{◌≡◌, [], Ok}
use Rattle.grpc_frame.specs.Ends.{CanFail}
use Rattle.grpc_frame.specs.declared.place.Place.TheVariants.{InAnswer}
use Rattle.client_calls.specs.Outcome.{Line}
use Rattle.command_ends.specs.Network.{Ends}

-- a connection of these ends: nothing came of it, and no call has failed
abbrev pub opened_line : Ends → Line
opened_line ends = record {
  incoming = record {
    input = ends.input;
    failed = 0;
    left = Ok (record { bytes = []; place = InAnswer });
  };
  outgoing = record { output = ends.output; failed = 0 };
}

-- a failure more of each end can be counted
abbrev pub CanCount : Line → Type 0
CanCount line = CanFail line.incoming.failed × CanFail line.outgoing.failed

-- as many calls of each end have failed
abbrev pub SameCounts : Line → Line → Type 0
SameCounts old new =
    (new.incoming.failed ≡ old.incoming.failed) × (new.outgoing.failed ≡ old.outgoing.failed)
