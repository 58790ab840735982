-- Connections of a server that were new.
use Rattle.std.specs.Prelude.{Result, Ok}
use Rattle.scan_base.specs.declared.fault.Fault.{Fault}
use Rattle.version_log.specs.Log.{Log}
use Rattle.flight_calls.specs.declared.setting.Options.{Options}
use Rattle.flight_calls.specs.Laws.{IsWhole}
use Rattle.flight_calls.specs.OwedAnswers.{Connection, Serves, items_owed}
use Rattle.shared_calls.specs.Sharing.{onward}
use Rattle.command_ends.specs.Network.{Accepting, AreNew, Ends}
use Rattle.commands.specs.Serve.{AcceptsThenCloses}
use Rattle.commands.specs.ServerHeadline.{Takes}

-- whatever accepts give is new: nothing was read from it yet, and nothing was written to it
abbrev pub GivesNew : {L : Type 0} → Accepting L → Type 0
GivesNew {L} accepts = (old new : L) (ends : Ends) → accepts old (Ok ends) new → AreNew ends

-- A connection was served so. All bytes that its reads gave are its whole calls and a rest, and all
-- bytes that it holds are a beginning of what is owed for them.
pub record IsServedWhole (options : Options) (result : Result (Unit {0}) Fault)
    (last : Connection) : Type 0 where
  pub old : Connection
  pub serves : Serves onward options result old last
  pub whole : IsWhole result last serves.calls serves.rest (items_owed serves.replies serves.last)

-- So it is of each connection that a worker took, where accepts give new ones.
abbrev pub TakenAreWhole : {L : Type 0} → Accepting L → (L → L → Type 0) → Type 0
TakenAreWhole accepts closes =
    GivesNew accepts → (options : Options) (history : Log) (result : Result (Unit {0}) Fault)
    (last : Connection) → Takes (AcceptsThenCloses accepts closes) options history result last
    → IsServedWhole options result last
