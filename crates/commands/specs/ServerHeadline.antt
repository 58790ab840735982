-- The headline for a server: over all connections that its workers took.
use Rattle.std.specs.Prelude.{◌≡◌, ℕ, List, [], Some, Result, slice_get}
use Rattle.std.specs.List.{flat_map}
use Rattle.scan_base.specs.declared.fault.Fault.{Fault}
use Rattle.endpoint_split.specs.Handle.{HandleAt}
use Rattle.ipc_batch.specs.SaidRows.{Rows}
use Rattle.table_versions.specs.Table.{Table}
use Rattle.flight_proto.specs.InfoCommand.{InfoCommand}
use Rattle.flight_info.specs.QueryMeaning as meant
use Rattle.flight_core.specs.Headline.{Pairwise}
use Rattle.version_log.specs.Log.{Log, database_of}
use Rattle.flight_calls.specs.declared.setting.Options.{Options}
use Rattle.flight_calls.specs.Joining.{FetchServed, InfoServed}
use Rattle.flight_calls.specs.OwedAnswers.{Connection}
use Rattle.shared_calls.specs.Sharing.{onward}
use Rattle.command_ends.specs.Network.{Accepting, Ends}
use Rattle.commands.specs.Serve.{Took, Worker}
use Rattle.commands.specs.ServeSideBySide.{Work, IsPartOf}

-- a worker of this history took a connection, and serving it came to this result and left it so
pub record Takes {L : Type 0} (accepts : Accepting L) (options : Options) (history : Log)
    (result : Result (Unit {0}) Fault) (last : Connection) : Type 0 where
  pub old : Worker L
  pub new : Work L
  pub part : IsPartOf accepts options history old new
  pub place : ℕ
  pub listener : L
  pub ends : Ends
  pub took : slice_get part.serves.all place ≡ Some (Took listener ends result last)

-- a connection that ended as one of these did answered an info for what was wanted, at this log, by
-- these handles
pub record InfoOf {L : Type 0} (accepts : Accepting L) (options : Options) (history log : Log)
    (wanted : InfoCommand) (handles : List HandleAt) : Type 0 where
  pub served : InfoServed onward [] log wanted handles
  pub taken : Takes accepts options history served.answered.result served.answered.new

-- a connection that ended as one of these did answered a fetch of this handle to its end, and said
-- these rows
pub record FetchOf {L : Type 0} (accepts : Accepting L) (options : Options) (history : Log)
    (handle : HandleAt) (rows : Rows) : Type 0 where
  pub served : FetchServed onward [] handle rows
  pub taken : Takes accepts options history served.answered.result served.answered.new

-- If every endpoint of an info was fetched to its end, over any connections that workers of one
-- history took, in any order, the streams joined are the rows that were wanted, on the tables as
-- they stood when the info was given.
abbrev pub ServerMeetsHeadline : {L : Type 0} → Accepting L → Type 0
ServerMeetsHeadline accepts =
    (options : Options) (history log : Log) (wanted : InfoCommand) (handles : List HandleAt)
    (streams : List Rows) (answer : Table)
    → InfoOf accepts options history log wanted handles
    → meant.Answers (database_of log) wanted answer
    → Pairwise (FetchOf accepts options history) handles streams
    → flat_map (λ rows. rows) streams ≡ answer.rows
