-- Inside: how an answer is sent.
use Rattle.std.specs.Prelude.{◌≡◌, List, ◌++◌, None, Result}
use Rattle.scan_base.specs.declared.fault.Fault.{Fault}
use Rattle.grpc_frame.specs.Outgoing.{KeepsCount, Outgoing, SendsAll}
use Rattle.endpoint_split.specs.Handle.{HandleAt}
use Rattle.table_versions.specs.Database.{Database}
use Rattle.table_versions.specs.Table.{Table}
use Rattle.flight_info.specs.Payloads.{Payload, FitMessages}
use Rattle.flight_info.specs.Replies.{ReplyAt}
use Rattle.fetch_stream.specs.Fetches.{FetchAt, HandleMeans}
use Rattle.fetch_stream.specs.Streams.{StreamAt, HasGiven}
use Rattle.flight_calls.specs.OwedAnswers.{answer_bytes}

-- a reply that this holds of was sent, or a beginning of it
pub record SendsReply (Right : ReplyAt → Type 0) (result : Result (Unit {0}) Fault)
    (old new : Outgoing) : Type 0 where
  pub reply : ReplyAt
  pub right : Right reply
  pub fits : FitMessages reply.payloads
  pub sent : SendsAll result old new (answer_bytes reply)

-- what a stream still has to give was sent, or a beginning of it: after what it has given, it is
-- the answer to the fetch whose stream it is
abbrev pub SendsRest : StreamAt → Result (Unit {0}) Fault → Outgoing → Outgoing → Type 0
SendsRest stream result old new =
    (database : Database) (handle : HandleAt) (answer : Table) (given : List Payload) →
    HandleMeans database handle answer → HasGiven answer given stream → stream.refused ≡ None →
    SendsReply (λ reply. FetchAt database handle (given ++ reply.payloads) reply.fault) result old
    new

-- the same, and a write that failed is counted
pub record SendsStream (stream : StreamAt) (result : Result (Unit {0}) Fault)
    (old new : Outgoing) : Type 0 where
  pub bytes : SendsRest stream result old new
  pub counted : KeepsCount result old new
