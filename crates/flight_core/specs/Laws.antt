-- What holds of all runs, and of the payloads of answers and of puts.
use Rattle.std.specs.Prelude.{◌≡◌, ◌↔◌, ℕ, ◌+◌, ◌==◌, Bool, not, List, [], ◌∷◌, ◌++◌, length, map}
use Rattle.std.specs.Prelude.{filter, take, drop, Some, Ok, slice_get}
use Rattle.scan_base.specs.declared.fault.Fault.{Fault}
use Rattle.arrow_types.specs.declared.schema.Schema.{Schema}
use Rattle.scan_base.specs.Lists.{each}
use Rattle.flight_proto.specs.FlightData.{DataSaid, data_of}
use Rattle.flight_proto.specs.Ingest.{IngestSaid, ingest_of}
use Rattle.ipc_batch.specs.SaidRows.{Rows, Says}
use Rattle.table_versions.specs.Database.{Put}
use Rattle.flight_info.specs.Payloads.{Payload, message_in, PayloadsSay}
use Rattle.flight_core.specs.Puts.{put_made, put_said}
use Rattle.flight_core.specs.Asked.{Asked}
use Rattle.flight_info.specs.Replies.{ReplyAt}
use Rattle.version_log.specs.Log.{Log}
use Rattle.flight_core.specs.Machine.{Run}

-- the list without the item at a place
abbrev pub without : {X : Type 0} → ℕ → List X → List X
without place xs = take place xs ++ drop (place + 1) xs

-- What was refused, and so a refused put, changes nothing: without it the rest is answered by the
-- other replies, and the log is the same.
abbrev pub RefusedLeaveNothing : List Asked → List ReplyAt → Log → Type 0
RefusedLeaveNothing asked replies log = (place : ℕ) (one : Asked) (reply : ReplyAt) (fault : Fault)
    → slice_get asked place ≡ Some one → slice_get replies place ≡ Some reply
    → reply.fault ≡ Some fault → Run [] (without place asked) (without place replies) log

-- this holds of each run
abbrev pub RefusalsLeaveNothing : Type 0
RefusalsLeaveNothing = (asked : List Asked) (replies : List ReplyAt) (log : Log)
    → Run [] asked replies log → RefusedLeaveNothing asked replies log

-- the payloads of an answer say at most one schema and one list of rows
abbrev pub AnswersSayOneThing : Type 0
AnswersSayOneThing = (payloads : List Payload) (one other : Schema) (rows others : Rows) →
    PayloadsSay payloads one rows → PayloadsSay payloads other others →
    (one ≡ other) × (rows ≡ others)

-- whether a FlightData carries a message: in a put, one with an empty header is skipped
abbrev pub carries_message : DataSaid → Bool
carries_message carried = not (length carried.data_header == 0)

-- the payloads of a put say this schema and these rows
abbrev pub PutSays : List Payload → Schema → Rows → Type 0
PutSays payloads schema rows =
    (all : List DataSaid) × (each data_of payloads ≡ Ok all)
    × Says (map message_in (filter carries_message all)) schema rows

-- payloads say a put: the command in the first of them names its table and its options, and all of
-- them say its schema and its rows
pub record SayPut (payloads : List Payload) (put : Put) : Type 0 where
  pub first : Payload
  pub others : List Payload
  pub whole : payloads ≡ first ∷ others
  pub ingest : IngestSaid
  pub command : ingest_of first ≡ Ok ingest
  pub said : PutSays payloads put.schema put.rows
  pub made : put ≡ put_made ingest put.schema put.rows

-- the put that is read of payloads is the one that they say
abbrev pub PutsAreSaid : Type 0
PutsAreSaid =
    (payloads : List Payload) (put : Put) → (put_said payloads ≡ Ok put) ↔ SayPut payloads put
