-- A stream of an answer: what its payloads say, and how it ended.
use Rattle.std.specs.Prelude.{◌≡◌, ℕ, List, [], ◌++◌, map, Option, Some, None, Result, Ok, Err}
use Rattle.scan_base.specs.declared.fault.Fault.{Fault}
use Rattle.scan_base.specs.declared.fault.Fault.TheVariants.{BadBatch, Transport}
use Rattle.scan_base.specs.Reading.{◌>>=◌, wanted}
use Rattle.scan_base.specs.Lists.{each}
use Rattle.arrow_types.specs.declared.schema.Schema.{Schema}
use Rattle.flight_proto.specs.FlightData.{DataSaid, data_of}
use Rattle.ipc_batch.specs.State.{State}
use Rattle.ipc_batch.specs.SaidRows.{News, Rows, rows_in, news_of, glance_of as message_glance}
use Rattle.ipc_batch.specs.SaidRows.{Follows}
use Rattle.flight_info.specs.Payloads.{Payload, message_in}
use Rattle.flight_client.specs.Status.{StatusSays}

-- what payloads left after: the schema, once it came, with its dictionaries, and the rows; and,
-- once the status came, what that stands for
pub record StreamAt : Type 0 where
  pub state : State
  pub rows : Rows
  pub end : Option (Result (Unit {0}) Fault)

-- a stream of which nothing came
abbrev pub begun : StreamAt
begun = record { state = None; rows = []; end = None }

-- what a payload says after others: it is a FlightData, and this is what the message that it
-- carries says
unfoldable pub payload_news : State → Payload → Result News Fault
payload_news state payload = data_of payload >>= λ carried. news_of state (message_in carried)

-- what is refused of a payload before anything grows or is cut: it is no FlightData, or its message
-- is refused so
unfoldable pub payload_glance : State → Payload → Result (Unit {0}) Fault
payload_glance state payload =
    data_of payload >>= λ carried. message_glance state (message_in carried)

-- a stream with what one payload more says
abbrev pub with_news : StreamAt → News → StreamAt
with_news stream news =
    record stream { state = news.state; rows = stream.rows ++ rows_in news.batch }

-- a stream after one payload more
abbrev pub after_payload : StreamAt → Payload → Result StreamAt Fault
after_payload stream payload =
    payload_news stream.state payload >>= λ news. Ok (with_news stream news)

-- what is refused of it before anything grows or is cut
abbrev pub glance_of : StreamAt → Payload → Result (Unit {0}) Fault
glance_of stream payload = payload_glance stream.state payload

-- These payloads came, one after another: each carries a message, and what they say is what the
-- stream holds.
abbrev pub Came : List Payload → StreamAt → Type 0
Came payloads stream =
    (all : List DataSaid) × (each data_of payloads ≡ Ok all)
    × Follows None (map message_in all) stream.state stream.rows

-- the status came, of this code and this text
abbrev pub Ends : StreamAt → ℕ → List ℕ → StreamAt → Type 0
Ends old code text new =
    (end : Result (Unit {0}) Fault) × StatusSays code text end
    × (new ≡ record old { end = Some end })

-- what a stream ended with; one that was cut off before its status was not carried to its end
abbrev pub ending : Option (Result (Unit {0}) Fault) → Result (Unit {0}) Fault
ending (Some end) = end
ending None = Err Transport

-- the schema of a stream, or its fault: that of its status, or F8 where it ended without a schema
abbrev pub schema_said : StreamAt → Result Schema Fault
schema_said stream = do
  _ ← ending stream.end
  known ← wanted stream.state BadBatch
  Ok known.schema
