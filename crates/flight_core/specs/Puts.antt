-- The put that payloads say, or the first fault: payload by payload, and of the first one its
-- command before its message.
use Rattle.std.specs.Prelude.{◌==◌, List, [], ◌∷◌, ◌++◌, length, None, Result, Ok, Err}
use Rattle.std.specs.Prelude.{if◌then◌else◌}
use Rattle.scan_base.specs.declared.fault.Fault.{Fault}
use Rattle.scan_base.specs.declared.fault.Fault.TheVariants.{UnknownCommand, BadBatch}
use Rattle.scan_base.specs.Reading.{◌>>=◌, wanted}
use Rattle.arrow_types.specs.declared.schema.Schema.{Schema}
use Rattle.flight_proto.specs.FlightData.{data_of}
use Rattle.flight_proto.specs.Ingest.{IngestSaid, ingest_of}
use Rattle.ipc_batch.specs.State.{State}
use Rattle.ipc_batch.specs.SaidRows.{News, Rows, news_of, glance_of, rows_in}
use Rattle.table_versions.specs.Database.{Put}
use Rattle.flight_info.specs.Payloads.{Payload, message_in}

-- what payloads leave after: the schema, once it came, with its dictionaries, and the rows of their
-- batches
pub record Told : Type 0 where
  pub state : State
  pub rows : Rows

-- what a payload says, after those that left this after: a FlightData with an empty header is
-- skipped
unfoldable pub news_in_payload : State → Payload → Result News Fault
news_in_payload state payload = data_of payload >>= λ carried.
    if length carried.data_header == 0 then Ok (record { state = state; batch = None })
    else news_of state (message_in carried)

-- What is refused of a payload's message, after those that left this after, before anything grows
-- or is cut.
unfoldable pub message_glance : State → Payload → Result (Unit {0}) Fault
message_glance state payload = data_of payload >>= λ carried.
    if length carried.data_header == 0 then Ok tt else glance_of state (message_in carried)

-- what payloads tell, after those that left this after
abbrev pub told_by : State → List Payload → Result Told Fault
told_by state [] = Ok (record { state = state; rows = [] })
told_by state (payload ∷ payloads) = do
  news ← news_in_payload state payload
  told ← told_by news.state payloads
  Ok (record { state = told.state; rows = rows_in news.batch ++ told.rows })

-- the put of a command and of what the payloads tell
abbrev pub put_made : IngestSaid → Schema → Rows → Put
put_made ingest schema rows = record {
  table = ingest.table;
  if_not_exist = ingest.if_not_exist;
  if_exists = ingest.if_exists;
  schema = schema;
  rows = rows;
}

-- the command of a put, which stands in its first payload
abbrev pub command_in : List Payload → Result IngestSaid Fault
command_in [] = Err UnknownCommand
command_in (first ∷ payloads) = ingest_of first

-- what is refused so of the first payload of a put: its command, and then its message
abbrev pub first_glance : Payload → Result (Unit {0}) Fault
first_glance first = ingest_of first >>= λ _. message_glance None first

-- what is refused so of a put
abbrev pub put_glance : List Payload → Result (Unit {0}) Fault
put_glance [] = Err UnknownCommand
put_glance (first ∷ payloads) = first_glance first

-- the put that payloads say
unfoldable pub put_said : List Payload → Result Put Fault
put_said payloads = do
  ingest ← command_in payloads
  told ← told_by None payloads
  known ← wanted told.state BadBatch
  Ok (put_made ingest known.schema told.rows)
