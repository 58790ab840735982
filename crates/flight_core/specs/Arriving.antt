-- What the payloads of a put say so far, while they come one after another.
use Rattle.std.specs.Prelude.{◌≡◌, List, [], ◌∷◌, ◌++◌, Option, Some, None, Result, Ok, Err}
use Rattle.scan_base.specs.declared.fault.Fault.{Fault}
use Rattle.scan_base.specs.declared.fault.Fault.TheVariants.{UnknownCommand, BadBatch}
use Rattle.scan_base.specs.Reading.{◌>>=◌, wanted}
use Rattle.flight_proto.specs.Ingest.{IngestSaid, ingest_of}
use Rattle.ipc_batch.specs.SaidRows.{rows_in}
use Rattle.table_versions.specs.Database.{Put}
use Rattle.flight_core.specs.Refusals.{GivesBehind}
use Rattle.flight_info.specs.Payloads.{Payload}
use Rattle.flight_core.specs.Puts.{Told, news_in_payload, message_glance, told_by, first_glance}
use Rattle.flight_core.specs.Puts.{put_made}

-- a put that was begun: its command, and what its payloads tell
pub record StartedPutAt : Type 0 where
  pub ingest : IngestSaid
  pub told : Told

-- nothing before the first payload, and then the put that was begun; or the first fault
unfoldable pub said_so_far : List Payload → Result (Option StartedPutAt) Fault
said_so_far [] = Ok None
said_so_far (first ∷ payloads) = do
  ingest ← ingest_of first
  told ← told_by None (first ∷ payloads)
  Ok (Some (record { ingest = ingest; told = told }))

-- a reader to which these payloads came holds what they say so far, or after a glance at the first
-- of them that memory was refused
abbrev pub HasRead : List Payload → Result (Option StartedPutAt) Fault → Type 0
HasRead [] reader = reader ≡ Ok None
HasRead (first ∷ payloads) reader =
    GivesBehind (first_glance first) (λ begun. begun) reader (said_so_far (first ∷ payloads))

-- ---- one payload more

-- the put that a command begins, before a message is read
abbrev pub begun_by : Payload → Result StartedPutAt Fault
begun_by first = do
  ingest ← ingest_of first
  Ok (record { ingest = ingest; told = record { state = None; rows = [] } })

-- a put that was begun, after one payload more
abbrev pub after_payload : StartedPutAt → Payload → Result (Option StartedPutAt) Fault
after_payload begun payload = do
  news ← news_in_payload begun.told.state payload
  Ok (Some (record begun {
    told = record { state = news.state; rows = begun.told.rows ++ rows_in news.batch };
  }))

-- what is said after one payload more: of the first one its command comes before its message
abbrev pub said_next : Option StartedPutAt → Payload → Result (Option StartedPutAt) Fault
said_next None first = begun_by first >>= λ begun. after_payload begun first
said_next (Some begun) payload = after_payload begun payload

-- what is refused of one payload more before anything grows or is cut: of the first one its command
-- comes before its message
abbrev pub glance_next : Option StartedPutAt → Payload → Result (Unit {0}) Fault
glance_next None first = first_glance first
glance_next (Some begun) payload = message_glance begun.told.state payload

-- the put, where no payload follows
abbrev pub whole_put : Option StartedPutAt → Result Put Fault
whole_put None = Err UnknownCommand
whole_put (Some begun) = do
  known ← wanted begun.told.state BadBatch
  Ok (put_made begun.ingest known.schema begun.told.rows)

-- the same of what a reader holds, or its fault
abbrev pub put_from : Result (Option StartedPutAt) Fault → Result Put Fault
put_from reader = reader >>= whole_put
