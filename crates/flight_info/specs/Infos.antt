-- What a flight info and a schema answer.
use Rattle.std.specs.Prelude.{◌≡◌, ◌≢◌, ℕ, negsuc, Bool, true, false, nat_le, List, [], ◌∷◌, length}
use Rattle.std.specs.Prelude.{map, Option, Some, None, Result, Ok, Err, if◌then◌else◌}
use Rattle.scan_base.specs.declared.fault.Fault.{Fault}
use Rattle.scan_base.specs.declared.fault.Fault.TheVariants.{OutOfMemory, UnknownCommand}
use Rattle.scan_base.specs.declared.fault.Fault.TheVariants.{LimitReached}
use Rattle.scan_base.specs.Limits.{most_query_bytes}
use Rattle.scan_base.specs.Reading.{◌>>=◌, demand}
use Rattle.scan_base.specs.Lists.{each}
use Rattle.endpoint_split.specs.declared.ranges.Range.{Range}
use Rattle.endpoint_split.specs.Split.{ranges_of}
use Rattle.endpoint_split.specs.Handle.{HandleAt, Query, Tables, handle_of, handle_bytes}
use Rattle.flight_proto.specs.Ticket.{statement_handle_of, statement_ticket_bytes}
use Rattle.flight_proto.specs.WrappedBytes.{wrapped_of, wrapped_bytes}
use Rattle.sql_query.specs.Sentence.{Sentence, is_grouped}
use Rattle.table_versions.specs.Table.{Table}
use Rattle.table_versions.specs.Database.{Database}
use Rattle.flight_info.specs.Payloads.{Payload}
use Rattle.flight_info.specs.QueryMeaning.{AsksSentence, first_rows, Answers, Misses}
use Rattle.flight_info.specs.Forms.{IsSchemaForm}
use Rattle.flight_proto.specs.FlightInfo.{EndpointSaid, InfoSaid, info_of, info_bytes}
use Rattle.flight_proto.specs.InfoCommand.{InfoCommand, rows_of, tables, wanted_in}

-- ---- what is wanted

-- a query, where its rows are asked for
abbrev pub only_rows : InfoCommand → Result InfoCommand Fault
only_rows (rows_of text) = Ok (rows_of text)
only_rows tables = Err UnknownCommand

-- the list of tables, where it is asked for
abbrev pub only_tables : InfoCommand → Result InfoCommand Fault
only_tables tables = Ok tables
only_tables (rows_of text) = Err UnknownCommand

-- a text is short enough to be read
abbrev pub short_enough : InfoCommand → Result InfoCommand Fault
short_enough (rows_of text) =
    demand (nat_le (length text) most_query_bytes) LimitReached >>= λ _. Ok (rows_of text)
short_enough tables = Ok tables

-- what a payload wants of an info of a query, or its first fault; no memory is taken for it
abbrev pub rows_wanted : Payload → Result InfoCommand Fault
rows_wanted payload = wanted_in payload >>= only_rows >>= short_enough

-- the same of an info of the list of tables
abbrev pub tables_wanted : Payload → Result InfoCommand Fault
tables_wanted payload = wanted_in payload >>= only_tables >>= short_enough

-- the same of a schema, which is of either, and of an info of either
abbrev pub schema_wanted : Payload → Result InfoCommand Fault
schema_wanted payload = wanted_in payload >>= short_enough

-- ---- the endpoints

-- the ranges of so many rows in so many parts; of a query that is grouped there is one, the whole
abbrev pub ranges_over : Bool → ℕ → ℕ → List Range
ranges_over grouped rows parts =
    if grouped then record { from = 0; to = rows } ∷ [] else ranges_of rows parts

-- the ranges of a query in so many parts
abbrev pub ranges_asked : Sentence → Database → ℕ → List Range
ranges_asked query database parts = ranges_over (is_grouped query) (first_rows database query) parts

-- the handles of what is wanted, pinned to version n, in so many parts; the list of tables has one
abbrev pub HasHandles : Database → ℕ → ℕ → InfoCommand → List HandleAt → Type 0
HasHandles database n parts (rows_of text) handles =
    (query : Sentence) × AsksSentence database text query
    × (handles
    ≡ map (λ (range : Range). Query n range.from range.to text) (ranges_asked query database parts))
HasHandles database n parts tables handles = handles ≡ Tables n ∷ []

-- the endpoint of a handle: its Ticket, and no location
abbrev pub endpoint_at : HandleAt → EndpointSaid
endpoint_at handle =
    record { ticket = statement_ticket_bytes (handle_bytes handle); has_location = false }

-- the handle in the Ticket that begins a fetch
unfoldable pub handle_asked : Payload → Result HandleAt Fault
handle_asked ticket = statement_handle_of ticket >>= handle_of

-- the handles that an info gives, read of its tickets in order
abbrev pub handles_in : InfoSaid → Result (List HandleAt) Fault
handles_in info = each handle_asked (map (λ endpoint. endpoint.ticket) info.endpoints)

-- ---- an info

-- The info is right for what was wanted by this payload at version n: it has the schema of the
-- answer, the payload as it came, and an endpoint for each handle, in order, whose Ticket reads as
-- that; it counts neither rows nor bytes.
pub record RightInfo (database : Database) (n : ℕ) (payload : Payload) (parts : ℕ)
    (wanted : InfoCommand)
    (info : InfoSaid) : Type 0 where
  pub answer : Table
  pub answers : Answers database wanted answer
  pub schema : IsSchemaForm info.schema answer.schema
  pub descriptor : info.descriptor ≡ payload
  pub handles : List HandleAt
  pub right : HasHandles database n parts wanted handles
  pub endpoints : info.endpoints ≡ map endpoint_at handles
  pub given : handles_in info ≡ Ok handles
  pub records : info.total_records ≡ negsuc 0
  pub bytes : info.total_bytes ≡ negsuc 0
  pub ordered : info.ordered ≡ true

-- ---- the replies

-- nothing answers what is wanted, but why: a fault of the text, or because memory was refused
abbrev pub Missed : Database → InfoCommand → List Payload → Fault → Type 0
Missed database wanted answers fault =
    (answers ≡ []) × (fault ≢ OutOfMemory → Misses database wanted fault)

-- The answer to what is wanted, the bytes of a right info; or to why that was refused before any
-- memory was taken.
abbrev pub InfoAt : Database → ℕ → Payload → ℕ → Result InfoCommand Fault → List Payload →
    Option Fault → Type 0
InfoAt database n payload parts (Err cause) answers fault = (answers ≡ []) × (fault ≡ Some cause)
InfoAt database n payload parts (Ok wanted) answers None =
    (info : InfoSaid) × (answers ≡ info_bytes info ∷ [])
    × (info_of (info_bytes info) ≡ Ok info) × RightInfo database n payload parts wanted info
InfoAt database n payload parts (Ok wanted) answers (Some fault) =
    Missed database wanted answers fault

-- the same for the schema of what is wanted
abbrev pub SchemaAt : Database → Result InfoCommand Fault → List Payload → Option Fault → Type 0
SchemaAt database (Err cause) answers fault = (answers ≡ []) × (fault ≡ Some cause)
SchemaAt database (Ok wanted) answers None = (form : List ℕ) × (answer : Table)
    × (answers ≡ wrapped_bytes form ∷ []) × (wrapped_of (wrapped_bytes form) ≡ Ok form)
    × Answers database wanted answer × IsSchemaForm form answer.schema
SchemaAt database (Ok wanted) answers (Some fault) = Missed database wanted answers fault
