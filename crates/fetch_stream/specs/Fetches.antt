-- What a handle shows by itself, and what it answers.
use Rattle.std.specs.Prelude.{◌≡◌, ◌≤◌, ◌<◌, ◌⊎◌, ◌&&◌, ℕ, Bool, true, nat_le, All, List, [], ◌∷◌}
use Rattle.std.specs.Prelude.{length, map, take, Option, Some, None, Ok}
use Rattle.scan_base.specs.declared.fault.Fault.{Fault}
use Rattle.scan_base.specs.declared.fault.Fault.TheVariants.{BadTicket, ResultTooLarge, OutOfMemory}
use Rattle.scan_base.specs.Limits.{most_query_bytes, most_answer_rows}
use Rattle.arrow_types.specs.declared.schema.Schema.{Schema}
use Rattle.endpoint_split.specs.Handle.{HandleAt, Query, Tables}
use Rattle.proto_wire.specs.Standard.{Entry}
use Rattle.proto_wire.specs.Reading.{fields_of}
use Rattle.ipc_batch.specs.SaidRows.{Sent}
use Rattle.ipc_batch.specs.DressedBatches.{Dressing, AreDressed}
use Rattle.table_versions.specs.Table.{Row, Table}
use Rattle.table_versions.specs.Database.{Database}
use Rattle.flight_info.specs.Forms.{IsPlain}
use Rattle.flight_info.specs.QueryMeaning.{Meant}
use Rattle.flight_info.specs.Payloads.{Payload, message_in, PayloadsSay}
use Rattle.flight_info.specs.Tables.{tables_listed}

-- the version of the catalog to which a handle is pinned
abbrev pub version_of : HandleAt → ℕ
version_of (Query number from to query) = number
version_of (Tables number) = number

-- whether a query's text is short enough to be read
abbrev pub is_short : HandleAt → Bool
is_short (Query number from to text) = nat_le (length text) most_query_bytes
is_short (Tables number) = true

-- whether its range is in order: one that ends before it begins is none of any table
abbrev pub is_ordered : HandleAt → Bool
is_ordered (Query number from to text) = nat_le from to
is_ordered (Tables number) = true

-- whether a handle may mean something, as far as it shows by itself
abbrev pub may_mean : HandleAt → Bool
may_mean handle = is_short handle && is_ordered handle

-- what a handle means
abbrev pub HandleMeans : Database → HandleAt → Table → Type 0
HandleMeans database (Query number from to text) answer = Meant database from to text answer
HandleMeans database (Tables number) answer = answer ≡ tables_listed database

-- a handle means nothing
abbrev pub MeansNothing : Database → HandleAt → Type 0
MeansNothing database handle = (answer : Table) → HandleMeans database handle answer → ⊥

-- a batch has one row or more
abbrev pub HasRow : Dressing → Type 0
HasRow dressing = 0 < length dressing.rows

-- A FlightData has only a header, field 2, and a body, field 1000: no descriptor, and no
-- app_metadata.
abbrev pub IsBare : Payload → Type 0
IsBare payload = (fields : List Entry) → fields_of payload ≡ Ok fields →
    All (λ field. (field.number ≡ 2) ⊎ (field.number ≡ 1000)) fields

-- Payloads say a schema and rows, each by only a header and a body. The schema's message says no
-- more than it has to. After it come record batches of one row or more, and right before each of
-- them a dictionary for each column that is one, in the columns' order: its id is the column's
-- number, and its values the texts of that batch.
pub record SayDressed (payloads : List Payload) (schema : Schema) (rows : List Row) : Type 0 where
  pub said : PayloadsSay payloads schema rows
  pub bare : All IsBare payloads
  pub first : Sent
  pub behind : List Sent
  pub messages : map message_in said.0 ≡ first ∷ behind
  pub plain : IsPlain first.header
  pub dressed : AreDressed schema behind rows
  pub some : All HasRow dressed.dressings

-- payloads say a beginning of an answer, or all of it, in the form of a whole answer, but no more
-- rows than an answer may have
abbrev pub SayBeginning : List Payload → Table → Type 0
SayBeginning payloads answer = (n : ℕ) × (n ≤ most_answer_rows) × (n ≤ length answer.rows)
    × SayDressed payloads answer.schema (take n answer.rows)

-- payloads are all of an answer: what the handle means, its rows cut into batches freely, each
-- after its dictionaries
pub record IsAnswer (database : Database) (handle : HandleAt)
    (payloads : List Payload) : Type 0 where
  pub answer : Table
  pub means : HandleMeans database handle answer
  pub few : length answer.rows ≤ most_answer_rows
  pub said : SayDressed payloads answer.schema answer.rows

-- The answer to a handle at its version. Of an answer of too many rows it is a beginning, and where
-- memory is refused there may be one. A handle that means nothing is a bad ticket.
abbrev pub FetchAt : Database → HandleAt → List Payload → Option Fault → Type 0
FetchAt database handle payloads None = IsAnswer database handle payloads
FetchAt database handle payloads (Some ResultTooLarge) =
    (answer : Table) × HandleMeans database handle answer
    × (most_answer_rows < length answer.rows) × SayBeginning payloads answer
FetchAt database handle payloads (Some OutOfMemory) = (payloads ≡ [])
    ⊎ ((answer : Table) × HandleMeans database handle answer × SayBeginning payloads answer)
FetchAt database handle payloads (Some BadTicket) = (payloads ≡ []) × MeansNothing database handle
FetchAt database handle payloads (Some _) = ⊥

-- a handle means at most one answer
abbrev pub HandlesMeanOne : Type 0
HandlesMeanOne = (database : Database) (handle : HandleAt) (one other : Table) →
    HandleMeans database handle one → HandleMeans database handle other → one ≡ other
