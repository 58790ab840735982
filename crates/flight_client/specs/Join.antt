-- Streams joined.
use Rattle.std.specs.Prelude.{◌≡◌, ◌≢◌, List, [], ◌∷◌, map, All, Some, Result, Ok, Err}
use Rattle.std.specs.Prelude.{if◌then◌else◌}
use Rattle.std.specs.List.{flat_map, list_all}
use Rattle.scan_base.specs.declared.fault.Fault.{Fault}
use Rattle.scan_base.specs.declared.fault.Fault.TheVariants.{BadBatch, SchemaMismatch}
use Rattle.scan_base.specs.Reading.{◌>>=◌}
use Rattle.scan_base.specs.Lists.{each}
use Rattle.arrow_types.specs.declared.schema.Schema.{Schema}
use Rattle.ipc_batch.specs.SaidRows.{Rows}
use Rattle.table_versions.specs.Table.{Table, same_fields}
use Rattle.flight_info.specs.Payloads.{Payload, PayloadsSay}
use Rattle.flight_client.specs.Stream.{StreamAt, Came, schema_said}

-- the one schema of all, where they have the columns of the first
abbrev pub one_schema : List Schema → Result Schema Fault
one_schema [] = Err BadBatch
one_schema (first ∷ others) =
    if list_all (λ other. same_fields first.fields other.fields) others then Ok first
    else Err SchemaMismatch

-- the one schema of streams; the first fault of a stream comes before two schemas that differ
abbrev pub schema_of_all : List StreamAt → Result Schema Fault
schema_of_all streams = each schema_said streams >>= one_schema

-- the rows of streams, one stream's after another's, after their one schema
abbrev pub joined : List StreamAt → Result Table Fault
joined streams = schema_of_all streams >>= λ schema.
    Ok (record { schema = schema; rows = flat_map (λ stream. stream.rows) streams })

-- ---- what the payloads say

-- the payloads of an answer, the stream to which they came, and rows
pub record Answer : Type 0 where
  pub payloads : List Payload
  pub stream : StreamAt
  pub rows : Rows

-- the payloads came, and say these rows after a schema, and then came status 0
pub record SaysRows (schema : Schema) (answer : Answer) : Type 0 where
  pub came : Came answer.payloads answer.stream
  pub said : PayloadsSay answer.payloads schema answer.rows
  pub ended : answer.stream.end ≡ Some (Ok tt)

-- the streams of one or more answers, which all say rows after one schema
pub record AreOf (schema : Schema) (answers : List Answer) (streams : List StreamAt) : Type 0 where
  pub streams_are : streams ≡ map (λ answer. answer.stream) answers
  pub some : answers ≢ []
  pub say : All (SaysRows schema) answers

-- all their rows, one answer's after another's
abbrev pub rows_together : Schema → List Answer → Table
rows_together schema answers =
    record { schema = schema; rows = flat_map (λ answer. answer.rows) answers }
