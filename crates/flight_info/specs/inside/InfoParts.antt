-- Inside: what an info is made of.
use Rattle.std.specs.Prelude.{◌≡◌, ◌≤◌, ℕ, List, [], length, map, All, Result}
use Rattle.scan_base.specs.declared.fault.Fault.{Fault}
use Rattle.scan_base.specs.Limits.{most_endpoints, most_query_bytes}
use Rattle.scan_base.specs.Reading.{◌>>=◌}
use Rattle.endpoint_split.specs.Handle.{HandleAt, Query, Tables, handle_bytes, IsHandle}
use Rattle.flight_proto.specs.Ticket.{statement_ticket_bytes}
use Rattle.flight_proto.specs.InfoCommand.{InfoCommand, wanted_in}
use Rattle.table_versions.specs.Table.{Table}
use Rattle.table_versions.specs.Database.{Database}
use Rattle.flight_info.specs.QueryMeaning.{Answers}
use Rattle.flight_info.specs.Forms.{IsSchemaForm}
use Rattle.flight_info.specs.Infos.{HasHandles, only_rows, only_tables, short_enough}
use Rattle.flight_info.specs.Payloads.{Payload}

-- what a payload wants, where that is a query
abbrev pub rows_read : Payload → Result InfoCommand Fault
rows_read payload = wanted_in payload >>= only_rows

-- the same of the list of tables
abbrev pub tables_read : Payload → Result InfoCommand Fault
tables_read payload = wanted_in payload >>= only_tables

-- what was read, where its text is short enough
abbrev pub if_short : Result InfoCommand Fault → Result InfoCommand Fault
if_short read = read >>= short_enough

-- the Ticket of a handle
abbrev pub ticket_bytes : HandleAt → List ℕ
ticket_bytes handle = statement_ticket_bytes (handle_bytes handle)

-- the text of a handle's query
abbrev pub text_in : HandleAt → List ℕ
text_in (Query number from to text) = text
text_in (Tables number) = []

-- as many bytes as a schema in IPC form has
abbrev pub most_form_bytes : ℕ
most_form_bytes = 65536

-- a schema in IPC form, of the answer to what is wanted
pub record HasForm (database : Database) (wanted : InfoCommand) (form : List ℕ) : Type 0 where
  pub answer : Table
  pub answers : Answers database wanted answer
  pub schema : IsSchemaForm form answer.schema
  pub small : length form ≤ most_form_bytes

-- A schema in IPC form and Tickets, of what is wanted at version n, in so many parts. They are
-- short enough for an info to fit a message.
pub record Describes (database : Database) (n parts : ℕ) (wanted : InfoCommand) (form : List ℕ)
    (tickets : List (List ℕ)) : Type 0 where
  pub answer : Table
  pub answers : Answers database wanted answer
  pub schema : IsSchemaForm form answer.schema
  pub handles : List HandleAt
  pub right : HasHandles database n parts wanted handles
  pub written : tickets ≡ map ticket_bytes handles
  pub sound : All IsHandle handles
  pub short : All (λ handle. length (text_in handle) ≤ most_query_bytes) handles
  pub few : length handles ≤ most_endpoints
  pub small : length form ≤ most_form_bytes
