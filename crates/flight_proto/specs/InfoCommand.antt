-- What a flight info or a schema is asked for: the command of GetFlightInfo and of GetSchema.
use Rattle.std.specs.Prelude.{ℕ, ◌==◌, ◌||◌, Bool, false, not, nat_le, List, [], ◌∷◌, length, Some}
use Rattle.std.specs.Prelude.{Result, Ok, Err, codes, bytes_eq, if◌then◌else◌}
use Rattle.scan_base.specs.declared.fault.Fault.{Fault}
use Rattle.scan_base.specs.declared.fault.Fault.TheVariants.{UnknownCommand, LimitReached}
use Rattle.scan_base.specs.declared.fault.Fault.TheVariants.{NotInSubset}
use Rattle.scan_base.specs.Limits.{most_request_bytes}
use Rattle.scan_base.specs.Reading.{◌>>=◌, demand}
use Rattle.proto_wire.specs.Standard.{Entry}
use Rattle.proto_wire.specs.Reading.{fields_of}
use Rattle.proto_wire.specs.Calls.{varint_entry, chunk_entry}
use Rattle.flight_proto.specs.Message.{bool_of, bool_number, set_fields, spelled}
use Rattle.flight_proto.specs.Lookup.{last_bytes, last_text, last_varint, is_present}
use Rattle.flight_proto.specs.FlightDescriptor.{descriptor_of, descriptor_bytes}
use Rattle.flight_proto.specs.Any.{AnySaid, any_bytes, type_url_of}
use Rattle.flight_proto.specs.Command.{CommandSaid, command_of}
use Rattle.flight_proto.specs.declared.info_command.CommandStatementQuery.{CommandStatementQuery}
use Rattle.flight_proto.specs.declared.info_command.CommandGetTables.{CommandGetTables}
use Rattle.flight_proto.specs.declared.info_command.InfoCommand as code
use Rattle.flight_proto.specs.declared.info_command.InfoCommand.TheVariants as variants

-- ---- arrow.flight.protocol.sql.CommandStatementQuery: query = 1, optional transaction_id = 2

-- the query's text, and the transaction: one that is absent is as one that is empty
pub record QuerySaid : Type 0 where
  pub query : List ℕ
  pub transaction_id : List ℕ

-- a query by its fields
abbrev pub query_in : List Entry → Result QuerySaid Fault
query_in fields = do
  query ← last_text 1 fields
  Ok (record { query = query; transaction_id = last_bytes 2 fields })

-- the query that the bytes are
abbrev pub query_of : List ℕ → Result QuerySaid Fault
query_of bytes = fields_of bytes >>= query_in

-- ---- arrow.flight.protocol.sql.CommandGetTables: optional strings catalog = 1, the patterns
-- ---- db_schema_filter = 2 and table_name_filter = 3, table_types = 4, bool include_schema = 5

-- whether the tables are filtered, and whether their schemas are asked for. The filters' texts are
-- not kept.
pub record TablesSaid : Type 0 where
  pub is_filtered : Bool
  pub include_schema : Bool

-- a list of tables by its fields: a filter is one that is present, though it may be empty
abbrev pub tables_in : List Entry → Result TablesSaid Fault
tables_in fields = do
  _ ← last_text 1 fields
  _ ← last_text 2 fields
  _ ← last_text 3 fields
  _ ← last_text 4 fields
  Ok (record {
    is_filtered =
        is_present 1 fields || is_present 2 fields || is_present 3 fields || is_present 4 fields;
    include_schema = bool_of (last_varint 5 fields);
  })

-- the list of tables that the bytes are
abbrev pub tables_of : List ℕ → Result TablesSaid Fault
tables_of bytes = fields_of bytes >>= tables_in

-- ---- what is wanted

-- the rows of a query's text, or the list of tables
pub data InfoCommand : Type 0 where
  rows_of : (text : List ℕ) → InfoCommand
  tables : InfoCommand

-- a query outside of any transaction
abbrev pub wanted_rows : List ℕ → Result InfoCommand Fault
wanted_rows value = do
  query ← query_of value
  _ ← demand (length query.transaction_id == 0) NotInSubset
  Ok (rows_of query.query)

-- all tables, without their schemas
abbrev pub wanted_tables : List ℕ → Result InfoCommand Fault
wanted_tables value = do
  said ← tables_of value
  _ ← demand (not (said.is_filtered || said.include_schema)) NotInSubset
  Ok tables

-- the full name of the command that asks for rows
abbrev pub statement_query_name : List ℕ
statement_query_name = codes "arrow.flight.protocol.sql.CommandStatementQuery"

-- the full name of the command that asks for the list of tables
abbrev pub get_tables_name : List ℕ
get_tables_name = codes "arrow.flight.protocol.sql.CommandGetTables"

-- what the command wants, by its name
abbrev pub wanted_by : CommandSaid → Result InfoCommand Fault
wanted_by command =
    if bytes_eq command.name statement_query_name then wanted_rows command.value
    else (if bytes_eq command.name get_tables_name then wanted_tables command.value
    else Err UnknownCommand)

-- the command in the message, a descriptor, or the first fault
unfoldable pub wanted_in : List ℕ → Result InfoCommand Fault
wanted_in message = do
  _ ← demand (nat_le (length message) most_request_bytes) LimitReached
  descriptor ← descriptor_of message
  command ← command_of (Some descriptor)
  wanted_by command

-- ---- what is written

-- the bytes of a query
abbrev pub query_bytes : QuerySaid → List ℕ
query_bytes said =
    spelled (set_fields (chunk_entry 1 said.query ∷ chunk_entry 2 said.transaction_id ∷ []))

-- the bytes of a list of tables without filters
abbrev pub tables_bytes : Bool → List ℕ
tables_bytes include_schema =
    spelled (set_fields (varint_entry 5 (bool_number include_schema) ∷ []))

-- the Any of a command
abbrev pub wanted_any : InfoCommand → AnySaid
wanted_any (rows_of text) = record {
  type_url = type_url_of statement_query_name;
  value = query_bytes (record { query = text; transaction_id = [] });
}
wanted_any tables = record { type_url = type_url_of get_tables_name; value = tables_bytes false }

-- a descriptor, of type CMD, of the command in an Any
abbrev pub command_bytes : AnySaid → List ℕ
command_bytes any = descriptor_bytes (record { descriptor_type = 2; cmd = any_bytes any })

-- the message that asks for it
abbrev pub wanted_bytes : InfoCommand → List ℕ
wanted_bytes wanted = command_bytes (wanted_any wanted)

-- ---- what the code holds

-- a query
abbrev pub query_said : CommandStatementQuery → QuerySaid
query_said query = record { query = query.query.now; transaction_id = query.transaction_id.now }

-- a list of tables
abbrev pub tables_said : CommandGetTables → TablesSaid
tables_said said = record { is_filtered = said.is_filtered; include_schema = said.include_schema }

-- what is wanted
abbrev pub wanted_said : code.InfoCommand → InfoCommand
wanted_said (variants.Rows text) = rows_of text.now
wanted_said variants.Tables = tables
