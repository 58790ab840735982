-- arrow.flight.protocol.sql.CommandStatementIngest: put the rows of a stream into a table.
use Rattle.std.specs.Prelude.{ℕ, Bool, List, [], ◌∷◌, ◌++◌, Option, Result, Ok, option_map}
use Rattle.scan_base.specs.declared.fault.Fault.{Fault}
use Rattle.scan_base.specs.Reading.{◌>>=◌}
use Rattle.proto_wire.specs.Standard.{Entry}
use Rattle.proto_wire.specs.Reading.{fields_of}
use Rattle.proto_wire.specs.Calls.{varint_entry, chunk_entry}
use Rattle.flight_proto.specs.Lookup.{last_bytes, last_text, last_varint, embedded}
use Rattle.flight_proto.specs.Message.{enum_of, bool_of, bool_number, set_fields, embedded_field}
use Rattle.flight_proto.specs.Message.{spelled}
use Rattle.flight_proto.specs.declared.statement_ingest.TableDefinitionOptions.{
  TableDefinitionOptions,
}
use Rattle.flight_proto.specs.declared.statement_ingest.CommandStatementIngest.{
  CommandStatementIngest,
}

-- ---- TableDefinitionOptions: what to do where the table is absent, and where it is there

-- the two numbers
pub record OptionsSaid : Type 0 where
  pub if_not_exist : ℕ
  pub if_exists : ℕ

-- options by their fields: TableNotExistOption if_not_exist = 1, TableExistsOption if_exists = 2
abbrev pub options_in : List Entry → Result OptionsSaid Fault
options_in fields =
    Ok (record {
      if_not_exist = enum_of (last_varint 1 fields);
      if_exists = enum_of (last_varint 2 fields);
    })

-- the options that the bytes are
abbrev pub options_of : List ℕ → Result OptionsSaid Fault
options_of bytes = fields_of bytes >>= options_in

-- the fields of options
abbrev pub options_fields : OptionsSaid → List Entry
options_fields options =
    set_fields (varint_entry 1 options.if_not_exist ∷ varint_entry 2 options.if_exists ∷ [])

-- the bytes of options
abbrev pub options_bytes : OptionsSaid → List ℕ
options_bytes options = spelled (options_fields options)

-- what the code holds
abbrev pub options_said : TableDefinitionOptions → OptionsSaid
options_said options =
    record { if_not_exist = options.if_not_exist; if_exists = options.if_exists }

-- ---- CommandStatementIngest, without the map `options` (1000), which is not read. An optional
-- ---- field that is absent is as one that is empty.

-- what a CommandStatementIngest says
pub record StatementSaid : Type 0 where
  pub table_definition_options : Option OptionsSaid
  pub table : List ℕ
  pub schema : List ℕ
  pub catalog : List ℕ
  pub temporary : Bool
  pub transaction_id : List ℕ

-- the command by its fields: TableDefinitionOptions table_definition_options = 1, string table = 2,
-- optional string schema = 3, optional string catalog = 4, bool temporary = 5,
-- optional bytes transaction_id = 6
abbrev pub statement_in : List Entry → Result StatementSaid Fault
statement_in fields = do
  options ← embedded options_in 1 fields
  table ← last_text 2 fields
  schema ← last_text 3 fields
  catalog ← last_text 4 fields
  Ok (record {
    table_definition_options = options;
    table = table;
    schema = schema;
    catalog = catalog;
    temporary = bool_of (last_varint 5 fields);
    transaction_id = last_bytes 6 fields;
  })

-- the command that the bytes are
abbrev pub statement_of : List ℕ → Result StatementSaid Fault
statement_of bytes = fields_of bytes >>= statement_in

-- the fields of the command after its options
abbrev pub statement_scalars : StatementSaid → List Entry
statement_scalars statement =
    set_fields (chunk_entry 2 statement.table
    ∷ chunk_entry 3 statement.schema
    ∷ chunk_entry 4 statement.catalog
    ∷ varint_entry 5 (bool_number statement.temporary)
    ∷ chunk_entry 6 statement.transaction_id
    ∷ [])

-- the fields of the command
abbrev pub statement_fields : StatementSaid → List Entry
statement_fields statement =
    embedded_field 1 options_bytes statement.table_definition_options ++ statement_scalars statement

-- the bytes of the command
abbrev pub statement_bytes : StatementSaid → List ℕ
statement_bytes statement = spelled (statement_fields statement)

-- what the code holds
abbrev pub statement_said : CommandStatementIngest → StatementSaid
statement_said statement = record {
  table_definition_options = option_map options_said statement.table_definition_options;
  table = statement.table.now;
  schema = statement.schema.now;
  catalog = statement.catalog.now;
  temporary = statement.temporary;
  transaction_id = statement.transaction_id.now;
}
