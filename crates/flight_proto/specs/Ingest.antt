-- The ingest that the first message of a put asks for, as far as it is supported.
use Rattle.std.specs.Prelude.{ℕ, ◌==◌, ◌&&◌, Bool, not, List, [], ◌∷◌, length, slice_get, Result}
use Rattle.std.specs.Prelude.{Ok, unwrap_or, codes, bytes_eq}
use Rattle.scan_base.specs.declared.fault.Fault.{Fault}
use Rattle.scan_base.specs.declared.fault.Fault.TheVariants.{BadProto, UnknownCommand, NotInSubset}
use Rattle.scan_base.specs.Reading.{◌>>=◌, demand, wanted}
use Rattle.flight_proto.specs.FlightData.{stream_descriptor_of}
use Rattle.flight_proto.specs.StatementIngest.{OptionsSaid, StatementSaid, statement_of}
use Rattle.flight_proto.specs.Command.{command_of}
use Rattle.scan_base.specs.declared.put_options.IfNotExist.{IfNotExist}
use Rattle.scan_base.specs.declared.put_options.IfNotExist.TheVariants as absent
use Rattle.scan_base.specs.declared.put_options.IfExists.{IfExists}
use Rattle.scan_base.specs.declared.put_options.IfExists.TheVariants.{Unspecified, Fail, Append}
use Rattle.scan_base.specs.declared.put_options.IfExists.TheVariants.{Replace}
use Rattle.flight_proto.specs.declared.ingest.Ingest.{Ingest}

-- what to do where the table is absent, by its number
abbrev pub if_not_exist_of : ℕ → Result IfNotExist Fault
if_not_exist_of number =
    wanted (slice_get (absent.Unspecified ∷ absent.Create ∷ absent.Fail ∷ []) number) BadProto

-- what to do where the table is there, by its number
abbrev pub if_exists_of : ℕ → Result IfExists Fault
if_exists_of number =
    wanted (slice_get (Unspecified ∷ Fail ∷ Append ∷ Replace ∷ []) number) BadProto

-- what is left out is at its default
abbrev pub is_in_subset : StatementSaid → Bool
is_in_subset statement =
    length statement.schema == 0 && length statement.catalog == 0 && not statement.temporary
    && length statement.transaction_id == 0

-- what is asked of a put: the table's name, and what to do where it is absent and where it is there
pub record IngestSaid : Type 0 where
  pub table : List ℕ
  pub if_not_exist : IfNotExist
  pub if_exists : IfExists

-- absent options are as empty ones
abbrev pub options_said_in : StatementSaid → OptionsSaid
options_said_in statement =
    unwrap_or statement.table_definition_options (record { if_not_exist = 0; if_exists = 0 })

-- the ingest of a command, or the first fault
unfoldable pub ingest_in : List ℕ → Result IngestSaid Fault
ingest_in value = do
  statement ← statement_of value
  if_not_exist ← if_not_exist_of (options_said_in statement).if_not_exist
  if_exists ← if_exists_of (options_said_in statement).if_exists
  _ ← demand (is_in_subset statement) NotInSubset
  Ok (record { table = statement.table; if_not_exist = if_not_exist; if_exists = if_exists })

-- the full name of the command
abbrev pub statement_ingest_name : List ℕ
statement_ingest_name = codes "arrow.flight.protocol.sql.CommandStatementIngest"

-- the ingest that the first message of a put asks for, or the first fault
unfoldable pub ingest_of : List ℕ → Result IngestSaid Fault
ingest_of first = do
  descriptor ← stream_descriptor_of first
  command ← command_of descriptor
  _ ← demand (bytes_eq command.name statement_ingest_name) UnknownCommand
  ingest_in command.value

-- what the code holds
abbrev pub ingest_said : Ingest → IngestSaid
ingest_said ingest = record {
  table = ingest.table.now;
  if_not_exist = ingest.if_not_exist;
  if_exists = ingest.if_exists;
}
