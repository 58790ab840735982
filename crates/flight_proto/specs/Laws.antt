-- What holds of all messages.
use Rattle.std.specs.Prelude.{◌≡◌, ◌≢◌, ◌↔◌, ◌<◌, ◌≤◌, ◌^◌, ◌++◌, ◌∷◌, ℕ, ℤ, false, List, length}
use Rattle.std.specs.Prelude.{slice_index, flat_map, All, Option, None, Some, Result, Ok, IsUtf8}
use Rattle.std.specs.Prelude.{FitsSigned, IfSome}
use Rattle.std.specs.Int.{w64}
use Rattle.scan_base.specs.declared.fault.Fault.{Fault}
use Rattle.scan_base.specs.Limits.{most_query_bytes}
use Rattle.proto_wire.specs.Standard.{Entry}
use Rattle.proto_wire.specs.Reading.{fields_of}
use Rattle.proto_wire.specs.Writing.{IsWritable}
use Rattle.flight_proto.specs.Lookup.{fields_of_parts}
use Rattle.flight_proto.specs.Message.{spelled}
use Rattle.flight_proto.specs.Any.{AnySaid, message_name}
use Rattle.flight_proto.specs.FlightDescriptor.{DescriptorSaid, descriptor_of}
use Rattle.flight_proto.specs.FlightData.{DataSaid, data_of, stream_descriptor_of, data_bytes}
use Rattle.flight_proto.specs.FlightData.{data_head}
use Rattle.flight_proto.specs.StatementIngest.{OptionsSaid, StatementSaid}
use Rattle.flight_proto.specs.FlightInfo.{EndpointSaid, InfoSaid}
use Rattle.flight_proto.specs.InfoCommand.{QuerySaid, TablesSaid, InfoCommand, rows_of, tables}
use Rattle.flight_proto.specs.Action.{ActionSaid}

-- ---- merging

-- the parts of an embedded message read, one after the other, as they read joined
abbrev pub PartsJoin : Type 0
PartsJoin =
    (parts : List (List ℕ)) (fields : List Entry)
    → fields_of_parts parts ≡ Ok fields → fields_of (flat_map (λ part. part) parts) ≡ Ok fields

-- ---- the name of a message's type

-- the byte of `/`
abbrev pub slash : ℕ
slash = 47

-- no byte is a slash
abbrev pub LacksSlash : List ℕ → Type 0
LacksSlash text = (i : ℕ) → i < length text → slice_index text i ≢ slash

-- it stands after a slash of the URL, and no slash stands in it
abbrev pub NameIsLastPart : Type 0
NameIsLastPart =
    (url name : List ℕ)
    → (message_name url ≡ Some name)
    ↔ ((front : List ℕ) × (url ≡ front ++ slash ∷ name) × LacksSlash name)

-- ---- what is written reads back

-- the fields that are written are those that are read
abbrev pub FieldsReadBack : Type 0
FieldsReadBack =
    (fields : List Entry) → All IsWritable fields → fields_of (spelled fields) ≡ Ok fields

-- a message that is within its range reads from its bytes as it was
abbrev pub ReadsBack : {A : Type 0} → (A → Type 0) → (List ℕ → Result A Fault) →
    (A → List ℕ) → Type 0
ReadsBack {A} IsSound message_of bytes_of =
    (message : A) → IsSound message → message_of (bytes_of message) ≡ Ok message

-- bytes that memory has room for
abbrev pub FitsMemory : List ℕ → Type 0
FitsMemory bytes = length bytes < 2 ^ 63

-- bytes that are a text
abbrev pub IsText : List ℕ → Type 0
IsText text = IsUtf8 text × FitsMemory text

-- a count of 64 bits
abbrev pub IsCount : ℤ → Type 0
IsCount count = FitsSigned w64 count

-- an Any
abbrev pub IsAny : AnySaid → Type 0
IsAny any = IsText any.type_url × FitsMemory any.value

-- a descriptor whose type is a number of 32 bits
abbrev pub IsDescriptor : DescriptorSaid → Type 0
IsDescriptor descriptor = (descriptor.descriptor_type < 2 ^ 32) × FitsMemory descriptor.cmd

-- options whose numbers are of 32 bits
abbrev pub AreOptions : OptionsSaid → Type 0
AreOptions options = (options.if_not_exist < 2 ^ 32) × (options.if_exists < 2 ^ 32)

-- a CommandStatementIngest
abbrev pub IsStatement : StatementSaid → Type 0
IsStatement statement =
    IfSome statement.table_definition_options AreOptions
    × IsText statement.table × IsText statement.schema × IsText statement.catalog
    × FitsMemory statement.transaction_id

-- a CommandStatementQuery
abbrev pub IsQuery : QuerySaid → Type 0
IsQuery said = IsText said.query × FitsMemory said.transaction_id

-- a CommandGetTables without filters
abbrev pub IsUnfiltered : TablesSaid → Type 0
IsUnfiltered said = said.is_filtered ≡ false

-- what is asked for: a query's text is within its limit
abbrev pub IsWanted : InfoCommand → Type 0
IsWanted (rows_of text) = IsText text × (length text ≤ most_query_bytes)
IsWanted tables = Unit {0}

-- an Action
abbrev pub IsAction : ActionSaid → Type 0
IsAction action = IsText action.action_type × FitsMemory action.body

-- an endpoint without a location, whose ticket reads as a message
pub record IsEndpoint (endpoint : EndpointSaid) : Type 0 where
  pub fits : FitsMemory endpoint.ticket
  pub fields : List Entry
  pub reads : fields_of endpoint.ticket ≡ Ok fields
  pub here : endpoint.has_location ≡ false

-- an info without a location, whose descriptor reads as one
pub record IsInfo (info : InfoSaid) : Type 0 where
  pub schema : FitsMemory info.schema
  pub fits : FitsMemory info.descriptor
  pub descriptor : DescriptorSaid
  pub reads : descriptor_of info.descriptor ≡ Ok descriptor
  pub endpoints : All IsEndpoint info.endpoints
  pub records : IsCount info.total_records
  pub bytes : IsCount info.total_bytes

-- of a FlightData, both what it carries and the descriptor of the stream read back
abbrev pub DataReadsBack : Type 0
DataReadsBack =
    (descriptor : Option DescriptorSaid) (carried : DataSaid)
    → IfSome descriptor IsDescriptor → FitsMemory carried.data_header → FitsMemory carried.data_body
    → (stream_descriptor_of (data_bytes descriptor carried) ≡ Ok descriptor)
    × (data_of (data_bytes descriptor carried) ≡ Ok carried)

-- a message without a descriptor is its head, and then its body
abbrev pub BodiesFollowHeads : Type 0
BodiesFollowHeads =
    (carried : DataSaid)
    → data_bytes None carried
    ≡ data_head carried.data_header (length carried.data_body) ++ carried.data_body
