-- Inside: the parts of a message that is written, as the code holds them.
use Rattle.std.specs.Prelude.{List, [], ◌∷◌, Some, None, if◌then◌else◌}
use Rattle.proto_wire.specs.Standard.{Entry, IsFieldNumber}
use Rattle.proto_wire.specs.Calls.{content_of, entry_of, chunk_entry}
use Rattle.flight_proto.specs.Message.{is_set}
use Rattle.flight_proto.specs.declared.message_parts.Part.{Part}
use Rattle.flight_proto.specs.declared.message_parts.Part.TheVariants.{Scalar, Embedded}

-- the fields that are written
abbrev pub entries_of : List Part → List Entry
entries_of [] = []
entries_of (Scalar field ∷ parts) =
    if is_set (content_of field.payload) then entry_of field ∷ entries_of parts
    else entries_of parts
entries_of (Embedded number None ∷ parts) = entries_of parts
entries_of (Embedded number (Some bytes) ∷ parts) = chunk_entry number bytes.now ∷ entries_of parts

-- a part has a number that a field may have
abbrev pub IsNumbered : Part → Type 0
IsNumbered (Scalar field) = IsFieldNumber field.number
IsNumbered (Embedded number bytes) = IsFieldNumber number

-- each part has one
abbrev pub AreNumbered : List Part → Type 0
AreNumbered [] = Unit {0}
AreNumbered (part ∷ parts) = IsNumbered part × AreNumbered parts
