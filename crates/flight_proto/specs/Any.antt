-- google.protobuf.Any: a message of any type, next to the name of its type.
use Rattle.std.specs.Prelude.{ℕ, ◌==◌, List, [], ◌∷◌, ◌++◌, Option, Some, None, Result, Ok, codes}
use Rattle.std.specs.Prelude.{if◌then◌else◌}
use Rattle.std.specs.Option.{option_or}
use Rattle.scan_base.specs.declared.fault.Fault.{Fault}
use Rattle.scan_base.specs.Reading.{◌>>=◌}
use Rattle.proto_wire.specs.Standard.{Entry}
use Rattle.proto_wire.specs.Reading.{fields_of}
use Rattle.proto_wire.specs.Calls.{chunk_entry}
use Rattle.flight_proto.specs.Lookup.{last_text, last_bytes}
use Rattle.flight_proto.specs.Message.{set_fields, spelled}
use Rattle.flight_proto.specs.declared.any.Any.{Any}

-- what an Any says
pub record AnySaid : Type 0 where
  pub type_url : List ℕ
  pub value : List ℕ

-- an Any by its fields: string type_url = 1, bytes value = 2
abbrev pub any_in : List Entry → Result AnySaid Fault
any_in fields = do
  type_url ← last_text 1 fields
  Ok (record { type_url = type_url; value = last_bytes 2 fields })

-- the Any that the bytes are
abbrev pub any_of : List ℕ → Result AnySaid Fault
any_of bytes = fields_of bytes >>= any_in

-- the fields of an Any
abbrev pub any_fields : AnySaid → List Entry
any_fields any = set_fields (chunk_entry 1 any.type_url ∷ chunk_entry 2 any.value ∷ [])

-- the bytes of an Any
abbrev pub any_bytes : AnySaid → List ℕ
any_bytes any = spelled (any_fields any)

-- the full name of the message's type: what follows the last slash (47) of the URL, where it has
-- one
abbrev pub message_name : List ℕ → Option (List ℕ)
message_name [] = None
message_name (b ∷ rest) = option_or (message_name rest) (if b == 47 then Some rest else None)

-- the URL of a message's type
abbrev pub type_url_of : List ℕ → List ℕ
type_url_of name = codes "type.googleapis.com/" ++ name

-- what the code holds
abbrev pub any_said : Any → AnySaid
any_said any = record { type_url = any.type_url.now; value = any.value.now }
