-- Inside: the fields of a message that are left, and how one after the other is read.
use Rattle.std.specs.Prelude.{◌≡◌, ℕ, List, [], ◌∷◌, ◌++◌, Option, Some, None, Result, Ok, Err}
use Rattle.std.specs.Prelude.{IsOk}
use Rattle.scan_base.specs.declared.fault.Fault.{Fault}
use Rattle.scan_base.specs.Reading.{◌>>=◌}
use Rattle.proto_wire.specs.declared.field.Field.{Field}
use Rattle.proto_wire.specs.Standard.{Entry}
use Rattle.proto_wire.specs.Reading.{fields_of}
use Rattle.proto_wire.specs.Calls.{entry_of}
use Rattle.flight_proto.specs.Lookup.{parts_in}
use Rattle.flight_proto.specs.declared.message.Cursor.{Cursor}

-- the fields of a part, and then those of the message of this number that is embedded in what comes
-- later
unfoldable pub fields_left : List ℕ → List ℕ → ℕ → Result (List Entry) Fault
fields_left part later number = do
  first ← fields_of part
  fields ← fields_of later
  others ← parts_in number fields
  Ok (first ++ others)

-- the fields, where they read
abbrev pub read_or_none : Result (List Entry) Fault → List Entry
read_or_none (Ok fields) = fields
read_or_none (Err fault) = []

-- the fields that are left
abbrev pub left_of : Cursor → Result (List Entry) Fault
left_of cursor = fields_left cursor.part cursor.later cursor.number

-- one field is read of those that are left
abbrev pub LeftOn : Result (Option Field) Fault → Result (List Entry) Fault →
    Result (List Entry) Fault → Type 0
LeftOn (Ok (Some field)) old new = old ≡ (new >>= λ fields. Ok (entry_of field ∷ fields))
LeftOn (Ok None) old new = old ≡ Ok []
LeftOn (Err fault) old new = old ≡ Err fault

-- this holds where a field was read
abbrev pub IfMore : Result (Option Field) Fault → Type 0 → Type 0
IfMore (Ok (Some field)) Holds = Holds
IfMore other Holds = Unit {0}

-- it is found out whether all of it reads
abbrev pub Reads : {X Y : Type 0} → Result X Fault → Result Y Fault → Type 0
Reads (Ok x) read = IsOk read
Reads (Err fault) read = read ≡ Err fault
