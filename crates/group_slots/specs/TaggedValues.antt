-- Inside: what tags say of values.
use Rattle.std.specs.Prelude.{◌==◌, ℕ, zero, suc, ◌-◌, ◌/◌, ◌%◌, unwrap_or, if◌then◌else◌, List, []}
use Rattle.std.specs.Prelude.{◌∷◌}
use Rattle.std.specs.Int.{w64, cast_signed}
use Rattle.scan_base.specs.declared.value.Value.{Value}
use Rattle.scan_base.specs.declared.value.Value.TheVariants.{Null, Int, Text}
use Rattle.arrays.specs.Dictionary.{entry_at}

-- the lowest bytes of a number, the lowest first
abbrev pub low_bytes : ℕ → ℕ → List ℕ
low_bytes zero number = []
low_bytes (suc len) number = number % 256 ∷ low_bytes len (number / 256)

-- What a tag of a kind says that a value is: NULL, a number, or a text of so many bytes.
abbrev pub value_tagged : ℕ → ℕ → Value
value_tagged kind key = if kind == 1 then Null
    else if kind == 2 then Int (cast_signed w64 key) else Text (low_bytes (kind - 3) key)

-- What a tag of a kind says that an index leads to: NULL, or an entry of the dictionary.
abbrev pub entry_tagged : List Value → ℕ → ℕ → Value
entry_tagged dictionary kind key =
    if kind == 1 then Null else unwrap_or (entry_at dictionary (cast_signed w64 key)) Null
