-- The bytes that are written for a field: the shortest varints, and everything else as the standard
-- says.
use Rattle.std.specs.Prelude.{ℕ, zero, suc, ◌+◌, ◌*◌, ◌/◌, ◌%◌, ◌^◌, ◌<◌, ◌++◌, List, [], ◌∷◌}
use Rattle.std.specs.Prelude.{length, nat_lt, if◌then◌else◌}
use Rattle.std.specs.Int.{w32, w64, to_le_bytes}
use Rattle.proto_wire.specs.Standard.{Content, Varint, Fixed64, Chunk, Fixed32, Entry, wire_type}
use Rattle.proto_wire.specs.Standard.{IsFieldNumber}

-- the shortest groups of a number, at most one and this many more
abbrev pub groups_of : ℕ → ℕ → List ℕ
groups_of zero n = n ∷ []
groups_of (suc more) n = if nat_lt n 128 then n ∷ [] else (n % 128 + 128) ∷ groups_of more (n / 128)

-- the shortest varint of a number
unfoldable pub varint : ℕ → List ℕ
varint n = groups_of 9 n

-- what is written after the tag
abbrev pub body : Content → List ℕ
body (Varint value) = varint value
body (Fixed64 value) = to_le_bytes w64 value
body (Chunk chunk) = varint (length chunk) ++ chunk
body (Fixed32 value) = to_le_bytes w32 value

-- what is written for a field
unfoldable pub field_spelling : Entry → List ℕ
field_spelling entry = varint (8 * entry.number + wire_type entry.content) ++ body entry.content

-- what is written before the bytes of a field of so many bytes: its tag, of wire type 2, and its
-- length
unfoldable pub chunk_head : ℕ → ℕ → List ℕ
chunk_head number len = varint (8 * number + 2) ++ varint len

-- the wire has room for this
abbrev pub Fits : Content → Type 0
Fits (Varint value) = value < 2 ^ 64
Fits (Fixed64 value) = value < 2 ^ 64
Fits (Chunk chunk) = length chunk < 2 ^ 64
Fits (Fixed32 value) = value < 2 ^ 32

-- a field that can be written
pub record IsWritable (entry : Entry) : Type 0 where
  pub number_is : IsFieldNumber entry.number
  pub fits : Fits entry.content
