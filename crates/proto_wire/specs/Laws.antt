-- What holds of all bytes and fields.
use Rattle.std.specs.Prelude.{◌≡◌, ◌↔◌, ◌<◌, ◌^◌, ◌++◌, ℕ, List, [], ◌∷◌, length, All, Ok, flat_map}
use Rattle.proto_wire.specs.Standard.{Chunk, Entry, IsFields, StandsInFront}
use Rattle.proto_wire.specs.Reading.{varint_at, field_at, fields_of}
use Rattle.proto_wire.specs.Writing.{varint, field_spelling, chunk_head, IsWritable}

-- the bytes that read as a list of fields are that list in the standard's words, and no others are
abbrev pub ReadingKeepsStandard : Type 0
ReadingKeepsStandard =
    (bytes : List ℕ) (entries : List Entry) →
    (fields_of bytes ≡ Ok entries) ↔ IsFields bytes entries

-- the same of the field at the front
abbrev pub FrontKeepsStandard : Type 0
FrontKeepsStandard =
    (bytes : List ℕ) (entry : Entry) (rest : List ℕ)
    → (field_at bytes ≡ Ok (entry, rest)) ↔ StandsInFront entry bytes rest

-- at most one field stands in front of bytes
abbrev pub AtMostOneFront : Type 0
AtMostOneFront =
    (bytes : List ℕ) (entry other : Entry) (rest more : List ℕ)
    → StandsInFront entry bytes rest → StandsInFront other bytes more
    → (entry ≡ other) × (rest ≡ more)

-- bytes are at most one list of fields
abbrev pub AtMostOneList : Type 0
AtMostOneList =
    (bytes : List ℕ) (entries others : List Entry)
    → IsFields bytes entries → IsFields bytes others → entries ≡ others

-- a varint that is written reads back, whatever follows it
abbrev pub VarintReadsBack : Type 0
VarintReadsBack = (n : ℕ) (rest : List ℕ) → n < 2 ^ 64 → varint_at (varint n ++ rest) ≡ Ok (n, rest)

-- what is written for fields are those fields
abbrev pub SpellingKeepsStandard : Type 0
SpellingKeepsStandard =
    (entries : List Entry) → All IsWritable entries →
    IsFields (flat_map field_spelling entries) entries

-- bytes that are fields are, with a written field after them, the same fields and one more
abbrev pub FieldsAreGained : Type 0
FieldsAreGained =
    (bytes : List ℕ) (entries : List Entry) (entry : Entry)
    → IsFields bytes entries → IsWritable entry
    → IsFields (bytes ++ field_spelling entry) (entries ++ entry ∷ [])

-- a field of bytes is its head, and then the bytes
abbrev pub ChunksFollowHeads : Type 0
ChunksFollowHeads = (number : ℕ) (chunk : List ℕ) →
    field_spelling (record { number = number; content = Chunk chunk })
    ≡ chunk_head number (length chunk) ++ chunk
