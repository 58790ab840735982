-- What is read of what was written, whatever it is and wherever it stands.
use Rattle.std.specs.Prelude.{◌≡◌, ℕ, ◌+◌, ◌*◌, ◌%◌, ◌^◌, ◌≤◌, ◌<◌, List, length, map, Some, None}
use Rattle.std.specs.Prelude.{Ok, IsUtf8, slice_get}
use Rattle.flatbuf.specs.Place.{TableAt, VectorAt, number_at, target_of, root_of, vtable_of}
use Rattle.flatbuf.specs.Place.{field_of, scalar_of, table_of, vector_of, element_of, structs_of}
use Rattle.flatbuf.specs.Place.{text_of}
use Rattle.flatbuf.specs.Layout.{Stands}
use Rattle.flatbuf.specs.Block.{Part, IsWhole, Given, Absent, Number, Offset, given_at, AreWhole}
use Rattle.flatbuf.specs.Block.{table_part, text_part, structs_part, tables_part, buffer_of}
use Rattle.flatbuf.specs.Fits.{FitsTable, FitsTables, FitsStructs}

-- the root of a part that stands at a place, read as a table
abbrev pub table_at : List ℕ → ℕ → Part → TableAt
table_at bytes place part = record { bytes = bytes; at = place + part.root }

-- A slot leads to the root of a block, whose bytes stand at a place. That is a multiple of 8 where
-- the table begins at one.
pub record LeadsToBlock (table : TableAt) (slot : ℕ) (part : Part) : Type 0 where
  pub from : ℕ
  pub place : ℕ
  pub field : field_of table slot ≡ Ok (Some from)
  pub target : target_of table.bytes from ≡ Ok (place + part.root)
  pub stands : Stands part.bytes table.bytes place
  pub aligned : table.at % 8 ≡ 0 → place % 8 ≡ 0

-- a slot reads as what it was given: a number in every width that holds it
abbrev pub SlotReads : TableAt → ℕ → Given → Type 0
SlotReads table slot Absent = field_of table slot ≡ Ok None
SlotReads table slot (Number n) =
    (width default : ℕ) → width ≤ 8 → n < 256 ^ width → scalar_of width table slot default ≡ Ok n
SlotReads table slot (Offset part) = LeadsToBlock table slot part

-- wherever a table stands, every slot reads as what it was given, and past the last one as absent
abbrev pub TableReadsBack : Type 0
TableReadsBack = (slots : List Given) (bytes : List ℕ) (place : ℕ) → FitsTable slots →
    AreWhole slots → Stands (table_part slots).bytes bytes place →
    (slot : ℕ) → SlotReads (table_at bytes place (table_part slots)) slot (given_at slots slot)

-- a table's vtable stands right before it, and says the sizes of both
abbrev pub VtableReadsBack : Type 0
VtableReadsBack = (slots : List Given) (bytes : List ℕ) (place : ℕ) → FitsTable slots →
    Stands (table_part slots).bytes bytes place →
    (vtable_of (table_at bytes place (table_part slots)) ≡ Ok place)
    × (number_at 2 bytes place ≡ Ok (4 + 2 * length slots))
    × (number_at 2 bytes (place + 2) ≡ Ok (8 + 8 * length slots))

-- where a table's bytes stand at a multiple of 8, it begins at one, and so does each field
abbrev pub TableIsAligned : Type 0
TableIsAligned = (slots : List Given) (bytes : List ℕ) (place : ℕ) → FitsTable slots →
    AreWhole slots → Stands (table_part slots).bytes bytes place → place % 8 ≡ 0 →
    ((place + (table_part slots).root) % 8 ≡ 0)
    × ((slot from : ℕ) → field_of (table_at bytes place (table_part slots)) slot ≡ Ok (Some from) →
    from % 8 ≡ 0)

-- a table that a slot leads to is read where its bytes stand
abbrev pub ChildReadsBack : Type 0
ChildReadsBack = (table : TableAt) (slot : ℕ) (part : Part) → (led : LeadsToBlock table slot part) →
    table_of table slot ≡ Ok (Some (table_at table.bytes led.place part))

-- a text reads back, and the byte after it is zero
abbrev pub TextReadsBack : Type 0
TextReadsBack = (table : TableAt) (slot : ℕ) (text : List ℕ) → IsUtf8 text → length text < 2 ^ 32 →
    (led : LeadsToBlock table slot (text_part text)) →
    (text_of table slot ≡ Ok (Some text))
    × (number_at 1 table.bytes (led.place + 8 + length text) ≡ Ok 0)

-- structs read back, and begin at a multiple of 8 where the table does
abbrev pub StructsReadBack : Type 0
StructsReadBack = (table : TableAt) (slot width : ℕ) (structs : List ℕ) →
    FitsStructs width structs → (led : LeadsToBlock table slot (structs_part width structs)) →
    (structs_of width table slot ≡ Ok (Some structs))
    × Stands structs table.bytes (led.place + 8)
    × (table.at % 8 ≡ 0 → (led.place + 8) % 8 ≡ 0)

-- An index of a vector leads to the root of a table, whose bytes stand at a place. That is a
-- multiple of 8 where the first offset stands at one.
pub record ElementIs (vector : VectorAt) (index : ℕ) (part : Part) : Type 0 where
  pub place : ℕ
  pub element : element_of vector index ≡ Ok (table_at vector.bytes place part)
  pub stands : Stands part.bytes vector.bytes place
  pub aligned : vector.first % 8 ≡ 0 → place % 8 ≡ 0

-- A slot reads as a vector of these tables, in their order. Its first offset stands at a multiple
-- of 8, and so each at a multiple of 4, where the table does.
pub record VectorReads (table : TableAt) (slot : ℕ) (vector : VectorAt)
    (tables : List Part) : Type 0 where
  pub found : vector_of table slot ≡ Ok (Some vector)
  pub same : vector.bytes ≡ table.bytes
  pub count : vector.count ≡ length tables
  pub elements : (index : ℕ) (part : Part) → slice_get tables index ≡ Some part →
      ElementIs vector index part
  pub aligned : table.at % 8 ≡ 0 → vector.first % 8 ≡ 0
  pub offsets : table.at % 8 ≡ 0 → (index : ℕ) → (vector.first + 4 * index) % 4 ≡ 0

-- a vector of tables reads back
abbrev pub TablesReadBack : Type 0
TablesReadBack = (table : TableAt) (slot : ℕ) (tables : List Part) → FitsTables tables →
    AreWhole (map Offset tables) → LeadsToBlock table slot (tables_part tables) →
    (vector : VectorAt) × VectorReads table slot vector tables

-- a buffer leads to its table, whose bytes stand at 8, and has a multiple of 8 bytes
abbrev pub BufferReadsBack : Type 0
BufferReadsBack = (part : Part) → IsWhole part → 8 + length part.bytes < 2 ^ 31 →
    (root_of (buffer_of part) ≡ Ok (table_at (buffer_of part) 8 part))
    × Stands part.bytes (buffer_of part) 8
    × (length (buffer_of part) % 8 ≡ 0)
