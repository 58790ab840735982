-- How a buffer is laid out where it is written: blocks, each of which may stand at any multiple of
-- 8.
use Rattle.std.specs.Prelude.{◌≡◌, ℕ, ◌+◌, ◌-◌, ◌*◌, ◌/◌, ◌%◌, ◌<◌, List, [], ◌∷◌, ◌++◌, length}
use Rattle.std.specs.Prelude.{map, replicate, slice_get, unwrap_or}
use Rattle.byteorder.specs.Endian.{little_bytes}

-- bytes that lead to nothing outside themselves, and where in them their table, text or vector
-- begins
pub record Part : Type 0 where
  pub bytes : List ℕ
  pub root : ℕ

-- the root is inside the bytes, whose count is a multiple of 8
pub record IsWhole (part : Part) : Type 0 where
  pub rooted : part.root < length part.bytes
  pub whole : length part.bytes % 8 ≡ 0

-- what a slot of a table is given
pub data Given : Type 0 where
  Absent : Given
  Number : ℕ → Given
  Offset : Part → Given

-- what the slot of this number is given: a slot past the last one is absent
abbrev pub given_at : List Given → ℕ → Given
given_at slots slot = unwrap_or (slice_get slots slot) Absent

-- each block that is led to is whole
abbrev pub AreWhole : List Given → Type 0
AreWhole [] = Unit {0}
AreWhole (Absent ∷ more) = AreWhole more
AreWhole (Number n ∷ more) = AreWhole more
AreWhole (Offset part ∷ more) = IsWhole part × AreWhole more

-- a number in so many bytes, the lowest first
unfoldable pub little : ℕ → ℕ → List ℕ
little width n = little_bytes width n

-- numbers in so many bytes each
abbrev pub numbers : ℕ → List ℕ → List ℕ
numbers width [] = []
numbers width (n ∷ more) = little width n ++ numbers width more

-- the zeros after so many bytes, up to a multiple of 8
unfoldable pub padding : ℕ → List ℕ
padding n = replicate ((8 - n % 8) % 8) 0

-- bytes and the zeros after them
abbrev pub padded : List ℕ → List ℕ
padded bytes = bytes ++ padding (length bytes)

-- the entries of a vtable: 0, or how far after the table's first byte the field stands, each 8
-- bytes on
abbrev pub entries : ℕ → List Given → List ℕ
entries place [] = []
entries place (Absent ∷ more) = 0 ∷ entries (place + 8) more
entries place (Number n ∷ more) = place ∷ entries (place + 8) more
entries place (Offset part ∷ more) = place ∷ entries (place + 8) more

-- The fields, each of `width` bytes, the first at `place`. The blocks that they lead to stand from
-- `next` on, one after the other. An offset counts from its own place.
abbrev pub fields : ℕ → ℕ → ℕ → List Given → List ℕ
fields width place next [] = []
fields width place next (Absent ∷ more) = 0 ∷ fields width (place + width) next more
fields width place next (Number n ∷ more) = n ∷ fields width (place + width) next more
fields width place next (Offset part ∷ more) =
    (next + part.root - place) ∷ fields width (place + width) (next + length part.bytes) more

-- the blocks that they lead to
abbrev pub children : List Given → List ℕ
children [] = []
children (Absent ∷ more) = children more
children (Number n ∷ more) = children more
children (Offset part ∷ more) = part.bytes ++ children more

-- the vtable: its size, the table's size and an entry for each slot, in 2 bytes each
unfoldable pub vtable : List Given → List ℕ
vtable slots =
    padded (numbers 2 ((4 + 2 * length slots) ∷ (8 + 8 * length slots) ∷ entries 8 slots))

-- a table: the vtable, how far back that begins, a field of 8 bytes for each slot, and the blocks
unfoldable pub table_part : List Given → Part
table_part slots = let root = length (vtable slots) in record {
  bytes = vtable slots
      ++ (little 8 root
      ++ (numbers 8 (fields 8 (root + 8) (root + 8 + 8 * length slots) slots) ++ children slots));
  root = root;
}

-- a count and items, which begin at a multiple of 8
unfoldable pub items_part : ℕ → List ℕ → Part
items_part count items =
    record { bytes = padded (little 4 0 ++ (little 4 count ++ items)); root = 4 }

-- a text, closed by a zero
abbrev pub text_part : List ℕ → Part
text_part text = items_part (length text) (text ++ (0 ∷ []))

-- structs of this width
abbrev pub structs_part : ℕ → List ℕ → Part
structs_part width structs = items_part (length structs / width) structs

-- where the tables of a vector begin, after so many offsets
unfoldable pub tables_from : ℕ → ℕ
tables_from count = 8 + 4 * count + length (padding (8 + 4 * count))

-- a vector of tables: a count, an offset of 4 bytes for each table, and the tables
unfoldable pub tables_part : List Part → Part
tables_part tables = let count = length tables in record {
  bytes = numbers 4 (0 ∷ count ∷ fields 4 8 (tables_from count) (map Offset tables))
      ++ (padding (8 + 4 * count) ++ children (map Offset tables));
  root = 4;
}

-- a buffer: where its table begins, and the table
unfoldable pub buffer_of : Part → List ℕ
buffer_of part = little 8 (8 + part.root) ++ part.bytes
