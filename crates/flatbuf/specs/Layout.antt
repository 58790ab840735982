-- The FlatBuffers binary format: what lies where in a buffer, counted from its first byte.
use Rattle.std.specs.Prelude.{◌≡◌, ◌≢◌, ◌≤◌, ◌<◌, ◌⊎◌, ℕ, ◌+◌, ◌*◌, pos, ◌-ℤ◌, ◌++◌, List, length}
use Rattle.std.specs.Prelude.{Option, Some, None}
use Rattle.std.specs.Int.{w32, cast_signed}
use Rattle.std.specs.List.{All}
use Rattle.std.specs.Str.{IsUtf8}
use Rattle.byteorder.specs.Endian.{little_number}

-- this part of the buffer lies at this place
pub record Stands (part bytes : List ℕ) (at : ℕ) : Type 0 where
  pub before : List ℕ
  pub after : List ℕ
  pub whole : bytes ≡ before ++ (part ++ after)
  pub place : length before ≡ at

-- each is a byte
abbrev pub IsBytes : List ℕ → Type 0
IsBytes bytes = All (λ byte. byte < 256) bytes

-- a number of this many bytes lies at this place, its lowest byte first
pub record HasNumber (width : ℕ) (bytes : List ℕ) (at n : ℕ) : Type 0 where
  pub part : List ℕ
  pub stands : Stands part bytes at
  pub wide : length part ≡ width
  pub value : n ≡ little_number width part

-- the offset at this place leads there: it has four bytes, and is counted from its own place
pub record HasOffset (bytes : List ℕ) (at target : ℕ) : Type 0 where
  pub offset : ℕ
  pub stored : HasNumber 4 bytes at offset
  pub place : target ≡ at + offset

-- a table of a buffer, by where it begins
pub record TableAt : Type 0 where
  pub bytes : List ℕ
  pub at : ℕ

-- a vector of tables, by where its first offset lies
pub record VectorAt : Type 0 where
  pub bytes : List ℕ
  pub first : ℕ
  pub count : ℕ

-- a buffer begins with the offset of its root table
pub record HasRoot (bytes : List ℕ) (table : TableAt) : Type 0 where
  pub same : table.bytes ≡ bytes
  pub offset : HasOffset bytes 0 table.at

-- a table begins with a signed number of four bytes: its vtable lies that far before the table
pub record HasVtable (table : TableAt) (vtable : ℕ) : Type 0 where
  pub back : ℕ
  pub stored : HasNumber 4 table.bytes table.at back
  pub place : pos vtable ≡ pos table.at -ℤ cast_signed w32 back

-- A vtable begins with its own size and its table's size. An entry of two bytes for each slot
-- follows. A slot whose entry does not lie within the vtable's size counts as an entry of 0.
pub record HasEntry (bytes : List ℕ) (vtable slot entry : ℕ) : Type 0 where
  pub size : ℕ
  pub sized : HasNumber 2 bytes vtable size
  pub stored : ((4 + 2 * slot + 2 ≤ size) × HasNumber 2 bytes (vtable + (4 + 2 * slot)) entry)
      ⊎ ((size < 4 + 2 * slot + 2) × (entry ≡ 0))

-- an entry of 0 is an absent field, and any other is counted from the table's place
abbrev pub LeadsFrom : TableAt → ℕ → Option ℕ → Type 0
LeadsFrom table entry None = entry ≡ 0
LeadsFrom table entry (Some place) = (entry ≢ 0) × (place ≡ table.at + entry)

-- the field of a slot lies at this place, or is absent
pub record HasField (table : TableAt) (slot : ℕ) (place : Option ℕ) : Type 0 where
  pub vtable : ℕ
  pub entry : ℕ
  pub tabled : HasVtable table vtable
  pub stored : HasEntry table.bytes vtable slot entry
  pub leads : LeadsFrom table entry place

-- the number at a field, and the default where the field is absent
abbrev pub IsScalar : ℕ → List ℕ → ℕ → Option ℕ → ℕ → Type 0
IsScalar width bytes default None n = n ≡ default
IsScalar width bytes default (Some place) n = HasNumber width bytes place n

-- the number of a slot
pub record HasScalar (width : ℕ) (table : TableAt) (slot default n : ℕ) : Type 0 where
  pub place : Option ℕ
  pub field : HasField table slot place
  pub scalar : IsScalar width table.bytes default place n

-- the offset at a place leads to something of which this holds
pub record LeadsTo {A : Type 0} (holds : ℕ → A → Type 0) (bytes : List ℕ) (at : ℕ)
    (found : A) : Type 0 where
  pub target : ℕ
  pub offset : HasOffset bytes at target
  pub there : holds target found

-- an absent field has nothing, and one that is there has an offset, which leads to it
abbrev pub IsReached : {A : Type 0} → (ℕ → A → Type 0) → List ℕ → Option ℕ → Option A → Type 0
IsReached holds bytes None None = Unit {0}
IsReached holds bytes None (Some found) = ⊥
IsReached holds bytes (Some place) None = ⊥
IsReached holds bytes (Some place) (Some found) = LeadsTo holds bytes place found

-- a slot is absent and has nothing, or leads to something of which this holds
pub record Reaches {A : Type 0} (holds : ℕ → A → Type 0) (table : TableAt) (slot : ℕ)
    (found : Option A) : Type 0 where
  pub place : Option ℕ
  pub field : HasField table slot place
  pub reached : IsReached holds table.bytes place found

-- the table of this buffer at this place
pub record IsTable (bytes : List ℕ) (at : ℕ) (table : TableAt) : Type 0 where
  pub same : table.bytes ≡ bytes
  pub place : table.at ≡ at

-- a vector begins with a count of four bytes, and its offsets follow
pub record IsVector (bytes : List ℕ) (at : ℕ) (vector : VectorAt) : Type 0 where
  pub same : vector.bytes ≡ bytes
  pub counted : HasNumber 4 bytes at vector.count
  pub first : vector.first ≡ at + 4

-- the items after a count of four bytes, each of this width, one after the other
pub record AreItems (width : ℕ) (bytes : List ℕ) (at : ℕ) (items : List ℕ) : Type 0 where
  pub count : ℕ
  pub counted : HasNumber 4 bytes at count
  pub stand : Stands items bytes (at + 4)
  pub wide : length items ≡ count * width

-- a text: its bytes after their count, which are UTF-8
pub record IsText (bytes : List ℕ) (at : ℕ) (text : List ℕ) : Type 0 where
  pub items : AreItems 1 bytes at text
  pub utf8 : IsUtf8 text

-- the table that a slot leads to, or none
abbrev pub HasTable : TableAt → ℕ → Option TableAt → Type 0
HasTable table slot found = Reaches (IsTable table.bytes) table slot found

-- the vector of tables that a slot leads to, or none
abbrev pub HasVector : TableAt → ℕ → Option VectorAt → Type 0
HasVector table slot found = Reaches (IsVector table.bytes) table slot found

-- the structs, each of this width, that a slot leads to, or none
abbrev pub HasStructs : ℕ → TableAt → ℕ → Option (List ℕ) → Type 0
HasStructs width table slot found = Reaches (AreItems width table.bytes) table slot found

-- the text that a slot leads to, or none
abbrev pub HasText : TableAt → ℕ → Option (List ℕ) → Type 0
HasText table slot found = Reaches (IsText table.bytes) table slot found

-- the tables of a vector are reached by offsets of four bytes, one after the other
pub record HasElement (vector : VectorAt) (index : ℕ) (table : TableAt) : Type 0 where
  pub same : table.bytes ≡ vector.bytes
  pub offset : HasOffset vector.bytes (vector.first + 4 * index) table.at
