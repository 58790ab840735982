-- Each reading of `Place` finds what the format, in `Layout`'s words, says of the buffer.
use Rattle.std.specs.Prelude.{◌≡◌, ◌↔◌, ℕ, List, length, Result, Ok, Err}
use Rattle.scan_base.specs.declared.fault.Fault.{Fault}
use Rattle.scan_base.specs.declared.fault.Fault.TheVariants.{BadFlatbuffer}
use Rattle.flatbuf.specs.Layout.{Stands, IsBytes, HasNumber, HasOffset, TableAt, VectorAt, HasRoot}
use Rattle.flatbuf.specs.Layout.{HasVtable, HasField, HasScalar, AreItems, HasTable, HasVector}
use Rattle.flatbuf.specs.Layout.{HasStructs, HasText, HasElement}
use Rattle.flatbuf.specs.Place.{number_at, bytes_at, target_of, root_of, vtable_of, field_of}
use Rattle.flatbuf.specs.Place.{scalar_of, table_of, vector_of, element_of, items_at, structs_of}
use Rattle.flatbuf.specs.Place.{text_of}

-- what is read is the value of which this holds, and BadFlatbuffer where it holds of none
pub record Finds {A : Type 0} (read : Result A Fault) (holds : A → Type 0) : Type 0 where
  pub value : (x : A) → (read ≡ Ok x) ↔ holds x
  pub refusal : (fault : Fault) →
      (read ≡ Err fault) ↔ ((fault ≡ BadFlatbuffer) × ((x : A) → ¬ (holds x)))

-- the number at a place
abbrev pub FindsNumber : Type 0
FindsNumber = (width : ℕ) (bytes : List ℕ) (at : ℕ) →
    Finds (number_at width bytes at) (HasNumber width bytes at)

-- so many bytes from a place on
abbrev pub FindsBytes : Type 0
FindsBytes = (bytes : List ℕ) (at count : ℕ) →
    Finds (bytes_at bytes at count) (λ part. Stands part bytes at × (length part ≡ count))

-- where an offset leads
abbrev pub FindsTarget : Type 0
FindsTarget = (bytes : List ℕ) (at : ℕ) → Finds (target_of bytes at) (HasOffset bytes at)

-- the root table
abbrev pub FindsRoot : Type 0
FindsRoot = (bytes : List ℕ) → Finds (root_of bytes) (HasRoot bytes)

-- the vtable of a table
abbrev pub FindsVtable : Type 0
FindsVtable = (table : TableAt) → IsBytes table.bytes → Finds (vtable_of table) (HasVtable table)

-- the field of a slot
abbrev pub FindsField : Type 0
FindsField = (table : TableAt) (slot : ℕ) → IsBytes table.bytes →
    Finds (field_of table slot) (HasField table slot)

-- the number of a slot
abbrev pub FindsScalar : Type 0
FindsScalar = (width : ℕ) (table : TableAt) (slot default : ℕ) → IsBytes table.bytes →
    Finds (scalar_of width table slot default) (HasScalar width table slot default)

-- the table of a slot
abbrev pub FindsTable : Type 0
FindsTable = (table : TableAt) (slot : ℕ) → IsBytes table.bytes →
    Finds (table_of table slot) (HasTable table slot)

-- the vector of tables of a slot
abbrev pub FindsVector : Type 0
FindsVector = (table : TableAt) (slot : ℕ) → IsBytes table.bytes →
    Finds (vector_of table slot) (HasVector table slot)

-- the table of an index of a vector
abbrev pub FindsElement : Type 0
FindsElement =
    (vector : VectorAt) (index : ℕ) → Finds (element_of vector index) (HasElement vector index)

-- the items after a count
abbrev pub FindsItems : Type 0
FindsItems = (width : ℕ) (bytes : List ℕ) (at : ℕ) →
    Finds (items_at width bytes at) (AreItems width bytes at)

-- the structs of a slot
abbrev pub FindsStructs : Type 0
FindsStructs = (width : ℕ) (table : TableAt) (slot : ℕ) → IsBytes table.bytes →
    Finds (structs_of width table slot) (HasStructs width table slot)

-- the text of a slot
abbrev pub FindsText : Type 0
FindsText = (table : TableAt) (slot : ℕ) → IsBytes table.bytes →
    Finds (text_of table slot) (HasText table slot)
