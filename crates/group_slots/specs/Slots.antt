-- Packed numbers of a column.
use Rattle.std.specs.Prelude.{◌≡◌, ◌≤◌, ◌<◌, ℕ, ◌+◌, ◌*◌, ◌^◌, ℤ, Bool, if◌then◌else◌, List, length}
use Rattle.std.specs.Prelude.{Option, Some, None, unwrap_or}
use Rattle.std.specs.Int.{w64, cast_unsigned}
use Rattle.arrays.specs.Dictionary.{entry_at}
use Rattle.group_slots.specs.declared.tags.Tag.{Tag}
use Rattle.scan_base.specs.declared.value.Value.{Value}
use Rattle.scan_base.specs.declared.value.Value.TheVariants.{Null, Int}
use Rattle.scan_base.specs.Predicate.{cell_in}
use Rattle.arrays.specs.Batch.{BatchAt, row_of}
use Rattle.arrays.specs.Number.{byte_width, integer_at}
use Rattle.arrays.specs.Validity.{is_valid}
use Rattle.group_slots.specs.declared.slots.Entries.{Entries}
use Rattle.group_slots.specs.declared.slots.IntegerSlots.{IntegerSlots}

-- how many slots the validity bits are of: where there are none, any number
abbrev pub validity_count : Option (List Bool) → ℕ → ℕ
validity_count None count = count
validity_count (Some bits) count = length bits

-- the value of a slot that has a number, where it is valid
abbrev pub number_or_null : Bool → ℤ → Value
number_or_null valid number = if valid then Int number else Null

-- whether the number of a row is valid
abbrev pub slot_is_valid : IntegerSlots → ℕ → Bool
slot_is_valid slots row = is_valid slots.validity.now (slots.first + row)

-- the number of a row, which is what its bytes say where it is null
abbrev pub slot_number : IntegerSlots → ℕ → ℤ
slot_number slots row = integer_at slots.kind slots.values.now (slots.first + row)

-- the value of a row
abbrev pub slot_cell : IntegerSlots → ℕ → Value
slot_cell slots row = number_or_null (slot_is_valid slots row) (slot_number slots row)

-- what the index of a row leads to in a dictionary
abbrev pub entry_cell : Entries → ℕ → Value
entry_cell entries row =
    if slot_is_valid entries.slots row
    then unwrap_or (entry_at entries.dictionary.now (slot_number entries.slots row)) Null else Null

-- the tag of a number, where it is valid
abbrev pub number_tag : Bool → ℤ → Tag
number_tag valid number = if valid then record { key = cast_unsigned w64 number; kind = 2 }
    else record { key = 0; kind = 1 }

-- the packed numbers have room for so many rows, and their validity bits too
pub record HaveRoom (slots : IntegerSlots) (rows : ℕ) : Type 0 where
  pub values : byte_width slots.kind * (slots.first + rows) ≤ length slots.values.now
  pub small : slots.first + rows < 2 ^ 64
  pub valid : slots.first + rows ≤ validity_count slots.validity.now (slots.first + rows)

-- the packed numbers are those of a column of the batch
pub record AreSlots (slots : IntegerSlots) (column : ℕ) (batch : BatchAt) : Type 0 where
  pub room : HaveRoom slots batch.rows
  pub cells : (row : ℕ) → cell_in (row_of batch.columns row) column ≡ slot_cell slots row
