-- What is read at which place of a buffer, in `Layout`'s terms. Every place is counted from the
-- buffer's first byte, and whatever is read outside the buffer is BadFlatbuffer. `Readings` says
-- that each of these finds just what `Layout` says.
use Rattle.std.specs.Prelude.{ℕ, ◌+◌, ◌-◌, ◌*◌, ◌^◌, ◌==◌, List, length, take, drop, Option, Some}
use Rattle.std.specs.Prelude.{None, Result, Ok, Err, nat_lt, nat_le, if◌then◌else◌}
use Rattle.scan_base.specs.declared.fault.Fault.{Fault}
use Rattle.scan_base.specs.declared.fault.Fault.TheVariants.{BadFlatbuffer}
use Rattle.scan_base.specs.Reading.{◌>>=◌, demand, text_in}
use Rattle.byteorder.specs.Endian.{little_from}
pub use Rattle.flatbuf.specs.Layout.{TableAt, VectorAt}

-- the number of this many bytes at a place, the lowest byte first
abbrev pub number_at : ℕ → List ℕ → ℕ → Result ℕ Fault
number_at width bytes at =
    if nat_le (at + width) (length bytes) then Ok (little_from at width bytes)
    else Err BadFlatbuffer

-- so many bytes from a place on
abbrev pub bytes_at : List ℕ → ℕ → ℕ → Result (List ℕ) Fault
bytes_at bytes at count =
    if nat_le (at + count) (length bytes) then Ok (take count (drop at bytes))
    else Err BadFlatbuffer

-- where an offset leads: it is counted from its own place
abbrev pub target_of : List ℕ → ℕ → Result ℕ Fault
target_of bytes at = number_at 4 bytes at >>= λ offset. Ok (at + offset)

-- the table that the buffer's first four bytes lead to
abbrev pub root_of : List ℕ → Result TableAt Fault
root_of bytes = target_of bytes 0 >>= λ at. Ok (record { bytes = bytes; at = at })

-- A table begins with how far before it its vtable lies, a signed number of four bytes. A vtable
-- before the first byte is outside.
unfoldable pub vtable_of : TableAt → Result ℕ Fault
vtable_of table = number_at 4 table.bytes table.at >>= λ back.
    (if nat_lt back (2 ^ 31)
    then (demand (nat_le back table.at) BadFlatbuffer >>= λ _. Ok (table.at - back))
    else Ok (table.at + (2 ^ 32 - back)))

-- The place of a slot's field: none where the slot is absent, by the vtable's size or by an entry
-- of 0.
unfoldable pub field_of : TableAt → ℕ → Result (Option ℕ) Fault
field_of table slot = do
  vtable ← vtable_of table
  size ← number_at 2 table.bytes vtable
  (if nat_lt size (2 * slot + 6) then Ok None
      else (number_at 2 table.bytes (vtable + (2 * slot + 4)) >>= λ entry.
      Ok (if entry == 0 then None else Some (table.at + entry))))

-- the number at a field, and the default where the field is absent
abbrev pub scalar_at : ℕ → List ℕ → ℕ → Option ℕ → Result ℕ Fault
scalar_at width bytes default None = Ok default
scalar_at width bytes default (Some at) = number_at width bytes at

-- the number of a slot
unfoldable pub scalar_of : ℕ → TableAt → ℕ → ℕ → Result ℕ Fault
scalar_of width table slot default =
    field_of table slot >>= λ place. scalar_at width table.bytes default place

-- what is read where the offset at a field leads, and nothing where the field is absent
abbrev pub led_from : {A : Type 0} → List ℕ → (ℕ → Result A Fault) → Option ℕ →
    Result (Option A) Fault
led_from bytes read None = Ok None
led_from bytes read (Some at) =
    target_of bytes at >>= λ target. (read target >>= λ found. Ok (Some found))

-- what a slot leads to, where it is there
abbrev pub through : {A : Type 0} → TableAt → ℕ → (ℕ → Result A Fault) → Result (Option A) Fault
through table slot read = field_of table slot >>= λ place. led_from table.bytes read place

-- the table that a slot leads to
unfoldable pub table_of : TableAt → ℕ → Result (Option TableAt) Fault
table_of table slot =
    through table slot (λ target. Ok (record { bytes = table.bytes; at = target }))

-- the vector of tables that a slot leads to
unfoldable pub vector_of : TableAt → ℕ → Result (Option VectorAt) Fault
vector_of table slot = through table slot (λ target. (number_at 4 table.bytes target >>= λ count.
    Ok (record { bytes = table.bytes; first = target + 4; count = count })))

-- the table of an index
unfoldable pub element_of : VectorAt → ℕ → Result TableAt Fault
element_of vector index = target_of vector.bytes (vector.first + 4 * index) >>= λ at.
    Ok (record { bytes = vector.bytes; at = at })

-- a count, and so many items of this width
unfoldable pub items_at : ℕ → List ℕ → ℕ → Result (List ℕ) Fault
items_at width bytes at = number_at 4 bytes at >>= λ count. bytes_at bytes (at + 4) (count * width)

-- the structs of a slot, each of this width, one after the other
unfoldable pub structs_of : ℕ → TableAt → ℕ → Result (Option (List ℕ)) Fault
structs_of width table slot = through table slot (items_at width table.bytes)

-- the text of a slot
unfoldable pub text_of : TableAt → ℕ → Result (Option (List ℕ)) Fault
text_of table slot = through table slot (λ target. (items_at 1 table.bytes target >>= λ text.
    text_in text BadFlatbuffer))
