-- Slots of texts: the offsets that cut them, four bytes each, and the bytes that are cut.
use Rattle.std.specs.Prelude.{◌≡◌, ◌≤◌, ◌<◌, ℕ, ◌+◌, ◌*◌, ◌^◌, ◌==◌, ◌&&◌, ◌||◌, not, Bool, true}
use Rattle.std.specs.Prelude.{List, length, Option, slice_range, nat_le, nat_lt, Result, Ok, map}
use Rattle.std.specs.List.{list_all, range_with_len}
use Rattle.std.specs.Str.{is_utf8}
use Rattle.scan_base.specs.declared.fault.Fault.{Fault}
use Rattle.scan_base.specs.declared.fault.Fault.TheVariants.{BadBatch}
use Rattle.scan_base.specs.declared.value.Value.{Value}
use Rattle.scan_base.specs.declared.value.Value.TheVariants.{Text}
use Rattle.scan_base.specs.Reading.{◌>>=◌, demand}
use Rattle.arrays.specs.Number.{element_at}
use Rattle.arrays.specs.Validity.{is_valid, where_valid, validity_of, IsLong}

-- the packed offsets, the bytes that they cut, and which slots are valid
pub record TextsAt : Type 0 where
  pub validity : Option (List Bool)
  pub offsets : List ℕ
  pub bytes : List ℕ
  pub len : ℕ

-- offset `place`, as a number without a sign
abbrev pub offset_at : TextsAt → ℕ → ℕ
offset_at cells place = element_at 4 cells.offsets place

-- the bytes from offset `place` up to, not with, the one after it
abbrev pub text_at : TextsAt → ℕ → List ℕ
text_at cells place = slice_range cells.bytes (offset_at cells place) (offset_at cells (place + 1))

-- the value of the slot at a place
abbrev pub texts_slot : TextsAt → ℕ → Value
texts_slot cells place = where_valid cells.validity (λ at. Text (text_at cells at)) place

-- an offset lies within the data and is not negative: such a one reads as 2 ^ 31 or more
abbrev pub is_offset : TextsAt → ℕ → Bool
is_offset cells place =
    nat_le (offset_at cells place) (length cells.bytes) && nat_lt (offset_at cells place) (2 ^ 31)

-- the offset after a slot is one, and not below the slot's own; a valid slot's bytes are UTF-8
abbrev pub text_stands : TextsAt → ℕ → Bool
text_stands cells place =
    is_offset cells (place + 1) && (nat_le (offset_at cells place) (offset_at cells (place + 1))
    && (not (is_valid cells.validity place) || is_utf8 (text_at cells place)))

-- There is one offset more than there are slots, and each slot's text stands; no slots may have no
-- offset either.
abbrev pub texts_stand : TextsAt → Bool
texts_stand cells = (cells.len == 0 && length cells.offsets == 0)
    || (nat_le (4 * (cells.len + 1)) (length cells.offsets)
    && (is_offset cells 0 && list_all (text_stands cells) (range_with_len 0 cells.len)))

-- the slots of these buffers, whose texts stand
unfoldable pub texts_of : Option (List ℕ) → List ℕ → List ℕ → ℕ → Result TextsAt Fault
texts_of validity offsets bytes len = do
  bits ← validity_of validity len
  let cells : TextsAt = record { validity = bits; offsets = offsets; bytes = bytes; len = len }
  _ ← demand (texts_stand cells) BadBatch
  Ok cells

-- the buffers have room for the slots, and each slot's text stands
pub record AreTexts (cells : TextsAt) : Type 0 where
  pub validity : IsLong cells.validity cells.len
  pub offsets : 0 < cells.len → 4 * (cells.len + 1) ≤ length cells.offsets
  pub texts : (place : ℕ) → place < cells.len → text_stands cells place ≡ true

-- the values of all slots, in order
abbrev pub texts_values : TextsAt → List Value
texts_values cells = map (texts_slot cells) (range_with_len 0 cells.len)
