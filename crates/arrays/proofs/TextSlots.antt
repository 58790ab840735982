-- What the texts of slots that stand are.
use Rattle.std.proofs.Common.{◌≡◌, All, if◌then◌else◌, ℕ, ◌+◌, ◌*◌, ◌==◌, ◌&&◌, ◌||◌, not, Bool, true, false, List, Option, length, nat_le, inl, inr, arith, IsUtf8}
use Rattle.std.specs.List.{list_all, range_with_len}
use Rattle.std.specs.Str.{is_utf8}
use Rattle.std.proofs.lemmas.Str.{IsUtf8-from_is_utf8}
use Rattle.std.proofs.lemmas.Bool.{eqb-true, leb-true, and_parts}
use Rattle.scan_base.specs.declared.value.Value.TheVariants.{Null, Text}
use Rattle.arrays.specs.Validity.{is_valid, IsLong}
use Rattle.scan_base.specs.Value.{IsTextOrNull}
use Rattle.arrays.specs.Texts.{TextsAt, texts_slot, texts_values, text_at, is_offset, text_stands, texts_stand, AreTexts}
use Rattle.arrays.proofs.EachSlot.{one_holds, slots_at, all_slots}

-- the text of a valid slot is UTF-8
pub text_is_utf8 : (cells : TextsAt) (place : ℕ) → text_stands cells place ≡ true → is_valid cells.validity place ≡ true → IsUtf8 (text_at cells place)
text_is_utf8 cells place stands valid =
    let behind = and_parts _ _ stands in
    let rest = and_parts _ _ behind.1 in
    IsUtf8-from_is_utf8 (text_at cells place) (by (is_valid cells.validity place) valid rest.1)
  where
    by : (valid : Bool) → valid ≡ true → (not valid || is_utf8 (text_at cells place)) ≡ true → is_utf8 (text_at cells place) ≡ true
    by true e h = h
    by false e h = absurd (let no : ⊥ = cc in no)

-- slots that were tested are texts
pub tested_are_texts : (cells : TextsAt) → IsLong cells.validity cells.len → texts_stand cells ≡ true → AreTexts cells
tested_are_texts cells long tested = elim (one_holds (cells.len == 0 && length cells.offsets == 0)
    (nat_le (4 * (cells.len + 1)) (length cells.offsets) && (is_offset cells 0 && list_all (text_stands cells) (range_with_len 0 cells.len))) tested) [
      | inl lacking ↦
          let none = and_parts (cells.len == 0) (length cells.offsets == 0) lacking in
          let empty = eqb-true cells.len 0 none.0 in
          record { validity = long; offsets = λ some. absurd (omega (arith, empty)); texts = λ place lt. absurd (omega (arith, empty)) }
      | inr stand ↦
          let room = and_parts (nat_le (4 * (cells.len + 1)) (length cells.offsets)) (is_offset cells 0 && list_all (text_stands cells) (range_with_len 0 cells.len)) stand in
          let all = and_parts (is_offset cells 0) (list_all (text_stands cells) (range_with_len 0 cells.len)) room.1 in
          record {
            validity = long;
            offsets = λ some. leb-true (4 * (cells.len + 1)) (length cells.offsets) room.0;
            texts = λ place lt. slots_at (text_stands cells) 0 cells.len place all.1 (omega arith) (omega arith);
          }
    ]

-- the same of buffers that were read through slices
pub read_are_texts : (validity : Option (List Bool)) (offsets bytes read_offsets read_bytes : List ℕ) (len : ℕ) → read_offsets ≡ offsets → read_bytes ≡ bytes → IsLong validity len →
    texts_stand (record { validity = validity; offsets = read_offsets; bytes = read_bytes; len = len }) ≡ true →
    AreTexts (record { validity = validity; offsets = offsets; bytes = bytes; len = len })
read_are_texts validity offsets bytes read_offsets read_bytes len same_offsets same_bytes long tested =
    rw (← same_offsets, ← same_bytes) (tested_are_texts (record { validity = validity; offsets = read_offsets; bytes = read_bytes; len = len }) long tested)

-- the value of a slot is a text or null
pub slot_is_text : (cells : TextsAt) (place : ℕ) → text_stands cells place ≡ true → IsTextOrNull (texts_slot cells place)
slot_is_text cells place stands =
    let behind = and_parts _ _ stands in
    let rest = and_parts _ _ behind.1 in
    by (is_valid cells.validity place) rest.1
  where
    by : (valid : Bool) → (not valid || is_utf8 (text_at cells place)) ≡ true → IsTextOrNull (if valid then Text (text_at cells place) else Null)
    by true e = e
    by false e = tt

pub values_are_texts : (cells : TextsAt) → AreTexts cells → All IsTextOrNull (texts_values cells)
values_are_texts cells are = all_slots IsTextOrNull (texts_slot cells) 0 cells.len (λ place first low. slot_is_text cells place (are.texts place (omega arith)))
