-- Texts of slots that are too many bytes.
use Rattle.std.proofs.Common.{◌≡◌, ◌<◌, ℕ, zero, suc, ◌+◌, List, [], ◌∷◌, Some, length, map, take, slice_get, arith, length-append}
use Rattle.array_select.specs.declared.of_slots.SlotRef.{SlotRef}
use Rattle.array_select.specs.OfSlots.{slot_value}
use Rattle.arrays.specs.WrittenSlots.{text_bytes, texts_joined}

-- where the texts of the first slots leave less than the next one has, all have too many bytes
pub past : (slots : List SlotRef) (i left : ℕ) (slot : SlotRef) → slice_get slots i ≡ Some slot →
    left < length (text_bytes (slot_value slot)) →
    length (texts_joined (map slot_value (take i slots))) + left < length (texts_joined (map slot_value slots))
past [] i left slot there less = cc
past (first ∷ rest) zero left slot there less =
    let same : first ≡ slot = cc in
    let long = length-append (text_bytes (slot_value first)) (texts_joined (map slot_value rest)) in
    let here : left < length (text_bytes (slot_value first)) = rw same less in
    omega (arith, long, here)
past (first ∷ rest) (suc i) left slot there less =
    let long = length-append (text_bytes (slot_value first)) (texts_joined (map slot_value rest)) in
    let before = length-append (text_bytes (slot_value first)) (texts_joined (map slot_value (take i rest))) in
    omega (arith, long, before, past rest i left slot there less)
