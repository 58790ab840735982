-- Tags of numbers and indices.
use Rattle.std.proofs.Common.{◌≡◌, ℕ, ℤ, Bool, true, false, FitsSigned, refl, ap, ◌∙◌}
use Rattle.std.specs.Prelude.{unwrap_or}
use Rattle.std.specs.Int.{w64}
use Rattle.std.proofs.lemmas.Int.{to_z-of_z}
use Rattle.scan_base.specs.declared.value.Value.TheVariants.{Int, Null}
use Rattle.arrays.specs.Dictionary.{entry_at}
use Rattle.group_slots.specs.declared.tags.Tag.{Tag}
use Rattle.group_slots.specs.declared.slots.Entries.{Entries}
use Rattle.group_slots.specs.declared.slots.IntegerSlots.{IntegerSlots}
use Rattle.group_slots.specs.TaggedValues.{entry_tagged, value_tagged}
use Rattle.group_slots.specs.Slots.{entry_cell, number_or_null, number_tag, slot_cell, slot_is_valid, slot_number}

number_back : (valid : Bool) (number : ℤ) → FitsSigned w64 number →
    value_tagged (number_tag valid number).kind (number_tag valid number).key ≡ number_or_null valid number
number_back true number fits = ap Int (to_z-of_z w64 number fits)
number_back false number fits = refl

-- the tag of a row's number is of its cell
pub number_tagged : (slots : IntegerSlots) (row : ℕ) (valid : Bool) (number : ℤ) (tag : Tag) → FitsSigned w64 number →
    tag ≡ number_tag valid number → valid ≡ slot_is_valid slots row → number ≡ slot_number slots row →
    value_tagged tag.kind tag.key ≡ slot_cell slots row
number_tagged slots row valid number tag fits is is_valid is_number =
    ap (λ (tag : Tag). value_tagged tag.kind tag.key) is ∙ number_back valid number fits
    ∙ ap (λ (b : Bool). number_or_null b number) is_valid ∙ ap (number_or_null (slot_is_valid slots row)) is_number

-- the tag of a row's index is of its entry
pub entry_back : (entries : Entries) (row : ℕ) (valid : Bool) (number : ℤ) (tag : Tag) → FitsSigned w64 number →
    tag ≡ number_tag valid number → valid ≡ slot_is_valid entries.slots row → number ≡ slot_number entries.slots row →
    entry_tagged entries.dictionary.now tag.kind tag.key ≡ entry_cell entries row
entry_back entries row valid number tag fits is is_valid is_number =
    ap (λ (tag : Tag). entry_tagged entries.dictionary.now tag.kind tag.key) is ∙ by valid number fits is_valid is_number
  where
    by : (valid : Bool) (number : ℤ) → FitsSigned w64 number → valid ≡ slot_is_valid entries.slots row → number ≡ slot_number entries.slots row →
        entry_tagged entries.dictionary.now (number_tag valid number).kind (number_tag valid number).key ≡ entry_cell entries row
    by true number fits is_valid is_number =
        rw (← is_valid) (ap (λ (z : ℤ). unwrap_or (entry_at entries.dictionary.now z) Null) (to_z-of_z w64 number fits ∙ is_number))
    by false number fits is_valid is_number = rw (← is_valid) refl
