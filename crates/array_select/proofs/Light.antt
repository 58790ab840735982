-- Texts that are light.
use Rattle.std.proofs.Common.{◌≡◌, ◌≤◌, ◌<◌, ℕ, zero, suc, Bool as Truth, true, false, if◌then◌else◌, Option, List, [], ◌∷◌, All, length, map, take, get_or, ap, refl, sym, arith, length-append, length-take, subst}
use Rattle.std.proofs.lemmas.List.{length-map, take-map, take_all}
use Rattle.std.proofs.lemmas.List.Elements.{All-head, All-tail}
use Rattle.arrow_types.specs.declared.data_type.DataType.{DataType}
use Rattle.arrow_types.specs.declared.data_type.DataType.TheVariants as type
use Rattle.scan_base.specs.declared.value.Value.{Value}
use Rattle.scan_base.specs.declared.value.Value.TheVariants.{Null, Bool}
use Rattle.arrays.specs.declared.layout.Layout.{Layout}
use Rattle.arrays.specs.declared.layout.Layout.TheVariants as layout
use Rattle.array_select.specs.declared.of_slots.SlotRef.{SlotRef}
use Rattle.array_select.specs.OfSlots.{slot_value}
use Rattle.arrays.specs.Layout.{layout_slot}
use Rattle.arrow_types.specs.DataType.{cell_of}
use Rattle.arrays.specs.TypedLayouts.{IsOfType}
use Rattle.arrays.proofs.OfType.{number_slot}
use Rattle.arrays.specs.Validity.{is_valid, where_valid}
use Rattle.arrays.specs.WrittenSlots.{text_bytes, texts_joined}
use Rattle.array_select.specs.Fitting.{AreLight, Fits, has_texts}
use Rattle.array_select.specs.Room.{most_batch_texts}

-- the first texts have no more bytes than all
fewer_bytes : (n : ℕ) (values : List Value) → length (texts_joined (take n values)) ≤ length (texts_joined values)
fewer_bytes zero values = omega arith
fewer_bytes (suc n) [] = omega arith
fewer_bytes (suc n) (value ∷ values) =
    let some = length-append (text_bytes value) (texts_joined (take n values)) in
    let all = length-append (text_bytes value) (texts_joined values) in
    omega (arith, some, all, fewer_bytes n values)

-- fewer light texts are light
pub lighter : (most n : ℕ) (values : List Value) → AreLight most values → AreLight most (take n values)
lighter most n values light = record {
  named = let less = fewer_bytes n values in omega (arith, less, light.named);
  light = λ many.
      let less = fewer_bytes n values in
      let size = length-take n values in
      let all = light.light (omega (arith, many, size)) in
      omega (arith, less, all);
}

-- texts of so few bytes are light
pub few_light : (most : ℕ) (values : List Value) → most ≤ most_batch_texts → length (texts_joined values) ≤ most → AreLight most values
few_light most values low few = record { named = omega (arith, low, few); light = λ many. few }

-- so many slots have room where their texts are light
pub slots_fit : (most : ℕ) (slots : List SlotRef) (count : ℕ) → most ≤ most_batch_texts → 0 < count → count ≤ length slots →
    length (texts_joined (map slot_value (take count slots))) ≤ most → Fits most (map slot_value slots) count
slots_fit most slots count low some within few = record {
  some = some;
  within = omega (arith, within, length-map slots slot_value);
  light = subst (AreLight most) (sym (take-map slot_value count slots)) (few_light most (map slot_value (take count slots)) low few);
}

-- ---- values that are no texts

no_text_where : (validity : Option (List Truth)) (value : ℕ → Value) (place : ℕ) → text_bytes (value place) ≡ [] → text_bytes (where_valid validity value place) ≡ []
no_text_where validity value place e = by (is_valid validity place)
  where
    by : (valid : Truth) → text_bytes (if valid then value place else Null) ≡ []
    by true = e
    by false = refl

-- a slot of a type that has none is no text
pub no_text : (data_type : DataType) (known : Layout) (place : ℕ) → has_texts data_type ≡ false → IsOfType data_type known → text_bytes (layout_slot known place) ≡ []
no_text (type.Number kind) known place plain of = number_slot (λ (value : Value). text_bytes value ≡ []) (cell_of kind) known place of refl (λ number. refl)
no_text type.Bool (layout.Bools cells) place plain of = no_text_where cells.validity (λ at. Bool (get_or cells.values at false)) place refl
no_text type.Utf8 known place plain of = cc
no_text (type.Dictionary encoding) known place plain of = cc
no_text data_type known place plain of = absurd of

no_bytes : (values : List Value) → All (λ (value : Value). text_bytes value ≡ []) values → length (texts_joined values) ≡ 0
no_bytes [] all = refl
no_bytes (value ∷ values) all =
    let here = ap length (All-head (λ (value : Value). text_bytes value ≡ []) value values all) in
    let rest = no_bytes values (All-tail (λ (value : Value). text_bytes value ≡ []) value values all) in
    let both = length-append (text_bytes value) (texts_joined values) in
    omega (arith, here, rest, both)

-- values that are no texts are light
pub plain_light : (most : ℕ) (values : List Value) → All (λ (value : Value). text_bytes value ≡ []) values → AreLight most values
plain_light most values all = let none = no_bytes values all in record { named = omega (arith, none); light = λ many. omega (arith, none) }

-- all of them fit
pub plain_fit : (most : ℕ) (values : List Value) → 0 < length values → All (λ (value : Value). text_bytes value ≡ []) values → Fits most values (length values)
plain_fit most values some all = record {
  some = some;
  within = omega arith;
  light = subst (AreLight most) (sym (take_all (length values) values (omega arith))) (plain_light most values all);
}
