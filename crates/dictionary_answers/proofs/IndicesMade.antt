-- Slots of indices that are built of places among texts.
use Rattle.std.proofs.Common.{◌≡◌, ◌≤◌, ◌<◌, ◌^◌, ℕ, zero, suc, ℤ, pos, ◌+◌, Bool, true, false, List, [], ◌∷◌, length, map, Option, Some, None, is_some, unwrap_or, get_or, refl, sym, ap, ◌∙◌, arith, All}
use Rattle.std.specs.Prelude.{slice_get}
use Rattle.std.specs.List.{range_with_len}
use Rattle.std.proofs.lemmas.Bool.{lt-ltb}
use Rattle.std.proofs.lemmas.List.{length-map, get_or-map}
use Rattle.std.proofs.lemmas.Option.{slice_get_within, slice_get-get_or, get_or_from_slice_get}
use Rattle.scan_base.specs.declared.value.Value.{Value}
use Rattle.scan_base.specs.declared.value.Value.TheVariants.{Null, Text}
use Rattle.scan_base.specs.Value.{IsTextOrNull}
use Rattle.arrow_types.specs.declared.data_type.IntegerType.TheVariants.{Int32}
use Rattle.arrays.specs.Number.{number_from}
use Rattle.arrays.specs.Validity.{is_valid}
use Rattle.arrays.specs.Dictionary.{entry_at}
use Rattle.arrays.specs.Indices.{IndicesAt, AreIndices, entry_of, index_stands}
use Rattle.arrays.specs.Layout.{layout_slot}
use Rattle.arrays.specs.declared.layout.Layout.TheVariants as layout
use Rattle.dictionary_answers.specs.Firsts.{Leads, AreLed}
use Rattle.dictionary_answers.specs.inside.PackedPlaces.{ArePacked, AreValidWhereSome}

-- a small number of 32 bits has no sign
pub plain : (n : ℕ) → n < 2 ^ 31 → number_from Int32 n ≡ pos n
plain n low = rw (lt-ltb n (2 ^ 31) low) refl

-- each place leads to its value
pub led_at : (texts : List (List ℕ)) (places : List (Option ℕ)) (values : List Value) → AreLed texts places values → (k : ℕ) → k < length places →
    Leads texts (get_or places k None) (get_or values k Null)
led_at texts [] [] led k low = absurd (omega arith)
led_at texts (place ∷ places) (value ∷ values) led zero low = led.0
led_at texts (place ∷ places) (value ∷ values) led (suc k) low = led_at texts places values led.1 k (omega arith)
led_at texts [] (value ∷ values) led k low = absurd led
led_at texts (place ∷ places) [] led k low = absurd led

-- and where each does, all do
pub led_all : (texts : List (List ℕ)) (places : List (Option ℕ)) (f : ℕ → Value) (a : ℕ) → ((k : ℕ) → k < length places → Leads texts (get_or places k None) (f (a + k))) →
    AreLed texts places (map f (range_with_len a (length places)))
led_all texts [] f a each = tt
led_all texts (place ∷ places) f a each =
    let z : a + 0 ≡ a = omega arith in (
      rw z at (each 0 (omega arith)),
      led_all texts places f (a + 1) (λ k low. let e : (a + 1) + k ≡ a + suc k = omega arith in rw e (each (suc k) (omega arith))),
    )

-- the slot of an index that is a place has the value to which the place leads
abbrev pub cells_of : (validity : Option (List Bool)) (packed : List ℕ) (dictionary : List Value) (len : ℕ) → IndicesAt
cells_of validity packed dictionary len = record { index = Int32; validity = validity; values = packed; dictionary = dictionary; len = len }

-- what the dictionary of texts has at a place
entry_there : (texts : List (List ℕ)) (place : ℕ) (text : List ℕ) → slice_get texts place ≡ Some text → slice_get (map Text texts) place ≡ Some (Text text)
entry_there texts place text there =
    let low = slice_get_within texts place text there in
    slice_get-get_or (map Text texts) place Null (omega (arith, length-map texts Text, low))
    ∙ ap Some (get_or-map Text texts place [] Null low ∙ ap Text (get_or_from_slice_get texts place text [] there))

-- the entry of a slot that has a place
entry_is : (texts : List (List ℕ)) (places : List (Option ℕ)) (validity : Option (List Bool)) (packed : List ℕ) (k place : ℕ) (text : List ℕ) → k < length places → length texts ≤ 2 ^ 31 →
    ArePacked packed places → get_or places k None ≡ Some place → slice_get texts place ≡ Some text →
    entry_of (cells_of validity packed (map Text texts) (length places)) k ≡ Some (Text text)
entry_is texts places validity packed k place text low few are at there =
    let within = slice_get_within texts place text there in
    let is : unwrap_or (get_or places k None) 0 ≡ place = ap (λ (p : Option ℕ). unwrap_or p 0) at in
    let read = are.each k low ∙ is in
    ap (λ (n : ℤ). entry_at (map Text texts) n) (ap (number_from Int32) read ∙ plain place (omega (arith, within))) ∙ entry_there texts place text there

-- the slot has the value to which its place leads, and its index stands
pub slot_leads : (texts : List (List ℕ)) (places : List (Option ℕ)) (validity : Option (List Bool)) (packed : List ℕ) (k : ℕ) (value : Value) → k < length places → length texts ≤ 2 ^ 31 →
    ArePacked packed places → AreValidWhereSome validity places → Leads texts (get_or places k None) value →
    (layout_slot (layout.Indices (cells_of validity packed (map Text texts) (length places))) k ≡ value)
    × (index_stands (cells_of validity packed (map Text texts) (length places)) k ≡ true)
slot_leads texts places validity packed k value low few are valid leads = by (get_or places k None) refl leads
  where
    by : (place : Option ℕ) → get_or places k None ≡ place → Leads texts place value →
        (layout_slot (layout.Indices (cells_of validity packed (map Text texts) (length places))) k ≡ value)
        × (index_stands (cells_of validity packed (map Text texts) (length places)) k ≡ true)
    by None e leads =
        let is : is_valid validity k ≡ false = valid.each k low ∙ ap is_some e in
        (rw is (sym leads), rw is refl)
    by (Some place) e leads =
        let is : is_valid validity k ≡ true = valid.each k low ∙ ap is_some e in
        let entry = entry_is texts places validity packed k place leads.0 low few are e leads.1 in
        (rw (is, entry) (sym leads.2), rw (is, entry) refl)

-- such slots stand
pub indices_stand : (texts : List (List ℕ)) (places : List (Option ℕ)) (validity : Option (List Bool)) (packed : List ℕ) (values : List Value) → length texts ≤ 2 ^ 31 → ArePacked packed places → AreValidWhereSome validity places →
    AreLed texts places values → All IsTextOrNull (map Text texts) → AreIndices (cells_of validity packed (map Text texts) (length places))
indices_stand texts places validity packed values few held valid led are = record {
  validity = valid.long;
  values = omega (arith, held.long);
  indices = λ k low. (slot_leads texts places validity packed k (get_or values k Null) low few held valid (led_at texts places values led k low)).1;
  texts = are;
}

-- and lead to their values
pub indices_led : (texts : List (List ℕ)) (places : List (Option ℕ)) (validity : Option (List Bool)) (packed : List ℕ) (values : List Value) → length texts ≤ 2 ^ 31 → ArePacked packed places → AreValidWhereSome validity places →
    AreLed texts places values →
    AreLed texts places (map (λ j. layout_slot (layout.Indices (cells_of validity packed (map Text texts) (length places))) (0 + j)) (range_with_len 0 (length places)))
indices_led texts places validity packed values few held valid led =
    led_all texts places (λ j. layout_slot (layout.Indices (cells_of validity packed (map Text texts) (length places))) (0 + j)) 0
    (λ k low.
    let leads = led_at texts places values led k low in
    let is = (slot_leads texts places validity packed k (get_or values k Null) low few held valid leads).0 in
    let z : 0 + (0 + k) ≡ k = omega arith in
    rw (z, is) leads)

-- places lead to one list of values only
leads_same : (texts : List (List ℕ)) (place : Option ℕ) (v w : Value) → Leads texts place v → Leads texts place w → v ≡ w
leads_same texts None v w a b = a ∙ sym b
leads_same texts (Some place) v w a b =
    let same : Some a.0 ≡ Some b.0 = sym a.1 ∙ b.1 in
    let text : a.0 ≡ b.0 = cc in
    a.2 ∙ ap Text text ∙ sym b.2

pub led_same : (texts : List (List ℕ)) (places : List (Option ℕ)) (values others : List Value) → AreLed texts places values → AreLed texts places others → values ≡ others
led_same texts [] [] [] a b = refl
led_same texts (place ∷ places) (v ∷ values) (w ∷ others) a b =
    let first : v ≡ w = leads_same texts place v w a.0 b.0 in
    let rest : values ≡ others = led_same texts places values others a.1 b.1 in
    cc
led_same texts [] (v ∷ values) others a b = absurd a
led_same texts [] [] (w ∷ others) a b = absurd b
led_same texts (place ∷ places) [] others a b = absurd a
led_same texts (place ∷ places) (v ∷ values) [] a b = absurd b
