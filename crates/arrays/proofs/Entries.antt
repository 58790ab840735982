-- The values of a dictionary's parts, and the entries that indices lead to.
use Rattle.std.proofs.Common.{◌≡◌, ◌<◌, ◌≤◌, ℕ, zero, suc, ◌+◌, ◌-◌, ◌*◌, ◌^◌, ℤ, pos, negsuc, List, [], ◌∷◌, ◌++◌, length, drop, take, get_or, slice_get, Option, Some, None, Bool, true, nat_le, All, inl, inr, refl, sym, ap, ◌∙◌, arith, add-one}
use Rattle.std.specs.Int.{w64, FitsUnsigned}
use Rattle.std.specs.List.{list_all, range_with_len}
use Rattle.std.proofs.Math.ListN.{get_or-append}
use Rattle.std.proofs.Math.Seq.{drop-cons, take-suc}
use Rattle.std.proofs.Math.Facts.{yes_ltb, yes_leb}
use Rattle.std.proofs.lemmas.Bool.{cases_lt, leb-true}
use Rattle.std.proofs.lemmas.List.{length-append, take-append-drop}
use Rattle.std.proofs.lemmas.List.FromFn.{length-map-range_with_len, get_or-map-range_with_len}
use Rattle.std.proofs.lemmas.Grind.{flat_map-append}
use Rattle.std.proofs.lemmas.Option.{slice_get-get_or, slice_get_past}
use Rattle.arrow_types.specs.declared.data_type.IntegerType.{IntegerType}
use Rattle.scan_base.specs.declared.value.Value.{Value}
use Rattle.scan_base.specs.declared.value.Value.TheVariants.{Null}
use Rattle.arrays.specs.Number.{byte_width}
use Rattle.arrays.specs.Validity.{IsLong}
use Rattle.scan_base.specs.Value.{IsTextOrNull}
use Rattle.arrays.specs.Texts.{TextsAt, texts_slot, texts_values}
use Rattle.arrays.specs.Dictionary.{entry_at}
use Rattle.arrays.specs.inside.Runs.{parts_values}
use Rattle.arrays.specs.Indices.{IndicesAt, index_stands, AreIndices}
use Rattle.arrays.proofs.EachSlot.{slots_at}

-- the item at a place stands in front of those after it
pub dropped : {X : Type 0} (xs : List X) (i : ℕ) (x : X) → i < length xs → x ≡ get_or xs i x → drop i xs ≡ x ∷ drop (i + 1) xs
dropped {X = X} xs i x low is = rw (add-one, drop-cons xs i x low) (ap (λ (y : X). y ∷ drop (suc i) xs) (sym is))

pub length-texts_values : (part : TextsAt) → length (texts_values part) ≡ part.len
length-texts_values part = length-map-range_with_len (texts_slot part) 0 part.len

-- a place within the first part
pub in_part : (part : TextsAt) (more : List Value) (place : ℕ) → place < part.len → slice_get (texts_values part ++ more) place ≡ Some (texts_slot part place)
in_part part more place low =
    let long = length-texts_values part in
    let both = length-append (texts_values part) more in
    slice_get-get_or (texts_values part ++ more) place Null (omega (arith, long, both))
    ∙ ap Some (get_or-append (texts_values part) more Null place (omega (arith, long)) ∙ get_or-map-range_with_len (texts_slot part) 0 part.len place place Null low (omega arith))

-- a place within the first of two lists
pub within_list : (xs ys : List Value) (place : ℕ) → place < length xs → slice_get (xs ++ ys) place ≡ slice_get xs place
within_list [] ys place low = absurd (omega (arith, low))
within_list (x ∷ xs) ys zero low = refl
within_list (x ∷ xs) ys (suc place) low = within_list xs ys place (omega (arith, low))

-- a place after a list
pub behind_list : (xs ys : List Value) (place : ℕ) → length xs ≤ place → slice_get (xs ++ ys) place ≡ slice_get ys (place - length xs)
behind_list [] ys place le = let e : place - 0 ≡ place = omega arith in rw e refl
behind_list (x ∷ xs) ys zero le = absurd (omega arith)
behind_list (x ∷ xs) ys (suc place) le = let e : suc place - suc (length xs) ≡ place - length xs = omega arith in rw e (behind_list xs ys place (omega arith))

-- the values up to a part, and with it
pub parts_more : (parts : List TextsAt) (part : TextsAt) → parts_values (parts ++ part ∷ []) ≡ parts_values parts ++ (texts_values part ++ [])
parts_more parts part = flat_map-append texts_values parts (part ∷ [])

pub length-parts_more : (parts : List TextsAt) (part : TextsAt) → length (parts_values (parts ++ part ∷ [])) ≡ length (parts_values parts) + part.len
length-parts_more parts part =
    let nothing : List Value = [] in
    let last = length-append (texts_values part) nothing in
    let all = length-append (parts_values parts) (texts_values part ++ nothing) in
    rw (parts_more parts part) (omega (arith, length-texts_values part, last, all))

pub length-through : (parts : List TextsAt) (i : ℕ) (part : TextsAt) → i < length parts → part ≡ get_or parts i part →
    length (parts_values (take (i + 1) parts)) ≡ length (parts_values (take i parts)) + part.len
length-through parts i part low is =
    let through : take (i + 1) parts ≡ take i parts ++ part ∷ [] = rw (add-one, take-suc parts i part low) (ap (λ (x : TextsAt). take i parts ++ x ∷ []) (sym is)) in
    rw through (length-parts_more (take i parts) part)

-- the value of a number that lies within a part
pub in_parts : (parts : List TextsAt) (i index : ℕ) (part : TextsAt) → i < length parts → part ≡ get_or parts i part →
    length (parts_values (take i parts)) ≤ index → index - length (parts_values (take i parts)) < part.len →
    slice_get (parts_values parts) index ≡ Some (texts_slot part (index - length (parts_values (take i parts))))
in_parts parts i index part low is front within =
    let before = parts_values (take i parts) in
    let whole : parts_values parts ≡ before ++ parts_values (drop i parts) =
    ap parts_values (sym (take-append-drop i parts)) ∙ flat_map-append texts_values (take i parts) (drop i parts) in
    ap (λ (values : List Value). slice_get values index) whole
    ∙ behind_list before (parts_values (drop i parts)) index front
    ∙ ap (λ (left : List TextsAt). slice_get (parts_values left) (index - length before)) (dropped parts i part low is)
    ∙ in_part part (parts_values (drop (i + 1) parts)) (index - length before) within

-- a number that is no place of the machine's is no index of so few values
pub no_entry : (values : List Value) (index : ℤ) → length values < 2 ^ 64 → (FitsUnsigned w64 index → ⊥) → entry_at values index ≡ None
no_entry values (pos index) small wide = elim (cases_lt index (length values)) [
  | inl low ↦ absurd (wide (record { le = yes_leb (omega arith) }, record { lt = yes_ltb (omega arith) }))
  | inr high ↦ slice_get_past values index high
]
no_entry values (negsuc index) small wide = refl

-- slots that were tested are indices
pub tested_are_indices : (cells : IndicesAt) → IsLong cells.validity cells.len → nat_le (byte_width cells.index * cells.len) (length cells.values) ≡ true →
    list_all (index_stands cells) (range_with_len 0 cells.len) ≡ true → All IsTextOrNull cells.dictionary → AreIndices cells
tested_are_indices cells long room all texts = record {
  texts = texts;
  validity = long;
  values = leb-true (byte_width cells.index * cells.len) (length cells.values) room;
  indices = λ place low. slots_at (index_stands cells) 0 cells.len place all (omega arith) (omega arith);
}

-- the same of buffers that were read through slices
pub read_are_indices : (index : IntegerType) (validity : Option (List Bool)) (values tested_values read_values : List ℕ) (dictionary read_dictionary : List Value) (len : ℕ) →
    tested_values ≡ values → read_values ≡ values → read_dictionary ≡ dictionary → IsLong validity len → nat_le (byte_width index * len) (length tested_values) ≡ true →
    list_all (index_stands (record { index = index; validity = validity; values = read_values; dictionary = read_dictionary; len = len })) (range_with_len 0 len) ≡ true → All IsTextOrNull read_dictionary →
    AreIndices (record { index = index; validity = validity; values = values; dictionary = dictionary; len = len })
read_are_indices index validity values tested_values read_values dictionary read_dictionary len same_tested same_values same_dictionary long room all texts =
    tested_are_indices (record { index = index; validity = validity; values = values; dictionary = dictionary; len = len }) long (rw (← same_tested) room) (rw (← same_values, ← same_dictionary) all) (rw same_dictionary at texts)
