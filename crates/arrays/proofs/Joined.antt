-- The values of runs of parts, and of a dictionary.
use Rattle.std.proofs.Common.{◌≡◌, ◌<◌, ◌≤◌, ℕ, ◌+◌, ◌-◌, List, [], ◌∷◌, ◌++◌, length, drop, take, map, get_or, slice_index, Bool, false, inl, inr, Ok, refl, sym, ap, ◌∙◌, arith}
use Rattle.std.specs.List.{flat_map}
use Rattle.std.proofs.Math.ListN.{get_or-append}
use Rattle.std.proofs.Math.Seq.{take-append_seam}
use Rattle.std.proofs.lemmas.Bool.{cases_lt, le-leb}
use Rattle.std.proofs.lemmas.List.{append-nil, map-append, length-append, get_or-append-add, take-append-drop, take-append-le, take_all, take_more, take_rest, append_assoc}
use Rattle.std.proofs.lemmas.List.Elements.{All-append}
use Rattle.std.proofs.lemmas.List.Folds.{list_any-append}
use Rattle.std.proofs.lemmas.Grind.{flat_map-append}
use Rattle.scan_base.specs.declared.value.Value.{Value}
use Rattle.scan_base.specs.Value.{is_null, IsTextOrNull}
use Rattle.arrays.specs.Texts.{TextsAt, text_at, texts_slot, texts_values, AreTexts}
use Rattle.scan_base.specs.Limits.{most_values}
use Rattle.arrays.specs.Dictionary.{extended_by}
use Rattle.arrays.specs.inside.Dictionary.{IsDictionary}
use Rattle.arrays.specs.inside.Runs.{parts_values, runs_values, IsRun}
use Rattle.arrays.proofs.Entries.{dropped, length-texts_values, parts_more, length-parts_more, length-through}
use Rattle.arrays.proofs.NoNulls.{none_listed}
use Rattle.arrays.proofs.ShortTexts.{texts_short, longer_of}
use Rattle.arrays.proofs.TextSlots.{values_are_texts}

-- the values of items up to one, and with it
pub values_through : {A X : Type 0} (values : X → List Value) (view : A → X) (items : List A) (i : ℕ) (item : A) → i < length items → item ≡ get_or items i item →
    flat_map values (map view (take (i + 1) items)) ≡ flat_map values (map view (take i items)) ++ values (view item)
values_through {A = A} values view items i item low is =
    let through : take (i + 1) items ≡ take i items ++ item ∷ [] = take_more items i item low ∙ ap (λ (last : A). take i items ++ last ∷ []) (sym is) in
    rw (through, map-append view (take i items) (item ∷ []), flat_map-append values (map view (take i items)) (view item ∷ []))
    (ap (λ (last : List Value). flat_map values (map view (take i items)) ++ last) (append-nil (values (view item))))

-- the values of items up to one, and of the others
pub values_split : {A X : Type 0} (values : X → List Value) (view : A → X) (items : List A) (i : ℕ) →
    flat_map values (map view items) ≡ flat_map values (map view (take i items)) ++ flat_map values (map view (drop i items))
values_split {A = A} {X = X} values view items i =
    ap (λ (whole : List A). flat_map values (map view whole)) (sym (take-append-drop i items))
    ∙ ap (λ (parts : List X). flat_map values parts) (map-append view (take i items) (drop i items))
    ∙ flat_map-append values (map view (take i items)) (map view (drop i items))

-- those of the others are no more than all
pub values_left : {A X : Type 0} (values : X → List Value) (view : A → X) (items : List A) (i : ℕ) →
    length (flat_map values (map view (drop i items))) ≤ length (flat_map values (map view items))
values_left values view items i =
    let front = flat_map values (map view (take i items)) in
    let back = flat_map values (map view (drop i items)) in
    omega (arith, ap length (values_split values view items i), length-append front back)

-- those up to an item and its own are no more than all
pub values_within : {A X : Type 0} (values : X → List Value) (view : A → X) (items : List A) (i : ℕ) (item : A) → i < length items → item ≡ get_or items i item →
    length (flat_map values (map view (take i items))) + length (values (view item)) ≤ length (flat_map values (map view items))
values_within values view items i item low is =
    let front = flat_map values (map view (take (i + 1) items)) in
    let back = flat_map values (map view (drop (i + 1) items)) in
    omega (
      arith,
      ap length (values_split values view items (i + 1)),
      length-append front back,
      ap length (values_through values view items i item low is),
      length-append (flat_map values (map view (take i items))) (values (view item)),
    )

-- the values from an item on: its own, and those after it
pub values_ahead : {A X : Type 0} (values : X → List Value) (view : A → X) (items : List A) (i : ℕ) (item : A) → i < length items → item ≡ get_or items i item →
    flat_map values (map view (drop i items)) ≡ values (view item) ++ flat_map values (map view (drop (i + 1) items))
values_ahead {A = A} values view items i item low is = ap (λ (left : List A). flat_map values (map view left)) (dropped items i item low is)

-- runs that stay, and after them one run of the others with more values
pub runs_with : {A : Type 0} (view : A → List Value) (runs kept all : List A) (joined more : List Value) (last : A) (i : ℕ) →
    map view kept ≡ map view (take i runs) → joined ≡ runs_values (map view (take (length runs - i) (drop i runs))) → view last ≡ joined ++ more → all ≡ kept ++ last ∷ [] →
    runs_values (map view all) ≡ runs_values (map view runs) ++ more
runs_with view runs kept all joined more last i front others one pushed =
    let before = runs_values (map view (take i runs)) in
    let behind = runs_values (map view (drop i runs)) in
    rw (
      pushed,
      map-append view kept (last ∷ []),
      flat_map-append (λ (run : List Value). run) (map view kept) (view last ∷ []),
      front,
      one,
      others,
      take_rest runs i,
      append-nil (behind ++ more),
      values_split (λ (run : List Value). run) view runs i,
      append_assoc before behind more,
    ) refl

-- one part more
pub run_more : (parts : List TextsAt) (starts : List ℕ) (part : TextsAt) (count : ℕ) (nulls all : Bool) → IsRun parts starts count nulls → count + part.len ≤ most_values →
    (all ≡ false → (nulls ≡ false) × ((place : ℕ) → place < part.len → is_null (texts_slot part place) ≡ false)) →
    IsRun (parts ++ part ∷ []) (starts ++ count ∷ []) (count + part.len) all
run_more parts starts part count nulls all had small none = record {
  counted = length-parts_more parts part ∙ ap (λ (n : ℕ). n + part.len) had.counted;
  small = small;
  many = omega (arith, length-append starts (count ∷ []), length-append parts (part ∷ []), had.many);
  fronts = λ i low. elim (cases_lt i (length parts)) [
    | inl inside ↦
        get_or-append starts (count ∷ []) 0 i (omega (arith, had.many)) ∙ had.fronts i inside
        ∙ ap (λ (front : List TextsAt). length (parts_values front)) (sym (take-append-le i parts (part ∷ []) (omega arith)))
    | inr last ↦
        let here : i ≡ length parts = omega (arith, length-append parts (part ∷ [])) in
        let z : length starts + 0 ≡ i = omega (arith, had.many, here) in
        ap (λ (n : ℕ). slice_index (starts ++ count ∷ []) n) (sym z) ∙ get_or-append-add starts (count ∷ []) 0 0 ∙ sym had.counted
        ∙ ap (λ (front : List TextsAt). length (parts_values front)) (sym (ap (λ (n : ℕ). take n (parts ++ part ∷ [])) here ∙ take-append_seam parts (part ∷ [])))
  ];
  sound = λ no.
      let both = none no in
      let last = none_listed (texts_slot part) 0 part.len (λ place first high. both.1 place (omega arith)) in
      rw (parts_more parts part, list_any-append is_null (parts_values parts) (texts_values part ++ []), list_any-append is_null (texts_values part) [], had.sound both.0, last) refl;
}

-- the part that an index is in
pub in_last : (parts : List TextsAt) (starts : List ℕ) (count i index : ℕ) (nulls : Bool) (part : TextsAt) → IsRun parts starts count nulls → i < length parts → part ≡ get_or parts i part →
    index < count → (i + 1 < length starts → index < slice_index starts (i + 1)) → slice_index starts i ≤ index → index - slice_index starts i < part.len
in_last parts starts count i index nulls part had low is few ends starts_at =
    let through = length-through parts i part low is in
    let front = had.fronts i low in
    elim (cases_lt (i + 1) (length parts)) [
      | inl more ↦
          let next = had.fronts (i + 1) more in
          let before = ends (omega (arith, had.many)) in
          omega (arith, through, front, next, before)
      | inr last ↦
          let all : take (i + 1) parts ≡ parts = take_all (i + 1) parts last in
          let total : length (parts_values (take (i + 1) parts)) ≡ count = ap (λ (left : List TextsAt). length (parts_values left)) all ∙ had.counted in
          omega (arith, through, front, total)
    ]

-- one part more for a dictionary
pub dictionary_more : (values : List Value) (part : TextsAt) (count longest more all : ℕ) → IsDictionary values count longest → AreTexts part → count + part.len ≤ most_values →
    ((place : ℕ) → place < part.len → length (text_at part place) ≤ more) → longest ≤ all → more ≤ all → IsDictionary (values ++ texts_values part) (count + part.len) all
dictionary_more values part count longest more all had are small texts low high = record {
  counted = length-append values (texts_values part) ∙ omega (arith, had.counted, length-texts_values part);
  small = small;
  texts = All-append IsTextOrNull values (texts_values part) had.texts (values_are_texts part are);
  short = longer_of values (texts_values part) longest more all low high had.short (texts_short part more texts);
}

-- within the limit the values are those of both
pub extended_is : (values : List Value) (part : TextsAt) → length values + part.len ≤ most_values → extended_by values part ≡ Ok (values ++ texts_values part)
unfolding extended_by
extended_is values part small = rw (le-leb (length values + part.len) most_values small) refl
