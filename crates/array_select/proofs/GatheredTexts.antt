-- Texts that are made of values, and those that are gathered at places.
use Rattle.std.proofs.Common.{◌≡◌, ◌≤◌, ◌<◌, ◌^◌, ℕ, zero, suc, ◌+◌, ◌-◌, ◌||◌, not, Bool, true, false, Option, List, [], ◌∷◌, length, get_or, take, drop, slice_range, refl, sym, ap, subst, ◌∙◌, arith}
use Rattle.std.specs.Str.{is_utf8}
use Rattle.std.proofs.lemmas.Bool.{le-leb, lt-ltb}
use Rattle.std.proofs.lemmas.List.{length-append, length-map, get_or-map, length-take, length-drop, drop_all}
use Rattle.std.proofs.lemmas.Str.{is_utf8-from_IsUtf8}
use Rattle.scan_base.specs.declared.value.Value.{Value}
use Rattle.scan_base.specs.declared.value.Value.TheVariants.{Null, Text}
use Rattle.arrow_types.specs.declared.data_type.DataType.{DataType}
use Rattle.arrow_types.specs.declared.data_type.DataType.TheVariants as type
use Rattle.arrays.specs.declared.layout.Layout.TheVariants as layout
use Rattle.arrays.specs.Number.{element_at}
use Rattle.arrays.specs.Validity.{is_valid, IsLong}
use Rattle.arrays.specs.Texts.{TextsAt, text_at, AreTexts}
use Rattle.arrow_types.specs.DataType.{cell_of}
use Rattle.arrays.specs.TypedLayouts.{IsOfType}
use Rattle.arrays.proofs.OfType.{numbers_lie}
use Rattle.arrays.specs.WrittenSlots.{text_bytes, texts_joined, offsets_from}
use Rattle.array_select.specs.inside.GatheredSlots.{AreAmong, AreValidAt, AreGathered, texts_at}
use Rattle.arrays.proofs.Offsets.{length-offsets}
use Rattle.arrays.proofs.Adjoining.{ordered, ends, rising}
use Rattle.array_select.proofs.Gathered.{slot_is}
use Rattle.arrays.proofs.TextSlots.{text_is_utf8}
use Rattle.arrays.proofs.Offsets.{offset_again, text_again, joined-le, joined-next}

-- slots of texts that stand one after another
abbrev pub texts_made : Option (List Bool) → List Value → TextsAt
texts_made validity values = record { validity = validity; offsets = offsets_from 0 values; bytes = texts_joined values; len = length values }

offset_made : (validity : Option (List Bool)) (values : List Value) (j : ℕ) → j ≤ length values → length (texts_joined values) < 2 ^ 31 →
    element_at 4 (offsets_from 0 values) j ≡ length (texts_joined (take j values))
offset_made validity values j low short = offset_again values 0 j low (omega arith) ∙ omega arith

-- the text of a slot is that of its value
pub text_made : (validity : Option (List Bool)) (values : List Value) (j : ℕ) (d : Value) → j < length values → length (texts_joined values) < 2 ^ 31 →
    text_at (texts_made validity values) j ≡ text_bytes (get_or values j d)
text_made validity values j d low short =
    ap (λ (a : ℕ). slice_range (texts_joined values) a (element_at 4 (offsets_from 0 values) (j + 1))) (offset_made validity values j (omega arith) short)
    ∙ ap (λ (b : ℕ). slice_range (texts_joined values) (length (texts_joined (take j values))) b) (offset_made validity values (j + 1) (omega arith) short)
    ∙ text_again values j d low

-- they stand
pub texts_stand : (validity : Option (List Bool)) (values : List Value) → IsLong validity (length values) → length (texts_joined values) < 2 ^ 31 →
    ((j : ℕ) → j < length values → is_valid validity j ≡ true → is_utf8 (text_bytes (get_or values j Null)) ≡ true) → AreTexts (texts_made validity values)
texts_stand validity values long short utf8 =
    record {
      validity = long;
      offsets = λ some. omega (arith, length-offsets 0 values);
      texts = λ j low.
          let cells = texts_made validity values in
          let from = offset_made validity values j (omega arith) short in
          let to = offset_made validity values (j + 1) (omega arith) short in
          let within : element_at 4 (offsets_from 0 values) (j + 1) ≤ length (texts_joined values) = omega (arith, to, joined-le values (j + 1)) in
          let small : element_at 4 (offsets_from 0 values) (j + 1) < 2 ^ 31 = omega (arith, within, short) in
          let order : element_at 4 (offsets_from 0 values) j ≤ element_at 4 (offsets_from 0 values) (j + 1) = omega (arith, from, to, joined-next values j) in
          rw (le-leb _ _ within, lt-ltb _ _ small, le-leb _ _ order, text_made validity values j Null low short)
          (by (is_valid validity j) (is_utf8 (text_bytes (get_or values j Null))) (utf8 j low));
    }
  where
    by : (valid text : Bool) → (valid ≡ true → text ≡ true) → (not valid || text) ≡ true
    by true text h = h refl
    by false text h = refl

-- what is left of the texts at places
pub texts_ahead : (cells : TextsAt) (first : ℕ) (places : List ℕ) (i : ℕ) → i < length places →
    texts_at cells first (drop i places) ≡ Text (text_at cells (first + get_or places i 0)) ∷ texts_at cells first (drop (i + 1) places)
texts_ahead cells first [] i low = absurd (omega arith)
texts_ahead cells first (place ∷ places) zero low = refl
texts_ahead cells first (place ∷ places) (suc i) low = let e : suc i + 1 ≡ suc (i + 1) = omega arith in rw e (texts_ahead cells first places i (omega arith))

pub joined_ahead : (cells : TextsAt) (first : ℕ) (places : List ℕ) (i : ℕ) → i < length places →
    length (texts_joined (texts_at cells first (drop i places)))
    ≡ length (text_at cells (first + get_or places i 0)) + length (texts_joined (texts_at cells first (drop (i + 1) places)))
joined_ahead cells first places i low =
    rw (texts_ahead cells first places i low) (length-append (text_at cells (first + get_or places i 0)) (texts_joined (texts_at cells first (drop (i + 1) places))))

-- the bytes of a text
pub text_long : (cells : TextsAt) (place : ℕ) → AreTexts cells → place < cells.len → length (text_at cells place) + element_at 4 cells.offsets place ≡ element_at 4 cells.offsets (place + 1)
text_long cells place are low =
    let from = element_at 4 cells.offsets place in
    let to = element_at 4 cells.offsets (place + 1) in
    omega (arith, length-take (to - from) (drop from cells.bytes), length-drop from cells.bytes, ordered cells place are low, (ends cells place are low).0)

-- those of places that rise have no more bytes than the data they are cut from
texts_below : (cells : TextsAt) (first : ℕ) (places : List ℕ) (m i : ℕ) → AreTexts cells → AreAmong first places cells.len → i + suc m ≡ length places →
    element_at 4 cells.offsets (first + get_or places i 0) + length (texts_joined (texts_at cells first (drop i places))) < 2 ^ 31
texts_below cells first places zero i are among last =
    let at = first + get_or places i 0 in
    let here : i < length places = omega arith in
    let within : at < cells.len = among.each i here in
    let none : length (texts_joined (texts_at cells first (drop (i + 1) places))) ≡ 0 = ap (λ (rest : List ℕ). length (texts_joined (texts_at cells first rest))) (drop_all (i + 1) places (omega arith)) in
    omega (arith, joined_ahead cells first places i here, none, text_long cells at are within, (ends cells at are within).1)
texts_below cells first places (suc m) i are among more =
    let at = first + get_or places i 0 in
    let next = first + get_or places (i + 1) 0 in
    let here : i < length places = omega arith in
    let behind : i + 1 < length places = omega arith in
    let within : at < cells.len = among.each i here in
    let above : get_or places i 0 < get_or places (i + 1) 0 = among.rising i (i + 1) (omega arith) behind in
    let e : at + 1 + (next - (at + 1)) ≡ next = omega (arith, above) in
    let order : element_at 4 cells.offsets (at + 1) ≤ element_at 4 cells.offsets next = rw e at (rising cells (at + 1) (next - (at + 1)) are (omega (arith, e, among.each (i + 1) behind))) in
    let rest = texts_below cells first places m (i + 1) are among (omega arith) in
    omega (arith, joined_ahead cells first places i here, text_long cells at are within, order, rest)

pub texts_short : (cells : TextsAt) (first : ℕ) (places : List ℕ) → AreTexts cells → AreAmong first places cells.len → length (texts_joined (texts_at cells first places)) < 2 ^ 31
texts_short cells first [] are among = omega arith
texts_short cells first (place ∷ places) are among = omega (arith, texts_below cells first (place ∷ places) (length places) 0 are among (omega arith))

-- the text of a slot that was gathered
text_of : (cells : TextsAt) (first : ℕ) (places : List ℕ) (k : ℕ) → k < length places → text_bytes (get_or (texts_at cells first places) k Null) ≡ text_at cells (first + get_or places k 0)
text_of cells first places k low = ap text_bytes (get_or-map (λ place. Text (text_at cells (first + place))) places k 0 Null low)

length-texts_at : (cells : TextsAt) (first : ℕ) (places : List ℕ) → length (texts_at cells first places) ≡ length places
length-texts_at cells first places = length-map places (λ place. Text (text_at cells (first + place)))

-- the buffers that were made are those of the texts
made_is : (cells : TextsAt) (validity : Option (List Bool)) (offsets bytes made_offsets made_bytes : List ℕ) (first : ℕ) (places : List ℕ) → offsets ≡ made_offsets → bytes ≡ made_bytes →
    made_offsets ≡ offsets_from 0 (texts_at cells first places) → made_bytes ≡ texts_joined (texts_at cells first places) →
    texts_made validity (texts_at cells first places) ≡ record { validity = validity; offsets = offsets; bytes = bytes; len = length places }
made_is cells validity offsets bytes made_offsets made_bytes first places a b c d =
    rw (a ∙ c, b ∙ d, length-texts_at cells first places) refl

pub gathered_stand : (cells : TextsAt) (validity read_validity : Option (List Bool)) (offsets bytes made_offsets made_bytes : List ℕ) (first : ℕ) (places : List ℕ) →
    AreTexts cells → AreAmong first places cells.len → read_validity ≡ cells.validity → AreValidAt validity read_validity first places → offsets ≡ made_offsets → bytes ≡ made_bytes →
    made_offsets ≡ offsets_from 0 (texts_at cells first places) → made_bytes ≡ texts_joined (texts_at cells first places) →
    AreTexts (record { validity = validity; offsets = offsets; bytes = bytes; len = length places })
gathered_stand cells validity read_validity offsets bytes made_offsets made_bytes first places are among same_validity valid_read a b c d =
    let valid = rw same_validity at valid_read in
    let long = length-texts_at cells first places in
    subst AreTexts (made_is cells validity offsets bytes made_offsets made_bytes first places a b c d)
    (texts_stand validity (texts_at cells first places) (subst (IsLong validity) (sym long) valid.long) (texts_short cells first places are among)
    (λ k under slot_valid.
    let low : k < length places = omega (arith, long) in
    let at = first + get_or places k 0 in
    ap is_utf8 (text_of cells first places k low)
    ∙ is_utf8-from_IsUtf8 (text_at cells at) (text_is_utf8 cells at (are.texts at (among.each k low)) (sym (valid.each k low) ∙ slot_valid))))

texts_typed : (data_type : DataType) (gathered cells : TextsAt) → IsOfType data_type (layout.Texts cells) → IsOfType data_type (layout.Texts gathered)
texts_typed type.Utf8 gathered cells of = tt
texts_typed (type.Number kind) gathered cells of = absurd (numbers_lie (cell_of kind) (layout.Texts cells) of)
texts_typed data_type gathered cells of = absurd of

pub texts_gathered : (gathered cells : TextsAt) (validity read_validity : Option (List Bool)) (offsets bytes made_offsets made_bytes : List ℕ) (first : ℕ) (places : List ℕ) →
    AreTexts cells → AreAmong first places cells.len → gathered ≡ record { validity = validity; offsets = offsets; bytes = bytes; len = length places } →
    read_validity ≡ cells.validity → AreValidAt validity read_validity first places → offsets ≡ made_offsets → bytes ≡ made_bytes →
    made_offsets ≡ offsets_from 0 (texts_at cells first places) → made_bytes ≡ texts_joined (texts_at cells first places) →
    AreGathered (layout.Texts gathered) (layout.Texts cells) first places
texts_gathered gathered cells validity read_validity offsets bytes made_offsets made_bytes first places are among is same_validity valid_read a b c d =
    let valid = rw same_validity at valid_read in
    let values = texts_at cells first places in
    let long = length-texts_at cells first places in
    let made = texts_made validity values in
    rw (is ∙ sym (made_is cells validity offsets bytes made_offsets made_bytes first places a b c d)) (record {
      count = long;
      slots = λ k low. slot_is validity cells.validity (λ x. Text (text_at made x)) (λ x. Text (text_at cells x)) k (first + get_or places k 0) (valid.each k low)
          (ap Text (text_made validity values k Null (omega (arith, long)) (texts_short cells first places are among) ∙ text_of cells first places k low));
      typed = λ data_type of. texts_typed data_type made cells of;
    })
