-- A spelled column is cut in one way only: its mark, its last colon, its name and its word.
use Rattle.std.proofs.Common.{◌≡◌, ◌≢◌, ◌<◌, ◌+◌, ◌-◌, ℕ, suc, Bool as Truth, true, false, List, [], ◌∷◌, ◌++◌, length, take, drop, get_or, slice_index, sym, subst, ap, ap₂, ◌∙◌, inl, inr, append_assoc, append-nil, arith}
use Rattle.std.specs.List.{list_all}
use Rattle.std.proofs.Math.Seq.{drop-append-add, get_or-append_seam, take-append_seam}
use Rattle.std.proofs.lemmas.Bool.{cases_lt}
use Rattle.std.proofs.lemmas.List.{append_cancel_right, get_or-append-add, length-append}
use Rattle.std.proofs.lemmas.List.Sums.{AllPass-from_list_all}
use Rattle.arrow_types.specs.declared.schema.Field.{Field}
use Rattle.csv_columns.specs.SpelledColumns.{mark_of, spelled, word_of}
use Rattle.csv_columns.specs.inside.Marks.{IsUnmarked}
use Rattle.number_words.proofs.TypeWords.{is_plain}
use Rattle.csv_columns.proofs.Words.{no_colon, no_mark, word_plain}

-- what stands before the mark of a column
abbrev body : Field → List ℕ
body column = column.name ++ 58 ∷ word_of column.data_type

whole : (column : Field) → body column ++ mark_of column.nullable ≡ spelled column
whole column = append_assoc column.name (58 ∷ word_of column.data_type) (mark_of column.nullable)

long : (column : Field) → length (body column) ≡ length column.name + suc (length (word_of column.data_type))
long column = length-append column.name (58 ∷ word_of column.data_type)

-- ---- the mark

last_plain : (word : List ℕ) → list_all is_plain word ≡ true → get_or (58 ∷ word) (length word) 0 ≢ 63
last_plain [] plain e = absurd (omega (arith, e))
last_plain (byte ∷ word) plain e =
    no_mark (get_or (byte ∷ word) (length word) 0) (AllPass-from_list_all is_plain (byte ∷ word) plain (length word) 0 (omega arith)) e

-- that part ends with no mark
ends_plain : (column : Field) (front : List ℕ) → body column ≢ front ++ mark_of true
ends_plain column front e =
    let word = word_of column.data_type in
    let place : length column.name + length word ≡ length front = omega (arith, long column, ap length e, length-append front (mark_of true)) in
    let last : get_or (body column) (length front) 0 ≡ 63 = ap (λ (xs : List ℕ). get_or xs (length front) 0) e ∙ get_or-append_seam front 63 [] 0 in
    last_plain word (word_plain column.data_type)
    (sym (get_or-append-add column.name (58 ∷ word) (length word) 0) ∙ ap (λ (n : ℕ). get_or (body column) n 0) place ∙ last)

front_is : (nullable marked : Truth) (front own text : List ℕ) → text ≡ front ++ mark_of nullable → IsUnmarked nullable text → own ++ mark_of marked ≡ text
    → ((x : List ℕ) → own ≢ x ++ mark_of true) → front ≡ own
front_is true true front own text cut unmarked says plain = append_cancel_right front own (mark_of true) (sym cut ∙ sym says)
front_is true false front own text cut unmarked says plain = absurd (plain front (sym (append-nil own) ∙ says ∙ cut))
front_is false true front own text cut unmarked says plain = absurd (unmarked own (sym says))
front_is false false front own text cut unmarked says plain = sym (append-nil front) ∙ sym cut ∙ sym says ∙ append-nil own

pub front_of : (text front : List ℕ) (nullable : Truth) (column : Field) → text ≡ front ++ mark_of nullable → IsUnmarked nullable text → spelled column ≡ text
    → front ≡ column.name ++ 58 ∷ word_of column.data_type
front_of text front nullable column cut unmarked says =
    front_is nullable column.nullable front (body column) text cut unmarked (whole column ∙ says) (ends_plain column)

-- ---- the last colon

-- it has one
pub has_colon : (front : List ℕ) (column : Field) → front ≡ column.name ++ 58 ∷ word_of column.data_type → ((k : ℕ) → k < length front → slice_index front k ≢ 58) → ⊥
has_colon front column is none =
    let place : length column.name < length front = omega (arith, ap length is, long column) in
    none (length column.name) place (ap (λ (xs : List ℕ). get_or xs (length column.name) 0) is ∙ get_or-append_seam column.name 58 (word_of column.data_type) 0)

-- none stands in the word
none_in_word : (column : Field) (j : ℕ) → j < length (word_of column.data_type) → get_or (body column) (length column.name + suc j) 0 ≢ 58
none_in_word column j low e =
    let word = word_of column.data_type in
    no_colon (get_or word j 0) (AllPass-from_list_all is_plain word (word_plain column.data_type) j 0 low)
    (sym (get_or-append-add column.name (58 ∷ word) (suc j) 0) ∙ e)

place_is : (column : Field) (at : ℕ) → at < length (body column) → get_or (body column) at 0 ≡ 58 → ((k : ℕ) → at < k → k < length (body column) → get_or (body column) k 0 ≢ 58)
    → at ≡ length column.name
place_is column at low is last = elim (cases_lt at (length column.name)) [
  | inl before ↦
      let inside : length column.name < length (body column) = omega (arith, long column) in
      absurd (last (length column.name) before inside (get_or-append_seam column.name 58 (word_of column.data_type) 0))
  | inr later ↦ elim (cases_lt (length column.name) at) [
    | inl behind ↦
        let j : ℕ = at - length column.name - 1 in
        let place : at ≡ length column.name + suc j = omega arith in
        let inside : j < length (word_of column.data_type) = omega (arith, long column) in
        absurd (none_in_word column j inside (ap (λ (n : ℕ). get_or (body column) n 0) (sym place) ∙ is))
    | inr not_behind ↦ omega arith
  ]
]

-- the name and the word stand around the last colon
pub cut_is : (front : List ℕ) (at : ℕ) (column : Field) → front ≡ column.name ++ 58 ∷ word_of column.data_type → at < length front → slice_index front at ≡ 58
    → ((k : ℕ) → at < k → k < length front → slice_index front k ≢ 58) → (take at front ≡ column.name) × (drop (at + 1) front ≡ word_of column.data_type)
cut_is front at column is low colon last =
    let Stands : List ℕ → Type 0 = λ xs. at < length xs → get_or xs at 0 ≡ 58 → ((k : ℕ) → at < k → k < length xs → get_or xs k 0 ≢ 58) → at ≡ length column.name in
    let place : at ≡ length column.name = subst Stands (sym is) (place_is column at) low colon last in (
      ap₂ (λ (n : ℕ) (xs : List ℕ). take n xs) place is ∙ take-append_seam column.name (58 ∷ word_of column.data_type),
      ap₂ (λ (n : ℕ) (xs : List ℕ). drop (n + 1) xs) place is ∙ drop-append-add column.name (58 ∷ word_of column.data_type) 1,
    )
