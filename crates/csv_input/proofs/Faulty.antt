-- The first record that is wrong.
use Rattle.std.proofs.Common.{◌≡◌, ◌<◌, ◌+◌, ℕ, List, [], ◌∷◌, ◌++◌, length, get_or, sym, ap, subst, ◌∙◌, arith, inl, inr, append-nil, append_assoc}
use Rattle.std.specs.Prelude.{IsSome}
use Rattle.std.proofs.lemmas.Bool.{cases_lt}
use Rattle.std.proofs.lemmas.List.{get_or-append-add, get_or_append_left, get_or_default, length-append}
use Rattle.std.proofs.lemmas.List.Elements.{All-append, All-nil, All-cons}
use Rattle.arrow_types.specs.declared.schema.Field.{Field}
use Rattle.csv_columns.specs.FieldValues.{cell_in}
use Rattle.csv_input.specs.declared.outcome.RecordFault.{RecordFault}
use Rattle.csv_input.specs.Rows.{AreRight, IsFirstWrong, IsRight, IsWrong, SaysCell}

-- ---- one record

-- the fields at the first places say values
abbrev pub SayFirst : List Field → List (List ℕ) → ℕ → Type 0
SayFirst columns fields count = (k : ℕ) → k < count → SaysCell columns fields k

-- one more does
pub first_more : (columns : List Field) (fields : List (List ℕ)) (number : ℕ) (column : Field) → number < length columns → column ≡ get_or columns number column → IsSome (cell_in column (get_or fields number [])) →
    SayFirst columns fields number → SayFirst columns fields (number + 1)
first_more columns fields number column inside is some so = λ k low d. elim (cases_lt k number) [
  | inl before ↦ so k before d
  | inr later ↦
      let same : number ≡ k = omega (arith, low, later) in
      subst (λ (n : ℕ). IsSome (cell_in (get_or columns n d) (get_or fields n []))) same
      (subst (λ (c : Field). IsSome (cell_in c (get_or fields number []))) (is ∙ get_or_default columns number column d inside) some)
]

-- ---- all records

-- a record was taken from those after others
pub splits_more : (all read : List (List (List ℕ))) (fields : List (List ℕ)) (left rest : List (List (List ℕ))) → all ≡ read ++ left → left ≡ fields ∷ rest → all ≡ (read ++ fields ∷ []) ++ rest
splits_more all read fields left rest splits took = splits ∙ ap (λ (l : List (List (List ℕ))). read ++ l) took ∙ sym (append_assoc read (fields ∷ []) rest)

-- it is right where all are
pub right_at : (columns : List Field) (all read : List (List (List ℕ))) (fields : List (List ℕ)) (left rest : List (List (List ℕ))) → all ≡ read ++ left → left ≡ fields ∷ rest → AreRight columns all → IsRight columns fields
right_at columns all read fields left rest splits took right =
    let whole : all ≡ read ++ fields ∷ rest = splits ∙ ap (λ (l : List (List (List ℕ))). read ++ l) took in
    let low : length read + 0 < length all = omega (arith, ap length whole, length-append read (fields ∷ rest)) in
    subst (IsRight columns) (ap (λ (l : List (List (List ℕ))). get_or l (length read + 0) []) whole ∙ get_or-append-add read (fields ∷ rest) 0 []) (right (length read + 0) [] low)

-- one more is right
pub right_more : (columns : List Field) (read : List (List (List ℕ))) (fields : List (List ℕ)) → AreRight columns read → IsRight columns fields → AreRight columns (read ++ fields ∷ [])
right_more columns read fields right one =
    All-append (IsRight columns) read (fields ∷ []) right (All-cons (IsRight columns) fields [] one (All-nil (IsRight columns)))

-- none is left
pub right_all : (columns : List Field) (all read left : List (List (List ℕ))) → all ≡ read ++ left → left ≡ [] → AreRight columns read → AreRight columns all
right_all columns all read left splits none right =
    subst (AreRight columns) (sym (splits ∙ ap (λ (l : List (List (List ℕ))). read ++ l) none ∙ append-nil read)) right

-- those that are left are right
pub right_rest : (columns : List Field) (all read left : List (List (List ℕ))) → all ≡ read ++ left → AreRight columns all → AreRight columns left
right_rest columns all read left splits right = λ k d low.
    let inside : length read + k < length all = omega (arith, low, ap length splits, length-append read left) in
    subst (IsRight columns) (ap (λ (l : List (List (List ℕ))). get_or l (length read + k) d) splits ∙ get_or-append-add read left k d) (right (length read + k) d inside)

pub right_none : (columns : List Field) (left : List (List (List ℕ))) → left ≡ [] → AreRight columns left
right_none columns left none = λ k d low. absurd (omega (arith, low, ap length none))

-- it is the first that is wrong where those before it are right
pub wrong_first : (columns : List Field) (all read : List (List (List ℕ))) (fields : List (List ℕ)) (left rest : List (List (List ℕ))) (before : ℕ) (wrong : RecordFault) → all ≡ read ++ left → left ≡ fields ∷ rest →
    before ≡ length read → AreRight columns read → IsWrong columns fields wrong → IsFirstWrong columns all (record { before = before; wrong = wrong })
wrong_first columns all read fields left rest before wrong splits took count right is =
    let whole : all ≡ read ++ fields ∷ rest = splits ∙ ap (λ (l : List (List (List ℕ))). read ++ l) took in
    let place : before ≡ length read + 0 = omega (arith, count) in
    let here : get_or all before [] ≡ fields =
    ap (λ (n : ℕ). get_or all n []) place ∙ ap (λ (l : List (List (List ℕ))). get_or l (length read + 0) []) whole ∙ get_or-append-add read (fields ∷ rest) 0 [] in
    record {
      there = omega (arith, count, ap length whole, length-append read (fields ∷ rest));
      before = λ k under.
          let low : k < length read = omega (arith, under, count) in
          subst (IsRight columns) (sym (ap (λ (l : List (List (List ℕ))). get_or l k []) whole ∙ get_or_append_left read (fields ∷ rest) [] k low)) (right k [] low);
      is = subst (λ (f : List (List ℕ)). IsWrong columns f wrong) (sym here) is;
    }
