-- What is said of the slots of a dictionary.
use Rattle.std.proofs.Common.{◌≡◌, ℕ, ◌+◌, ◌<◌, ◌≤◌, ◌==◌, Bool, true, false, ◌||◌, ◌&&◌, not, if◌then◌else◌, List, [], ◌∷◌, ◌++◌, length, map, get_or, take, ℤ, pos, negsuc, nat_abs, Option, Some, None, is_some, option_map, unwrap_or, slice_get, inl, inr, refl, sym, ap, ◌∙◌, arith, add-one}
use Rattle.std.specs.List.{list_all}
use Rattle.std.proofs.Math.Seq.{take-suc}
use Rattle.std.proofs.lemmas.Bool.{cases_lt, eqb-true, and_parts}
use Rattle.std.proofs.lemmas.List.{get_or_default, get_or-map}
use Rattle.std.proofs.lemmas.Option.{slice_get-get_or, slice_get_past}
use Rattle.scan_base.specs.declared.truth.Truth.{Truth}
use Rattle.scan_base.specs.declared.truth.Truth.TheVariants.{True, False, Unknown}
use Rattle.scan_base.specs.declared.value.Value.{Value}
use Rattle.scan_base.specs.declared.value.Value.TheVariants.{Null}
use Rattle.scan_base.specs.declared.comparison.Comparison.TheVariants.{Equal}
use Rattle.scan_base.specs.declared.predicate.Operand.{Operand}
use Rattle.scan_base.specs.declared.predicate.Operand.TheVariants.{Column, Literal}
use Rattle.scan_base.specs.Comparison.{compared, nullness}
use Rattle.scan_base.specs.Predicate.{Pred, conjunction, disjunction, negation, truth_test, comparing, between, membership, null_test, constant, any_equal, operand_names, operand_value, names_only, truth_of, within}
use Rattle.scan_base.specs.Truth.{truth_and, truth_or, truth_not, truth_is, negated_if, truth_from}
use Rattle.arrow_types.specs.DataType.{is_signed}
use Rattle.arrays.specs.declared.layout.Layout.TheVariants.{Indices}
use Rattle.arrays.specs.Dictionary.{entry_at}
use Rattle.arrays.specs.Indices.{IndicesAt, AreIndices, index_stands}
use Rattle.arrays.specs.Layout.{layout_slot}
use Rattle.arrays.specs.Number.{integer_at}
use Rattle.arrays.specs.Validity.{is_valid}
use Rattle.kernels.specs.Codes.{code_at, is_among}
use Rattle.kernels.specs.Entries.{truth_at, truths_at, unless_known, AreTrueAt, by_entry}
use Rattle.kernels.specs.Ranges.{where_known}

-- ---- a predicate that names one column alone

operand_alone : (number : ℕ) (cell : ℕ → Value) (operand : Operand ℕ) → operand_names (λ column. column == number) operand ≡ true →
    operand_value cell operand ≡ operand_value (λ (column : ℕ). cell number) operand
operand_alone number cell (Column column) named = ap cell (eqb-true column number named)
operand_alone number cell (Literal value) named = refl

items_alone : (number : ℕ) (cell : ℕ → Value) (value : Value) (items : List (Operand ℕ)) → list_all (operand_names (λ column. column == number)) items ≡ true →
    any_equal cell value items ≡ any_equal (λ (column : ℕ). cell number) value items
items_alone number cell value [] named = refl
items_alone number cell value (item ∷ items) named =
    let both = and_parts (operand_names (λ column. column == number) item) (list_all (operand_names (λ column. column == number)) items) named in
    ap (λ v. truth_or (compared Equal value v) (any_equal cell value items)) (operand_alone number cell item both.0)
    ∙ ap (truth_or (compared Equal value (operand_value (λ (column : ℕ). cell number) item))) (items_alone number cell value items both.1)

-- its truth is that where each column has the value of this one
pub alone_truth : (number : ℕ) (cell : ℕ → Value) (predicate : Pred ℕ) → names_only (λ column. column == number) predicate ≡ true → truth_of cell predicate ≡ truth_at predicate (cell number)
alone_truth number cell (conjunction p q) named =
    let both = and_parts (names_only (λ column. column == number) p) (names_only (λ column. column == number) q) named in
    ap (λ t. truth_and t (truth_of cell q)) (alone_truth number cell p both.0) ∙ ap (truth_and (truth_at p (cell number))) (alone_truth number cell q both.1)
alone_truth number cell (disjunction p q) named =
    let both = and_parts (names_only (λ column. column == number) p) (names_only (λ column. column == number) q) named in
    ap (λ t. truth_or t (truth_of cell q)) (alone_truth number cell p both.0) ∙ ap (truth_or (truth_at p (cell number))) (alone_truth number cell q both.1)
alone_truth number cell (negation p) named = ap truth_not (alone_truth number cell p named)
alone_truth number cell (truth_test negated tested p) named = ap (λ t. negated_if negated (truth_is t tested)) (alone_truth number cell p named)
alone_truth number cell (comparing comparison a b) named =
    let both = and_parts (operand_names (λ column. column == number) a) (operand_names (λ column. column == number) b) named in
    ap (λ v. compared comparison v (operand_value cell b)) (operand_alone number cell a both.0)
    ∙ ap (compared comparison (operand_value (λ (column : ℕ). cell number) a)) (operand_alone number cell b both.1)
alone_truth number cell (between negated a low high) named =
    let both = and_parts (operand_names (λ column. column == number) a) (operand_names (λ column. column == number) low && operand_names (λ column. column == number) high) named in
    let ends = and_parts (operand_names (λ column. column == number) low) (operand_names (λ column. column == number) high) both.1 in
    ap (λ v. negated_if negated (within v (operand_value cell low) (operand_value cell high))) (operand_alone number cell a both.0)
    ∙ ap (λ v. negated_if negated (within (operand_value (λ (column : ℕ). cell number) a) v (operand_value cell high))) (operand_alone number cell low ends.0)
    ∙ ap (λ v. negated_if negated (within (operand_value (λ (column : ℕ). cell number) a) (operand_value (λ (column : ℕ). cell number) low) v)) (operand_alone number cell high ends.1)
alone_truth number cell (membership negated a items) named =
    let both = and_parts (operand_names (λ column. column == number) a) (list_all (operand_names (λ column. column == number)) items) named in
    ap (λ v. negated_if negated (any_equal cell v items)) (operand_alone number cell a both.0)
    ∙ ap (negated_if negated) (items_alone number cell (operand_value (λ (column : ℕ). cell number) a) items both.1)
alone_truth number cell (null_test negated a) named = ap (λ v. negated_if negated (nullness v)) (operand_alone number cell a named)
alone_truth number cell (constant truth) named = refl

operand_any : (passes : ℕ → Bool) → ((column : ℕ) → passes column ≡ true) → (operand : Operand ℕ) → operand_names passes operand ≡ true
operand_any passes all (Column column) = all column
operand_any passes all (Literal value) = refl

items_any : (passes : ℕ → Bool) → ((column : ℕ) → passes column ≡ true) → (items : List (Operand ℕ)) → list_all (operand_names passes) items ≡ true
items_any passes all [] = refl
items_any passes all (item ∷ items) = rw (operand_any passes all item) (items_any passes all items)

-- each column passes
pub names_any : (passes : ℕ → Bool) → ((column : ℕ) → passes column ≡ true) → (predicate : Pred ℕ) → names_only passes predicate ≡ true
names_any passes all (conjunction p q) = rw (names_any passes all p) (names_any passes all q)
names_any passes all (disjunction p q) = rw (names_any passes all p) (names_any passes all q)
names_any passes all (negation p) = names_any passes all p
names_any passes all (truth_test negated tested p) = names_any passes all p
names_any passes all (comparing comparison a b) = rw (operand_any passes all a) (operand_any passes all b)
names_any passes all (between negated a low high) = rw (operand_any passes all a, operand_any passes all low) (operand_any passes all high)
names_any passes all (membership negated a items) = rw (operand_any passes all a) (items_any passes all items)
names_any passes all (null_test negated a) = operand_any passes all a
names_any passes all (constant truth) = refl

-- ---- the truths of entries, one by one

pub entries_more : (predicate : Pred ℕ) (values : List Value) (truths : List Truth) (i : ℕ) (value : Value) (truth : Truth) → i < length values → truths ≡ truths_at predicate (take i values) →
    value ≡ get_or values i Null → truth ≡ truth_at predicate value → truths ++ truth ∷ [] ≡ truths_at predicate (take (i + 1) values)
entries_more predicate values truths i value truth low had is said =
    ap (λ l. l ++ truth ∷ []) had
    ∙ ap (λ t. truths_at predicate (take i values) ++ t ∷ []) (said ∙ ap (truth_at predicate) is)
    ∙ sym (map_push (truth_at predicate) (take i values) (get_or values i Null))
    ∙ ap (map (truth_at predicate)) (sym (take-suc values i Null low) ∙ ap (λ n. take n values) (sym (add-one i)))
  where
    map_push : {X Y : Type 0} (f : X → Y) (xs : List X) (x : X) → map f (xs ++ x ∷ []) ≡ map f xs ++ f x ∷ []
    map_push f [] x = refl
    map_push f (y ∷ xs) x = ap (λ r. f y ∷ r) (map_push f xs x)

-- a value that is read, or NULL
pub value_read : {X : Type 0} (value_of : X → Value) (found : Option X) (otherwise : X) (values : List Value) (i : ℕ) → i < length values → option_map value_of found ≡ slice_get values i →
    value_of (unwrap_or found otherwise) ≡ get_or values i Null
value_read value_of (Some x) otherwise values i low is = some_same (value_of x) (get_or values i Null) (is ∙ slice_get-get_or values i Null low)
  where
    some_same : (x y : Value) → Some x ≡ Some y → x ≡ y
    some_same x y e = cc
value_read value_of None otherwise values i low is = none_some (get_or values i Null) (is ∙ slice_get-get_or values i Null low)
  where
    none_some : {P : Type 0} (y : Value) → None ≡ Some y → P
    none_some y e = cc

-- ---- the indices of those that are true

-- the indices of those of the first `i` entries that are true
pub record AreTrueUpTo (truths : List Truth) (i : ℕ) (indices : List ℕ) : Type 0 where
  pub done : (index : ℕ) → index < i → get_or truths index Unknown ≡ truth_from (is_among indices index)
  pub left : (index : ℕ) → i ≤ index → truth_from (is_among indices index) ≡ False

-- ---- slots by their entries

one_code : (signed low : Bool) (code other n : ℕ) → (if signed then (if low then pos code else negsuc other) else pos code) ≡ pos n → code ≡ n
one_code true true code other n e = ap nat_abs e
one_code true false code other n e = absurd cc
one_code false low code other n e = ap nat_abs e

entry_found : (predicate : Pred ℕ) (values : List Value) (index : ℤ) (code : ℕ) (otherwise : Truth) → is_some (entry_at values index) ≡ true → ((n : ℕ) → index ≡ pos n → code ≡ n) →
    (code < length values) × (get_or (truths_at predicate values) code otherwise ≡ truth_at predicate (unwrap_or (entry_at values index) Null))
entry_found predicate values (negsuc n) code otherwise some is = absurd cc
entry_found predicate values (pos n) code otherwise some is =
    let same : code ≡ n = is n refl in
    elim (cases_lt n (length values)) [
      | inl low ↦ (
        omega (arith, same, low),
        ap (λ k. get_or (truths_at predicate values) k otherwise) same
            ∙ get_or-map (truth_at predicate) values n Null otherwise low
            ∙ ap (λ (o : Option Value). truth_at predicate (unwrap_or o Null)) (sym (slice_get-get_or values n Null low)),
      )
      | inr high ↦ absurd (past (ap is_some (sym (slice_get_past values n high)) ∙ some))
    ]
  where
    past : false ≡ true → ⊥
    past e = cc

valid_stands : (valid some : Bool) → valid ≡ true → (not valid || some) ≡ true → some ≡ true
valid_stands true some v e = e
valid_stands false some v e = absurd cc

entry_value : (values : List Value) (index : ℤ) (code : ℕ) → is_some (entry_at values index) ≡ true → ((n : ℕ) → index ≡ pos n → code ≡ n) →
    unwrap_or (entry_at values index) Null ≡ get_or values code Null
entry_value values (negsuc n) code some is = absurd cc
entry_value values (pos n) code some is = elim (cases_lt n (length values)) [
  | inl low ↦ ap (λ (o : Option Value). unwrap_or o Null) (slice_get-get_or values n Null low) ∙ ap (λ k. get_or values k Null) (sym (is n refl))
  | inr high ↦ absurd (past (ap is_some (sym (slice_get_past values n high)) ∙ some))
]
  where
    past : false ≡ true → ⊥
    past e = cc

-- the code of a valid slot is that of a value, and the slot has this value
pub slot_by_code : (cells : IndicesAt) (place : ℕ) → index_stands cells place ≡ true → is_valid cells.validity place ≡ true →
    (code_at cells.index cells.values place < length cells.dictionary) × (layout_slot (Indices cells) place ≡ get_or cells.dictionary (code_at cells.index cells.values place) Null)
slot_by_code cells place stands valid =
    let some = valid_stands (is_valid cells.validity place) (is_some (entry_at cells.dictionary (integer_at cells.index cells.values place))) valid stands in
    let is = λ (n : ℕ) (e : integer_at cells.index cells.values place ≡ pos n). one_code (is_signed cells.index) _ (code_at cells.index cells.values place) _ n e in (
      (entry_found (null_test false (Column 0)) cells.dictionary (integer_at cells.index cells.values place) (code_at cells.index cells.values place) Unknown some is).0,
      ap (λ (b : Bool). if b then unwrap_or (entry_at cells.dictionary (integer_at cells.index cells.values place)) Null else Null) valid
          ∙ entry_value cells.dictionary (integer_at cells.index cells.values place) (code_at cells.index cells.values place) some is,
    )

-- the truth of a slot
pub slot_by_entry : (predicate : Pred ℕ) (cells : IndicesAt) (place : ℕ) → AreIndices cells → place < cells.len →
    by_entry (truths_at predicate cells.dictionary) (truth_at predicate Null) (is_valid cells.validity place) (code_at cells.index cells.values place) ≡ truth_at predicate (layout_slot (Indices cells) place)
slot_by_entry predicate cells place are low = by_valid (is_valid cells.validity place) (λ valid.
    let some = valid_stands (is_valid cells.validity place) (is_some (entry_at cells.dictionary (integer_at cells.index cells.values place))) valid (are.indices place low) in
    (entry_found predicate cells.dictionary (integer_at cells.index cells.values place) (code_at cells.index cells.values place) (truth_at predicate Null) some
    (λ n e. one_code (is_signed cells.index) _ (code_at cells.index cells.values place) _ n e)).1)
  where
    by_valid : (valid : Bool) → (valid ≡ true → get_or (truths_at predicate cells.dictionary) (code_at cells.index cells.values place) (truth_at predicate Null) ≡ truth_at predicate (unwrap_or (entry_at cells.dictionary (integer_at cells.index cells.values place)) Null)) →
        by_entry (truths_at predicate cells.dictionary) (truth_at predicate Null) valid (code_at cells.index cells.values place) ≡ truth_at predicate (if valid then unwrap_or (entry_at cells.dictionary (integer_at cells.index cells.values place)) Null else Null)
    by_valid true e = e refl
    by_valid false e = refl

-- where the true entries are few and all are known
pub slot_among : (truths : List Truth) (of_null : Truth) (indices : List ℕ) (valid : Bool) (code : ℕ) → AreTrueAt truths indices → (valid ≡ true → code < length truths) →
    unless_known of_null (where_known valid (is_among indices code)) ≡ by_entry truths of_null valid code
slot_among truths of_null indices true code are low =
    stays of_null (is_among indices code) ∙ sym (are code (low refl)) ∙ get_or_default truths code Unknown of_null (low refl)
  where
    stays : (otherwise : Truth) (b : Bool) → unless_known otherwise (truth_from b) ≡ truth_from b
    stays otherwise true = refl
    stays otherwise false = refl
slot_among truths of_null indices false code are low = refl

pub map_both : {X Y Z : Type 0} (g : Y → Z) (f : X → Y) (xs : List X) → map g (map f xs) ≡ map (λ x. g (f x)) xs
map_both g f [] = refl
map_both g f (x ∷ xs) = ap (λ r. g (f x) ∷ r) (map_both g f xs)

-- a null that is unknown, one that is false, and one that is true
pub null_unknown : (xs : List Truth) → xs ≡ map (unless_known Unknown) xs
null_unknown [] = refl
null_unknown (True ∷ xs) = ap (λ r. True ∷ r) (null_unknown xs)
null_unknown (False ∷ xs) = ap (λ r. False ∷ r) (null_unknown xs)
null_unknown (Unknown ∷ xs) = ap (λ r. Unknown ∷ r) (null_unknown xs)

pub null_false : (xs : List Truth) → map (λ truth. truth_is truth True) xs ≡ map (unless_known False) xs
null_false [] = refl
null_false (True ∷ xs) = ap (λ r. True ∷ r) (null_false xs)
null_false (False ∷ xs) = ap (λ r. False ∷ r) (null_false xs)
null_false (Unknown ∷ xs) = ap (λ r. False ∷ r) (null_false xs)

pub null_true : (xs : List Truth) → map truth_not (map (λ truth. truth_is truth True) (map truth_not xs)) ≡ map (unless_known True) xs
null_true [] = refl
null_true (True ∷ xs) = ap (λ r. True ∷ r) (null_true xs)
null_true (False ∷ xs) = ap (λ r. False ∷ r) (null_true xs)
null_true (Unknown ∷ xs) = ap (λ r. True ∷ r) (null_true xs)
