-- Columns that are answered one by one.
use Rattle.std.proofs.Common.{◌≡◌, ◌≤◌, ◌<◌, ℕ, zero, suc, ◌+◌, List, [], ◌∷◌, ◌++◌, length, map, take, get_or, refl, sym, ap, ◌∙◌, arith, append_assoc, append-nil}
use Rattle.std.specs.List.{range_with_len}
use Rattle.std.proofs.lemmas.List.FromFn.{length-map-range_with_len, get_or-map-range_with_len}
use Rattle.scan_base.specs.declared.value.Value.{Value}
use Rattle.scan_base.specs.declared.value.Value.TheVariants.{Null}
use Rattle.arrow_types.specs.declared.data_type.DataType.{DataType}
use Rattle.arrow_types.specs.declared.data_type.DataType.TheVariants.{Number, Utf8, Bool, Dictionary}
use Rattle.arrow_types.specs.declared.schema.Field.{Field}
use Rattle.arrays.specs.Column.{ColumnAt, slot_of, values_of}
use Rattle.arrays.specs.Batch.{AreLong, row_of, rows_of}
use Rattle.dictionary_answers.specs.Answer.{IsAnswered, IsCodable, AreAnswered, AreCodable, column_bytes, column_dictionary, coded_bytes, dictionaries_of}

-- one column more
pub answered_more : (fields : List Field) (columns made : List ColumnAt) (field : Field) (column new : ColumnAt) → AreAnswered fields columns made → IsAnswered field.data_type column new →
    AreAnswered (fields ++ field ∷ []) (columns ++ column ∷ []) (made ++ new ∷ [])
answered_more [] [] [] field column new are is = (is, tt)
answered_more (f ∷ fields) (c ∷ columns) (m ∷ made) field column new are is = (are.0, answered_more fields columns made field column new are.1 is)
answered_more [] [] (m ∷ made) field column new are is = absurd are
answered_more [] (c ∷ columns) made field column new are is = absurd are
answered_more (f ∷ fields) [] made field column new are is = absurd are
answered_more (f ∷ fields) (c ∷ columns) [] field column new are is = absurd are

-- there is a field for each column
pub codable_long : (fields : List Field) (columns : List ColumnAt) → AreCodable fields columns → length fields ≡ length columns
codable_long [] [] are = refl
codable_long (field ∷ fields) (column ∷ columns) are = ap (λ (n : ℕ). suc n) (codable_long fields columns are.1)
codable_long [] (column ∷ columns) are = absurd are
codable_long (field ∷ fields) [] are = absurd are

pub codable_at : (fields : List Field) (columns : List ColumnAt) (k : ℕ) (d : Field) (e : ColumnAt) → AreCodable fields columns → k < length columns →
    IsCodable (get_or fields k d).data_type (get_or columns k e)
codable_at [] [] k d e are low = absurd (omega arith)
codable_at (field ∷ fields) (column ∷ columns) zero d e are low = are.0
codable_at (field ∷ fields) (column ∷ columns) (suc k) d e are low = codable_at fields columns k d e are.1 (omega arith)
codable_at [] (column ∷ columns) k d e are low = absurd are
codable_at (field ∷ fields) [] k d e are low = absurd are

-- the bytes of one column more
pub bytes_and : (fields : List Field) (columns : List ColumnAt) (field : Field) (column : ColumnAt) → length fields ≡ length columns →
    coded_bytes (fields ++ field ∷ []) (columns ++ column ∷ []) ≡ coded_bytes fields columns + column_bytes field.data_type column
bytes_and [] [] field column long = omega arith
bytes_and (f ∷ fields) (c ∷ columns) field column long = omega (arith, bytes_and fields columns field column (omega (arith, long)))
bytes_and [] (c ∷ columns) field column long = absurd (omega (arith, long))
bytes_and (f ∷ fields) [] field column long = absurd (omega (arith, long))

-- the dictionaries of one column more
abbrev pub own_dictionary : ℕ → Field → ColumnAt → List (ℕ × List Value)
own_dictionary number field column = map (λ values. (number, values)) (column_dictionary field.data_type column)

pub dictionaries_and : (number place : ℕ) (fields : List Field) (columns : List ColumnAt) (field : Field) (column : ColumnAt) →
    length fields ≡ length columns → number + length fields ≡ place →
    dictionaries_of number (fields ++ field ∷ []) (columns ++ column ∷ []) ≡ dictionaries_of number fields columns ++ own_dictionary place field column
dictionaries_and number place [] [] field column long at =
    append-nil (own_dictionary number field column) ∙ ap (λ (n : ℕ). own_dictionary n field column) (omega (arith, at))
dictionaries_and number place (f ∷ fields) (c ∷ columns) field column long at =
    ap (λ (more : List (ℕ × List Value)). own_dictionary number f c ++ more)
    (dictionaries_and (number + 1) place fields columns field column (omega (arith, long)) (omega (arith, at)))
    ∙ sym (append_assoc (own_dictionary number f c) (dictionaries_of (number + 1) fields columns) (own_dictionary place field column))
dictionaries_and number place [] (c ∷ columns) field column long at = absurd (omega (arith, long))
dictionaries_and number place (f ∷ fields) [] field column long at = absurd (omega (arith, long))

-- the first columns have no more than all
pub bytes_front : (n : ℕ) (fields : List Field) (columns : List ColumnAt) → coded_bytes (take n fields) (take n columns) ≤ coded_bytes fields columns
bytes_front zero fields columns = omega arith
bytes_front (suc n) [] columns = omega arith
bytes_front (suc n) (field ∷ fields) [] = omega arith
bytes_front (suc n) (field ∷ fields) (column ∷ columns) = omega (arith, bytes_front n fields columns)

-- columns of the same values are as long
long_as : (made column : ColumnAt) → values_of made ≡ values_of column → made.len ≡ column.len
long_as made column same =
    sym (length-map-range_with_len (slot_of made) 0 made.len) ∙ ap length same ∙ length-map-range_with_len (slot_of column) 0 column.len

-- an answered column has the values of the column
pub answered_values : (data_type : DataType) (column made : ColumnAt) → IsAnswered data_type column made → values_of made ≡ values_of column
answered_values (Dictionary encoding) column made is = is.0
answered_values (Number kind) column made is = ap values_of is
answered_values Utf8 column made is = ap values_of is
answered_values Bool column made is = ap values_of is

pub answered_long : (fields : List Field) (columns made : List ColumnAt) (rows : ℕ) → AreAnswered fields columns made → AreLong rows columns → AreLong rows made
answered_long [] [] [] rows are long = long
answered_long (field ∷ fields) (column ∷ columns) (m ∷ made) rows are long =
    by (long_as m column (answered_values field.data_type column m are.0) ∙ long 0 column (omega arith))
    (answered_long fields columns made rows are.1 (λ j e under. long (suc j) e (omega arith)))
  where
    by : m.len ≡ rows → AreLong rows made → (k : ℕ) (d : ColumnAt) → k < length (m ∷ made) → (get_or (m ∷ made) k d).len ≡ rows
    by first rest zero d low = first
    by first rest (suc k) d low = rest k d (omega arith)
answered_long [] [] (m ∷ made) rows are long = absurd are
answered_long [] (column ∷ columns) made rows are long = absurd are
answered_long (field ∷ fields) [] made rows are long = absurd are
answered_long (field ∷ fields) (column ∷ columns) [] rows are long = absurd are

-- a slot of columns of the same values
same_slot : (made column : ColumnAt) (j : ℕ) → values_of made ≡ values_of column → j < column.len → slot_of made j ≡ slot_of column j
same_slot made column j same low =
    let long = long_as made column same in
    sym (get_or-map-range_with_len (slot_of made) 0 made.len j j Null (omega (arith, long, low)) (omega arith))
    ∙ ap (λ (values : List Value). get_or values j Null) same
    ∙ get_or-map-range_with_len (slot_of column) 0 column.len j j Null low (omega arith)

same_row : (fields : List Field) (columns made : List ColumnAt) (rows j : ℕ) → AreAnswered fields columns made → AreLong rows columns → j < rows → row_of made j ≡ row_of columns j
same_row [] [] [] rows j are long low = refl
same_row (field ∷ fields) (column ∷ columns) (m ∷ made) rows j are long low =
    let is = long 0 column (omega arith) in
    rw (
      same_slot m column j (answered_values field.data_type column m are.0) (omega (arith, is, low)),
      same_row fields columns made rows j are.1 (λ i e under. long (suc i) e (omega arith)) low,
    ) refl
same_row [] [] (m ∷ made) rows j are long low = absurd are
same_row [] (column ∷ columns) made rows j are long low = absurd are
same_row (field ∷ fields) [] made rows j are long low = absurd are
same_row (field ∷ fields) (column ∷ columns) [] rows j are long low = absurd are

same_maps : {A : Type 0} (f g : ℕ → A) (a n : ℕ) → ((k : ℕ) → k < n → f (a + k) ≡ g (a + k)) → map f (range_with_len a n) ≡ map g (range_with_len a n)
same_maps f g a zero each = refl
same_maps f g a (suc n) each =
    let z : a + 0 ≡ a = omega arith in
    let first : f a ≡ g a = rw z at (each 0 (omega arith)) in
    rw (first, same_maps f g (a + 1) n (λ k low. let e : (a + 1) + k ≡ a + suc k = omega arith in rw e (each (suc k) (omega arith)))) refl

-- answered columns hold the same rows
pub same_rows : (fields : List Field) (columns made : List ColumnAt) (rows : ℕ) → AreAnswered fields columns made → AreLong rows columns →
    rows_of (record { columns = made; rows = rows }) ≡ rows_of (record { columns = columns; rows = rows })
same_rows fields columns made rows are long =
    same_maps (row_of made) (row_of columns) 0 rows (λ k low. let z : 0 + k ≡ k = omega arith in rw z (same_row fields columns made rows k are long low))
