-- The widths of columns, batch by batch.
use Rattle.std.proofs.Common.{◌≡◌, ℕ, zero, suc, ◌+◌, ◌<◌, List, [], ◌∷◌, ◌++◌, length, map, drop, get_or, max, refl, sym, ap, ◌∙◌, append_assoc, arith}
use Rattle.std.specs.List.{flat_map, range_with_len}
use Rattle.std.proofs.lemmas.List.{map-append, drop_more}
use Rattle.std.proofs.lemmas.List.FromFn.{length-map-range_with_len, get_or-map-range_with_len}
use Rattle.scan_base.specs.declared.value.Value.{Value}
use Rattle.scan_base.specs.declared.value.Value.TheVariants.{Null}
use Rattle.arrow_types.specs.declared.data_type.DataType.{DataType}
use Rattle.arrow_types.specs.declared.schema.Field.{Field}
use Rattle.arrays.specs.Batch.{BatchAt, row_of, rows_of}
use Rattle.arrays.specs.Column.{ColumnAt, slot_of, values_of}
use Rattle.row_text.specs.TableCells.{values_of_column, column_width, greatest, value_width}
use Rattle.row_text.specs.TableCells.{widths_from}

-- the greatest of two lists, one after the other
pub greatest_append : (n : ℕ) (xs ys : List ℕ) → greatest n (xs ++ ys) ≡ greatest (greatest n xs) ys
greatest_append n [] ys = refl
greatest_append n (x ∷ xs) ys = greatest_append (max n x) xs ys

-- one value more is looked at
pub value_more : (f : Value → ℕ) (values : List Value) (i widest next start : ℕ) (value : Value) → i < length values → value ≡ get_or values i value
    → next ≡ max widest (f value) → greatest widest (map f (drop i values)) ≡ start → greatest next (map f (drop (i + 1) values)) ≡ start
value_more f values i widest next start value inside at is all =
    ap (λ (n : ℕ). greatest n (map f (drop (i + 1) values))) is
    ∙ ap (λ (v : Value). greatest widest (map f (v ∷ drop (i + 1) values))) at
    ∙ ap (λ (l : List Value). greatest widest (map f l)) (sym (drop_more values i value inside))
    ∙ all

pub values_long : (column : ColumnAt) → length (values_of column) ≡ column.len
values_long column = length-map-range_with_len (slot_of column) 0 column.len

pub slot_at : (column : ColumnAt) (place : ℕ) → place < column.len → slot_of column place ≡ get_or (values_of column) place (slot_of column place)
slot_at column place inside = sym (get_or-map-range_with_len (slot_of column) 0 column.len place place (slot_of column place) inside (omega arith))

-- a value in a row of columns
in_row : (columns : List ColumnAt) (place number : ℕ) (column : ColumnAt) → number < length columns → column ≡ get_or columns number column
    → get_or (row_of columns place) number Null ≡ slot_of column place
in_row [] place number column inside is = absurd (omega (arith, inside))
in_row (first ∷ columns) place zero column inside is = ap (λ (one : ColumnAt). slot_of one place) (sym is)
in_row (first ∷ columns) place (suc number) column inside is = in_row columns place number column (omega (arith, inside)) is

in_rows : (columns : List ColumnAt) (number : ℕ) (column : ColumnAt) (places : List ℕ) → number < length columns → column ≡ get_or columns number column
    → values_of_column (map (row_of columns) places) number ≡ map (slot_of column) places
in_rows columns number column [] inside is = refl
in_rows columns number column (place ∷ places) inside is =
    ap (λ (v : Value). v ∷ values_of_column (map (row_of columns) places) number) (in_row columns place number column inside is)
    ∙ ap (λ (l : List Value). slot_of column place ∷ l) (in_rows columns number column places inside is)

-- the values of a column of a batch
column_values : (batch : BatchAt) (number : ℕ) (column : ColumnAt) → number < length batch.columns → column ≡ get_or batch.columns number column → column.len ≡ batch.rows
    → values_of_column (rows_of batch) number ≡ values_of column
column_values batch number column inside is long =
    ap (λ (n : ℕ). values_of_column (map (row_of batch.columns) (range_with_len 0 n)) number) (sym long)
    ∙ in_rows batch.columns number column (range_with_len 0 column.len) inside is

column_append : (xs ys : List (List Value)) (number : ℕ) → values_of_column (xs ++ ys) number ≡ values_of_column xs number ++ values_of_column ys number
column_append xs ys number = map-append (λ (row : List Value). get_or row number Null) xs ys

-- how wide the values of a column of batches are
abbrev pub batches_widths : DataType → ℕ → List BatchAt → List ℕ
batches_widths data_type number batches = map (value_width data_type) (values_of_column (flat_map rows_of batches) number)

-- those of the first of them, and of the others
pub first_batch : (data_type : DataType) (number : ℕ) (batch : BatchAt) (batches : List BatchAt) (column : ColumnAt)
    → number < length batch.columns → column ≡ get_or batch.columns number column → column.len ≡ batch.rows
    → batches_widths data_type number (batch ∷ batches) ≡ map (value_width data_type) (values_of column) ++ batches_widths data_type number batches
first_batch data_type number batch batches column inside is long =
    ap (map (value_width data_type)) (column_append (rows_of batch) (flat_map rows_of batches) number)
    ∙ map-append (value_width data_type) (values_of_column (rows_of batch) number) (values_of_column (flat_map rows_of batches) number)
    ∙ ap (λ (l : List Value). map (value_width data_type) l ++ batches_widths data_type number batches) (column_values batch number column inside is long)

-- one batch more is looked at
pub batch_more : (data_type : DataType) (number start widest next i : ℕ) (batches : List BatchAt) (batch : BatchAt) (column : ColumnAt)
    → i < length batches → batch ≡ get_or batches i batch
    → number < length batch.columns → column ≡ get_or batch.columns number column → column.len ≡ batch.rows
    → next ≡ greatest widest (map (value_width data_type) (values_of column))
    → greatest widest (batches_widths data_type number (drop i batches)) ≡ start
    → greatest next (batches_widths data_type number (drop (i + 1) batches)) ≡ start
batch_more data_type number start widest next i batches batch column inside at within is long widened all =
    ap (λ (n : ℕ). greatest n (batches_widths data_type number (drop (i + 1) batches))) widened
    ∙ sym (greatest_append widest (map (value_width data_type) (values_of column)) (batches_widths data_type number (drop (i + 1) batches)))
    ∙ ap (greatest widest) (sym (first_batch data_type number batch (drop (i + 1) batches) column within is long))
    ∙ ap (λ (one : BatchAt). greatest widest (batches_widths data_type number (one ∷ drop (i + 1) batches))) at
    ∙ ap (λ (l : List BatchAt). greatest widest (batches_widths data_type number l)) (sym (drop_more batches i batch inside))
    ∙ all

-- the width of one column more
pub width_more : (fields : List Field) (i : ℕ) (field : Field) (rows : List (List Value)) (made new all : List ℕ) (width : ℕ) → i < length fields → field ≡ get_or fields i field
    → new ≡ made ++ width ∷ [] → width ≡ column_width field (values_of_column rows i) → made ++ widths_from (drop i fields) i rows ≡ all → new ++ widths_from (drop (i + 1) fields) (i + 1) rows ≡ all
width_more fields i field rows made new all width inside at is wide so_far =
    let rest = widths_from (drop (i + 1) fields) (i + 1) rows in
    ap (λ (l : List ℕ). l ++ rest) is
    ∙ append_assoc made (width ∷ []) rest
    ∙ ap (λ (n : ℕ). made ++ n ∷ rest) wide
    ∙ ap (λ (l : List Field). made ++ widths_from l i rows) (ap (λ (f : Field). f ∷ drop (i + 1) fields) at ∙ sym (drop_more fields i field inside))
    ∙ so_far
