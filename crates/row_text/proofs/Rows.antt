-- The rows of batches.
use Rattle.std.proofs.Common.{◌≡◌, ℕ, suc, ◌+◌, ◌<◌, List, [], ◌∷◌, ◌++◌, All, length, map, drop, get_or, refl, sym, ap, ◌∙◌, arith}
use Rattle.std.specs.List.{enumerate_from, flat_map}
use Rattle.std.proofs.lemmas.Grind.{flat_map-append}
use Rattle.std.proofs.lemmas.List.{drop_more, length-append, length-map}
use Rattle.std.proofs.lemmas.List.FromFn.{length-map-range_with_len, get_or-map-range_with_len}
use Rattle.scan_base.specs.declared.value.Value.{Value}
use Rattle.arrow_types.specs.declared.schema.Field.{Field}
use Rattle.arrays.specs.Batch.{BatchAt, row_of, rows_of}
use Rattle.arrays.specs.Column.{ColumnAt, slot_of}
use Rattle.arrays.specs.TypedLayouts.{AreOfTypes}
use Rattle.row_text.specs.Rows.{Format, row_with, values_row}
use Rattle.row_text.proofs.Numbered.{numbered}

-- ---- a row of columns

-- the cell of a column
abbrev pub column_cell : Format → List ColumnAt → ℕ → ℕ → ColumnAt → List ℕ
column_cell format columns place number column = format.value number (length columns) (slot_of column place)

cells_are : (f : ℕ → Value → List ℕ) (number : ℕ) (columns : List ColumnAt) (place : ℕ)
    → map (λ (i, value). f i value) (enumerate_from number (row_of columns place)) ≡ numbered (λ i column. f i (slot_of column place)) number columns
cells_are f number [] place = refl
cells_are f number (column ∷ columns) place = ap (λ (l : List (List ℕ)). f number (slot_of column place) ∷ l) (cells_are f (number + 1) columns place)

pub row_is : (format : Format) (columns : List ColumnAt) (place : ℕ)
    → values_row format (row_of columns place) ≡ row_with format (numbered (column_cell format columns place) 0 columns)
row_is format columns place =
    ap (λ (count : ℕ). row_with format (map (λ (i, value). format.value i count value) (enumerate_from 0 (row_of columns place))))
    (length-map columns (λ (column : ColumnAt). slot_of column place))
    ∙ ap (row_with format) (cells_are (λ i value. format.value i (length columns) value) 0 columns place)

-- ---- the rows of a batch

pub rows_long : (batch : BatchAt) → length (rows_of batch) ≡ batch.rows
rows_long batch = length-map-range_with_len (row_of batch.columns) 0 batch.rows

pub row_at : (batch : BatchAt) (place : ℕ) → place < batch.rows → row_of batch.columns place ≡ get_or (rows_of batch) place (row_of batch.columns place)
row_at batch place inside =
    sym (get_or-map-range_with_len (row_of batch.columns) 0 batch.rows place place (row_of batch.columns place) inside (omega arith))

-- as they are written
abbrev pub batch_rows : Format → BatchAt → List ℕ
batch_rows format batch = flat_map (values_row format) (rows_of batch)

pub all_rows : (format : Format) (batches : List BatchAt) → flat_map (batch_rows format) batches ≡ flat_map (values_row format) (flat_map rows_of batches)
all_rows format [] = refl
all_rows format (batch ∷ batches) =
    ap (λ (l : List ℕ). batch_rows format batch ++ l) (all_rows format batches)
    ∙ sym (flat_map-append (values_row format) (rows_of batch) (flat_map rows_of batches))

-- the rows of one batch more are counted
pub rows_more : (batches : List BatchAt) (i count next total : ℕ) (batch : BatchAt) → i < length batches → batch ≡ get_or batches i batch → next ≡ count + batch.rows
    → count + length (flat_map rows_of (drop i batches)) ≡ total → next + length (flat_map rows_of (drop (i + 1) batches)) ≡ total
rows_more batches i count next total batch inside at is all =
    let split : length (flat_map rows_of (drop i batches)) ≡ batch.rows + length (flat_map rows_of (drop (i + 1) batches)) =
    ap (λ (l : List BatchAt). length (flat_map rows_of l)) (drop_more batches i batch inside ∙ ap (λ (b : BatchAt). b ∷ drop (i + 1) batches) (sym at))
    ∙ length-append (rows_of batch) (flat_map rows_of (drop (i + 1) batches))
    ∙ ap (λ (n : ℕ). n + length (flat_map rows_of (drop (i + 1) batches))) (rows_long batch) in
    omega (arith, split, is, all)

-- columns of the types of fields are as many
typed_wide : (fields : List Field) (columns : List ColumnAt) → AreOfTypes fields columns → length columns ≡ length fields
typed_wide [] [] typed = refl
typed_wide [] (column ∷ columns) typed = absurd typed
typed_wide (field ∷ fields) [] typed = absurd typed
typed_wide (field ∷ fields) (column ∷ columns) typed = ap (λ (n : ℕ). suc n) (typed_wide fields columns typed.1)

pub all_wide : (fields : List Field) (batches : List BatchAt) → All (λ batch. AreOfTypes fields batch.columns) batches → All (λ batch. length batch.columns ≡ length fields) batches
all_wide fields batches typed = λ k d inside. typed_wide fields (get_or batches k d).columns (typed k d inside)
