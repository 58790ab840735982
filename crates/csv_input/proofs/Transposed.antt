-- The rows of columns that hold the values of records' fields.
use Rattle.std.proofs.Common.{◌≡◌, ◌<◌, ◌+◌, ℕ, suc, List, [], ◌∷◌, None, Some, length, get_or, sym, ap, subst, ◌∙◌, arith}
use Rattle.std.proofs.lemmas.List.{length-map, get_or-map}
use Rattle.std.proofs.lemmas.List.FromFn.{length-map-range_with_len, get_or-map-range_with_len}
use Rattle.scan_base.specs.declared.value.Value.TheVariants.{Null}
use Rattle.arrow_types.specs.declared.schema.Field.{Field}
use Rattle.arrays.specs.declared.layout.Layout.TheVariants as layout
use Rattle.arrays.specs.Batch.{BatchAt, row_of, rows_of}
use Rattle.arrays.specs.Column.{ColumnAt, slot_of, values_of, whole}
use Rattle.arrays.specs.TypedLayouts.{AreOfTypes, IsOfType}
use Rattle.csv_columns.specs.FieldValues.{cell_in}
use Rattle.csv_input.specs.Rows.{AreRows, IsRow}
use Rattle.csv_input.specs.inside.Chunks.{ChunkAt, Holds}
use Rattle.csv_input.specs.inside.Batches.{IsBatchOf}

-- some column
abbrev none : ColumnAt
none = whole (layout.Bools (record { validity = None; values = [] }))

slot_at : (column : ColumnAt) (k : ℕ) → k < column.len → get_or (values_of column) k Null ≡ slot_of column k
slot_at column k low = get_or-map-range_with_len (slot_of column) 0 column.len k k Null low (let z : 0 + k ≡ k = omega arith in z)

row_at : (batch : BatchAt) (k : ℕ) → k < batch.rows → get_or (rows_of batch) k [] ≡ row_of batch.columns k
row_at batch k low = get_or-map-range_with_len (row_of batch.columns) 0 batch.rows k k [] low (let z : 0 + k ≡ k = omega arith in z)

-- a row of the batch is what a record says
one_row : (chunk : ChunkAt) (columns : List Field) (batch : BatchAt) (records : List (List (List ℕ))) (k : ℕ) → IsBatchOf chunk columns batch → Holds chunk records → chunk.width ≡ length columns →
    k < chunk.rows → IsRow columns (get_or records k []) (row_of batch.columns k)
one_row chunk columns batch records k is holds wide low = record {
  long = holds.long k low ∙ wide;
  wide = length-map batch.columns (λ column. slot_of column k) ∙ is.made.many;
  each = λ j d there.
      let column = get_or batch.columns j none in
      let made = is.made.each j d none there in
      let inside : j < length batch.columns = omega (arith, there, is.made.many) in
      let slot : get_or (values_of column) k Null ≡ get_or (row_of batch.columns k) j Null =
      slot_at column k (omega (arith, low, made.long)) ∙ sym (get_or-map (λ (c : ColumnAt). slot_of c k) batch.columns j none Null inside) in
      ap (cell_in (get_or columns j d)) (holds.each k j low (omega (arith, there, wide))) ∙ made.each k low ∙ ap Some slot;
}

pub rows_are : (chunk : ChunkAt) (columns : List Field) (batch : BatchAt) (records : List (List (List ℕ))) → IsBatchOf chunk columns batch → Holds chunk records → chunk.width ≡ length columns →
    AreRows columns records (rows_of batch)
rows_are chunk columns batch records is holds wide = record {
  count = length-map-range_with_len (row_of batch.columns) 0 batch.rows ∙ is.rows ∙ sym holds.count;
  each = λ k low.
      let inside : k < chunk.rows = omega (arith, low, holds.count) in
      subst (IsRow columns (get_or records k [])) (sym (row_at batch k (omega (arith, inside, is.rows)))) (one_row chunk columns batch records k is holds wide inside);
}

-- the columns are of the types of their fields
types_are : (columns : List Field) (made : List ColumnAt) → length made ≡ length columns →
    ((k : ℕ) (d : Field) → k < length columns → IsOfType (get_or columns k d).data_type (get_or made k none).layout) → AreOfTypes columns made
types_are [] [] many each = tt
types_are [] (one ∷ made) many each = absurd (omega (arith, many))
types_are (column ∷ columns) [] many each = absurd (omega (arith, many))
types_are (column ∷ columns) (one ∷ made) many each = (
  each 0 column (omega arith),
  types_are columns made (omega (arith, many)) (λ k d low. each (suc k) d (omega (arith, low))),
)

pub batch_types : (chunk : ChunkAt) (columns : List Field) (batch : BatchAt) → IsBatchOf chunk columns batch → AreOfTypes columns batch.columns
batch_types chunk columns batch is = types_are columns batch.columns is.made.many (λ k d low. (is.made.each k d none low).typed)
