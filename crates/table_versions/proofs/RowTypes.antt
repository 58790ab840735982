-- The rows of batches have values of their columns' types.
use Rattle.std.proofs.Common.{◌≡◌, ◌<◌, ℕ, List, [], ◌∷◌, sym, subst, arith, All}
use Rattle.std.specs.List.{flat_map, AllByRecursion}
use Rattle.std.proofs.lemmas.List.Elements.{All-nil, All-head, All-tail, All-append, All-get_or, recursion_from_All}
use Rattle.std.proofs.lemmas.List.FromFn.{length-map-range_with_len, get_or-map-range_with_len}
use Rattle.scan_base.specs.declared.value.Value.TheVariants.{Null}
use Rattle.arrow_types.specs.declared.data_type.DataType.{DataType}
use Rattle.arrow_types.specs.declared.schema.Field.{Field}
use Rattle.arrays.specs.Batch.{BatchAt, row_of, rows_of}
use Rattle.arrays.specs.Column.{ColumnAt, IsColumn, slot_of, values_of}
use Rattle.arrays.specs.TypedLayouts.{IsOfType, AreOfTypes, IsValueOf, ValuesAreOfTheirType}
use Rattle.table_versions.specs.StoredTables.{PutAt, put_of}
use Rattle.table_versions.specs.KeptTables.{Stands}
use Rattle.table_versions.specs.KeptTables.{IsStorable}
use Rattle.table_versions.specs.Valid.{HasTypes, IsPut}
use Rattle.table_versions.proofs.Storable.{AreTyped}

slot_typed : ValuesAreOfTheirType → (data_type : DataType) (column : ColumnAt) (j : ℕ) → j < column.len → IsColumn column → IsOfType data_type column.layout → IsValueOf data_type (slot_of column j)
slot_typed law data_type column j low stands of =
    subst (IsValueOf data_type) (get_or-map-range_with_len (slot_of column) 0 column.len j j Null low (omega arith))
    (All-get_or (IsValueOf data_type) (values_of column) j Null (omega (arith, low, length-map-range_with_len (slot_of column) 0 column.len)) (law data_type column stands of))

row_typed : ValuesAreOfTheirType → (fields : List Field) (columns : List ColumnAt) (rows j : ℕ) → j < rows → AreOfTypes fields columns
    → AllByRecursion (λ (column : ColumnAt). column.len ≡ rows) columns → AllByRecursion IsColumn columns → HasTypes fields (row_of columns j)
row_typed law [] [] rows j low typed long stand = tt
row_typed law [] (column ∷ columns) rows j low typed long stand = absurd typed
row_typed law (field ∷ fields) [] rows j low typed long stand = absurd typed
row_typed law (field ∷ fields) (column ∷ columns) rows j low typed long stand =
    (slot_typed law field.data_type column j (omega (arith, low, long.0)) stand.0 typed.0, row_typed law fields columns rows j low typed.1 long.1 stand.1)

rows_typed : ValuesAreOfTheirType → (fields : List Field) (batch : BatchAt) → AreOfTypes fields batch.columns → Stands batch → All (HasTypes fields) (rows_of batch)
rows_typed law fields batch typed stands = λ k d low.
    let long = recursion_from_All (λ (column : ColumnAt). column.len ≡ batch.rows) batch.columns stands.long in
    let stand = recursion_from_All IsColumn batch.columns stands.columns in
    let within : k < batch.rows = omega (arith, low, length-map-range_with_len (row_of batch.columns) 0 batch.rows) in
    subst (HasTypes fields) (sym (get_or-map-range_with_len (row_of batch.columns) 0 batch.rows k k d within (omega arith)))
    (row_typed law fields batch.columns batch.rows k within typed long stand)

all_typed : ValuesAreOfTheirType → (fields : List Field) (batches : List BatchAt) → All (AreTyped fields) batches → All Stands batches
    → All (HasTypes fields) (flat_map rows_of batches)
all_typed law fields [] typed stand = All-nil (HasTypes fields)
all_typed law fields (batch ∷ batches) typed stand =
    All-append (HasTypes fields) (rows_of batch) (flat_map rows_of batches)
    (rows_typed law fields batch (All-head (AreTyped fields) batch batches typed) (All-head Stands batch batches stand))
    (all_typed law fields batches (All-tail (AreTyped fields) batch batches typed) (All-tail Stands batch batches stand))

pub put_typed : ValuesAreOfTheirType → (put : PutAt) → IsStorable put.schema put.batches → All Stands put.batches → IsPut (put_of put)
put_typed law put storable stand = record { columns = storable.valid; rows = all_typed law put.schema.fields put.batches storable.typed stand }
