-- The columns that a plan shows.
use Rattle.std.proofs.Common.{◌≡◌, ◌<◌, ℕ, zero, suc, true, List, [], ◌∷◌, ◌++◌, length, map, nat_lt, slice_get, option_map, unwrap_or, Option, Some, refl, sym, ap, subst, ◌∙◌, arith}
use Rattle.std.proofs.lemmas.Bool.{ltb-true, and_parts}
use Rattle.std.proofs.lemmas.Option.{slice_get-map}
use Rattle.arrays.specs.Batch.{row_of}
use Rattle.arrays.specs.Column.{ColumnAt, slot_of}
use Rattle.arrays.specs.TypedLayouts.{AreOf, AreOfTypes, IsOfType}
use Rattle.arrow_types.specs.declared.schema.Field.{Field}
use Rattle.arrow_types.specs.declared.data_type.DataType.{DataType}
use Rattle.scan_base.specs.declared.value.Value.{Value}
use Rattle.scan_base.specs.declared.value.Value.TheVariants.{Null}
use Rattle.scan_base.specs.Predicate.{cell_in}
use Rattle.table_versions.specs.Table.{Row}
use Rattle.typed_plan.specs.TypedPlans.{type_at, types_of}
use Rattle.batch_skipping.specs.ChosenColumns.{are_within, listed, columns_at}

-- an item of a list
item_at : {X : Type 0} (xs : List X) (i : ℕ) → i < length xs → (x : X) × (slice_get xs i ≡ Some x)
item_at [] i h = absurd (omega (arith, h))
item_at (x ∷ xs) zero h = (x, refl)
item_at (x ∷ xs) (suc i) h = item_at xs i (omega (arith, h))

-- the cells of chosen columns
pub columns_cells : (numbers : List ℕ) (columns : List ColumnAt) (j : ℕ) → are_within (length columns) numbers ≡ true →
    row_of (columns_at numbers columns) j ≡ map (cell_in (row_of columns j)) numbers
columns_cells [] columns j h = refl
columns_cells (number ∷ numbers) columns j h =
    let parts = and_parts (nat_lt number (length columns)) (are_within (length columns) numbers) h in
    let there = item_at columns number (ltb-true number (length columns) parts.0) in
    let slot = λ (c : ColumnAt). slot_of c j in
    let cell : cell_in (row_of columns j) number ≡ slot there.0 =
    ap (λ (v : Option Value). unwrap_or v Null) (slice_get-map slot columns number ∙ ap (option_map slot) there.1) in
    ap (λ (found : Option ColumnAt). row_of (listed found ++ columns_at numbers columns) j) there.1
    ∙ ap (λ (value : Value). value ∷ row_of (columns_at numbers columns) j) (sym cell)
    ∙ ap (λ (rest : Row). cell_in (row_of columns j) number ∷ rest) (columns_cells numbers columns j parts.1)

-- chosen columns are of the chosen types
type_there : (types : List DataType) (columns : List ColumnAt) (number : ℕ) (column : ColumnAt) →
    AreOf types columns → slice_get columns number ≡ Some column → IsOfType (type_at types number) column.layout
type_there [] [] number column typed e = cc
type_there [] (first ∷ columns) number column typed e = absurd typed
type_there (data_type ∷ types) [] number column typed e = absurd typed
type_there (data_type ∷ types) (first ∷ columns) zero column typed e =
    let same : first ≡ column = cc in
    subst (λ (c : ColumnAt). IsOfType data_type c.layout) same typed.0
type_there (data_type ∷ types) (first ∷ columns) (suc number) column typed e =
    type_there types columns number column typed.1 e

pub chosen_typed : (types : List DataType) (columns : List ColumnAt) (numbers : List ℕ) → AreOf types columns →
    are_within (length columns) numbers ≡ true → AreOf (map (type_at types) numbers) (columns_at numbers columns)
chosen_typed types columns [] typed h = tt
chosen_typed types columns (number ∷ numbers) typed h =
    let parts = and_parts (nat_lt number (length columns)) (are_within (length columns) numbers) h in
    let there = item_at columns number (ltb-true number (length columns) parts.0) in
    subst (λ (found : Option ColumnAt). AreOf (map (type_at types) (number ∷ numbers)) (listed found ++ columns_at numbers columns))
    (sym there.1)
    (type_there types columns number there.0 typed there.1, chosen_typed types columns numbers typed parts.1)

-- columns of fields are of their types
pub of_types : (fields : List Field) (columns : List ColumnAt) → AreOfTypes fields columns → AreOf (types_of fields) columns
of_types [] [] typed = tt
of_types [] (column ∷ columns) typed = absurd typed
of_types (field ∷ fields) [] typed = absurd typed
of_types (field ∷ fields) (column ∷ columns) typed = (typed.0, of_types fields columns typed.1)
