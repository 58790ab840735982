-- The values of columns, one more at a time.
use Rattle.std.proofs.Common.{◌≡◌, ◌<◌, ◌+◌, ℕ, List, [], ◌∷◌, ◌++◌, All, Option, Some, None, length, map, get_or, refl, sym, ap, subst, ◌∙◌, arith, inl, inr}
use Rattle.std.specs.Prelude.{IsSome, option_map}
use Rattle.std.proofs.lemmas.Bool.{cases_lt, false≢true}
use Rattle.std.proofs.lemmas.List.{get_or_append_left, get_or_push, get_or_default, length-append, length-map, map-append}
use Rattle.std.proofs.lemmas.List.Elements.{All-append, All-nil, All-cons}
use Rattle.scan_base.specs.Value.{value_of}
use Rattle.scan_base.specs.declared.value.Value.{Value}
use Rattle.scan_base.specs.declared.value.Value.TheVariants.{Null}
use Rattle.scan_base.specs.declared.value.ValueRef.{ValueRef}
use Rattle.arrow_types.specs.declared.schema.Field.{Field}
use Rattle.arrays.specs.Column.{ColumnAt}
use Rattle.arrays.specs.TypedLayouts.{IsValueOf}
use Rattle.csv_columns.specs.FieldValues.{cell_in}
use Rattle.csv_input.specs.inside.Chunks.{ChunkAt, field_in}
use Rattle.csv_input.specs.inside.Cells.{AreCells, AreColumnsIn, HasWrongColumn, IsColumnIn}

-- a record says a value in each of the first columns
abbrev pub SaysCells : ChunkAt → List Field → ℕ → ℕ → Type 0
SaysCells chunk columns row count =
    (k : ℕ) (d : Field) → k < count → IsSome (cell_in (get_or columns k d) (field_in chunk row k))

-- one value more
pub cells_more : (chunk : ChunkAt) (column : Field) (number row : ℕ) (cells new : List ValueRef) (cell : ValueRef) → new ≡ cells ++ cell ∷ [] → cell_in column (field_in chunk row number) ≡ Some (value_of cell) →
    IsValueOf column.data_type (value_of cell) → AreCells chunk column number cells row → AreCells chunk column number new (row + 1)
cells_more chunk column number row cells new cell e says typed so =
    let Typed : ValueRef → Type 0 = λ value. IsValueOf column.data_type (value_of value) in
    let split : map value_of new ≡ map value_of cells ++ value_of cell ∷ [] = ap (λ (l : List ValueRef). map value_of l) e ∙ map-append value_of cells (cell ∷ []) in
    let long : length (map value_of cells) ≡ row = length-map cells value_of ∙ so.many in
    record {
      many = ap length e ∙ length-append cells (cell ∷ []) ∙ omega (arith, so.many);
      each = λ k low. elim (cases_lt k row) [
        | inl before ↦ so.each k before ∙ ap Some (sym (get_or_append_left (map value_of cells) (value_of cell ∷ []) Null k (omega (arith, before, long))) ∙ ap (λ (l : List Value). get_or l k Null) (sym split))
        | inr later ↦
            let here : k ≡ row = omega (arith, low, later) in
            ap (λ (n : ℕ). cell_in column (field_in chunk n number)) here ∙ says
            ∙ ap Some (sym (get_or_push (map value_of cells) (value_of cell) Null k (long ∙ sym here)) ∙ ap (λ (l : List Value). get_or l k Null) (sym split))
      ];
      typed = subst (All Typed) (sym e) (All-append Typed cells (cell ∷ []) so.typed (All-cons Typed cell [] typed (All-nil Typed)));
    }

-- one column more
pub columns_more : (chunk : ChunkAt) (columns : List Field) (made new : List ColumnAt) (number : ℕ) (column : Field) (next : ColumnAt) → number < length columns → column ≡ get_or columns number column →
    new ≡ made ++ next ∷ [] → IsColumnIn chunk column number next → AreColumnsIn chunk columns made number → AreColumnsIn chunk columns new (number + 1)
columns_more chunk columns made new number column next inside is e here so =
    subst (λ (l : List ColumnAt). AreColumnsIn chunk columns l (number + 1)) (sym e) (record {
      many = length-append made (next ∷ []) ∙ omega (arith, so.many);
      each = λ k d f low. elim (cases_lt k number) [
        | inl before ↦ subst (IsColumnIn chunk (get_or columns k d) k) (sym (get_or_append_left made (next ∷ []) f k (omega (arith, before, so.many)))) (so.each k d f before)
        | inr later ↦
            let same : number ≡ k = omega (arith, low, later) in
            let at : column ≡ get_or columns number d = is ∙ get_or_default columns number column d inside in
            subst (λ (n : ℕ). IsColumnIn chunk (get_or columns n d) n (get_or (made ++ next ∷ []) n f)) same
            (subst (IsColumnIn chunk (get_or columns number d) number) (sym (get_or_push made next f number so.many))
            (subst (λ (c : Field). IsColumnIn chunk c number next) at here))
      ];
    })

-- each column has a slot for each record
pub columns_long : (chunk : ChunkAt) (columns : List Field) (made : List ColumnAt) (d : Field) → AreColumnsIn chunk columns made (length columns) → All (λ column. column.len ≡ chunk.rows) made
columns_long chunk columns made d are = λ k e low. (are.each k d e (omega (arith, low, are.many))).long

-- a field has been judged
pub judged : (value : Option Value) (found : Option ValueRef) → option_map value_of found ≡ value → IsSome found → IsSome value
judged value (Some cell) e some = subst IsSome e refl
judged value None e some = absurd (false≢true some)

-- a wrong column has a wrong record, in which not each cell says a value
pub wrong_says : (chunk : ChunkAt) (columns : List Field) (d : Field) → HasWrongColumn chunk columns → ((row : ℕ) → row < chunk.rows → SaysCells chunk columns row (length columns)) → ⊥
wrong_says chunk columns d wrong says =
    let cell = wrong.wrong d in
    false≢true (subst IsSome cell.none (says cell.row cell.there wrong.number d wrong.there))
