-- The places of cells, and the columns in which they are.
use Rattle.std.proofs.Common.{◌≡◌, ◌≤◌, ◌<◌, ℕ, suc, ◌+◌, Bool, if◌then◌else◌, nat_le, List, [], ◌∷◌, ◌++◌, All, length, map, get_or, take, refl, sym, ap, ◌∙◌, arith, subst, inl, inr}
use Rattle.std.proofs.lemmas.Bool.{lt-ltb, le-ltb, cases_lt}
use Rattle.std.proofs.lemmas.List.{take_more, get_or-map, length-map, get_or_append_left, get_or-append-add, map-append, take-map}
use Rattle.std.proofs.lemmas.List.Elements.{All-nil, All-cons, All-map, All-weaker}
use Rattle.arrow_types.specs.declared.data_type.DataType.{DataType}
use Rattle.arrow_types.specs.declared.data_type.DataType.TheVariants.{Utf8}
use Rattle.scan_base.specs.declared.value.Value.{Value}
use Rattle.scan_base.specs.Predicate.{cell_in}
use Rattle.array_select.specs.declared.many_places.SlotPlace.{SlotPlace}
use Rattle.arrays.specs.Batch.{BatchAt, AreLong}
use Rattle.arrays.specs.Column.{ColumnAt, slot_of}
use Rattle.array_select.specs.GatherMany.{column_in, value_in, IsPlaceIn}
use Rattle.arrays.specs.TypedLayouts.{IsOfType}
use Rattle.arrays.specs.WrittenSlots.{texts_joined}
use Rattle.hash_join.specs.declared.pair.Pair.{Pair}
use Rattle.join_batches.specs.declared.batch_sides.BatchSides.{BatchSides}
use Rattle.join_batches.specs.Rows.{batch_numbered, pair_row, IsPair}
use Rattle.join_batches.specs.BatchSides.{side_types, AreSides, ArePairs, AreSources, left_place, right_place, place_for, rows_at, cells_of}
use Rattle.join_batches.proofs.Cells.{left_cell, right_cell, same_at}
use Rattle.join_batches.proofs.Plain.{none}
use Rattle.join_batches.proofs.Typed.{typed_long, typed_at}

-- the side of a column
pub left_side : (sides : BatchSides) (number : ℕ) (pair : Pair) → number < length sides.left_types.now → place_for sides number pair ≡ left_place pair
left_side sides number pair h = ap (λ (left : Bool). if left then left_place pair else right_place pair) (lt-ltb number (length sides.left_types.now) h)

pub right_side : (sides : BatchSides) (number : ℕ) (pair : Pair) → length sides.left_types.now ≤ number → place_for sides number pair ≡ right_place pair
right_side sides number pair h = ap (λ (left : Bool). if left then left_place pair else right_place pair) (le-ltb number (length sides.left_types.now) h)

-- a left column has the cells
pub left_has : (sides : BatchSides) (number : ℕ) (column : ColumnAt) (columns : List ColumnAt) → AreSides sides → columns ≡ sides.left.now.columns → AreLong sides.left.now.rows columns →
    number < length sides.left_types.now → column ≡ get_or columns number column → AreSources sides number (column ∷ [])
left_has sides number column columns are e long h is =
    let left = sides.left.now in
    let wide = typed_long sides.left_types.now left.columns are.left in
    let within : number < length left.columns = omega (arith, h, wide) in
    let found : column ≡ get_or left.columns number column = is ∙ ap (λ (some : List ColumnAt). get_or some number column) e in
    let size : column.len ≡ left.rows = ap (λ (c : ColumnAt). c.len) is ∙ long number column (omega (arith, within, ap length e)) in
    let of = get_or_append_left sides.left_types.now sides.right_types.now Utf8 number h in
    record {
      typed = All-cons (λ c. IsOfType (get_or (side_types sides) number Utf8) c.layout) column [] (subst (λ (t : DataType). IsOfType t column.layout) (sym of)
          (subst (λ (c : ColumnAt). IsOfType (get_or sides.left_types.now number Utf8) c.layout) (sym found) (typed_at sides.left_types.now left.columns number Utf8 column are.left h)))
          (All-nil (λ c. IsOfType (get_or (side_types sides) number Utf8) c.layout));
      there = λ pair there. subst (IsPlaceIn (column ∷ [])) (sym (left_side sides number pair h)) (record { column = omega arith; slot = omega (arith, there.left_row, size) });
      cells = λ pair there. ap (value_in (column ∷ [])) (left_side sides number pair h)
          ∙ ap (λ (c : ColumnAt). slot_of c pair.left) found ∙ sym (left_cell sides.rights.now left pair number column within);
    }

-- the column of a number of a batch
abbrev pub of_number : ℕ → BatchAt → ColumnAt
of_number number batch = get_or batch.columns number none

-- the columns of all right batches have the cells
pub right_have : (sides : BatchSides) (number : ℕ) (columns : List ColumnAt) → AreSides sides → number < length sides.right_types.now → columns ≡ map (of_number number) sides.rights.now →
    All (λ (batch : BatchAt). (of_number number batch).len ≡ batch.rows) sides.rights.now → AreSources sides (length sides.left_types.now + number) columns
right_have sides number columns are h e long =
    let left = sides.left.now in
    let rights = sides.rights.now in
    let nothing : BatchAt = record { columns = []; rows = 0 } in
    let of = get_or-append-add sides.left_types.now sides.right_types.now number Utf8 in
    let size = ap length e ∙ length-map rights (of_number number) in
    let found : (i : ℕ) → i < length rights → column_in columns i ≡ of_number number (batch_numbered rights i) =
    λ i low. ap (λ (some : List ColumnAt). column_in some i) e ∙ get_or-map (of_number number) rights i nothing _ low in
    record {
      typed = subst (All (λ (c : ColumnAt). IsOfType (get_or (side_types sides) (length sides.left_types.now + number) Utf8) c.layout)) (sym e)
          (All-map (λ (c : ColumnAt). IsOfType (get_or (side_types sides) (length sides.left_types.now + number) Utf8) c.layout) (of_number number) rights
          (All-weaker _ (λ (batch : BatchAt). IsOfType (get_or (side_types sides) (length sides.left_types.now + number) Utf8) (of_number number batch).layout)
          (λ batch typed. subst (λ (t : DataType). IsOfType t (of_number number batch).layout) (sym of) (typed_at sides.right_types.now batch.columns number Utf8 none typed h)) rights are.rights));
      there = λ pair is. subst (IsPlaceIn columns) (sym (right_side sides (length sides.left_types.now + number) pair (omega arith)))
          (record {
            column = omega (arith, size, is.batch);
            slot = let rows : (column_in columns pair.batch).len ≡ (batch_numbered rights pair.batch).rows = ap (λ (c : ColumnAt). c.len) (found pair.batch is.batch) ∙ long pair.batch nothing is.batch in
                omega (arith, rows, is.right_row);
          });
      cells = λ pair is.
          let right = batch_numbered rights pair.batch in
          let wide = typed_long sides.right_types.now right.columns (are.rights pair.batch nothing is.batch) in
          ap (value_in columns) (right_side sides (length sides.left_types.now + number) pair (omega arith))
          ∙ ap (λ (c : ColumnAt). slot_of c pair.row) (found pair.batch is.batch)
          ∙ sym (right_cell rights left pair (length sides.left_types.now) number none (typed_long sides.left_types.now left.columns are.left) (omega (arith, h, wide)));
    }

-- one batch more
pub sources_more : {T : Type 0} (now : T → ColumnAt) (number : ℕ) (rights : List BatchAt) (i : ℕ) (batch : BatchAt) (sources new : List T) (column : T) → i < length rights →
    batch ≡ get_or rights i batch → new ≡ sources ++ column ∷ [] → now column ≡ of_number number batch → map now sources ≡ map (of_number number) (take i rights) →
    map now new ≡ map (of_number number) (take (i + 1) rights)
sources_more now number rights i batch sources new column low is e here so_far =
    ap (map now) e ∙ map-append now sources (column ∷ []) ∙ ap (λ (some : List ColumnAt). some ++ now column ∷ []) so_far
    ∙ ap (λ (c : ColumnAt). map (of_number number) (take i rights) ++ c ∷ []) (here ∙ ap (of_number number) is)
    ∙ sym (ap (map (of_number number)) (take_more rights i batch low) ∙ map-append (of_number number) (take i rights) (get_or rights i batch ∷ []))

pub long_more : (number : ℕ) (rights : List BatchAt) (i : ℕ) (batch : BatchAt) → i < length rights → batch ≡ get_or rights i batch → (of_number number batch).len ≡ batch.rows →
    ((k : ℕ) (other : BatchAt) → k < i → (of_number number (get_or rights k other)).len ≡ (get_or rights k other).rows) →
    (k : ℕ) (other : BatchAt) → k < i + 1 → (of_number number (get_or rights k other)).len ≡ (get_or rights k other).rows
long_more number rights i batch low is here so_far = λ k other under. elim (cases_lt k i) [
  | inl before ↦ so_far k other before
  | inr later ↦
      let at : i ≡ k = omega (arith, later, under) in
      let found : batch ≡ get_or rights i other = is ∙ same_at rights i batch other low in
      subst (λ (n : ℕ). (of_number number (get_or rights n other)).len ≡ (get_or rights n other).rows) at
      (subst (λ (b : BatchAt). (of_number number b).len ≡ b.rows) found here)
]

-- the column of a number, as the code has it
pub column_is : (batch : BatchAt) (number : ℕ) (columns : List ColumnAt) (column : ColumnAt) → columns ≡ batch.columns → number < length columns → column ≡ get_or columns number column →
    column ≡ of_number number batch
column_is batch number columns column e low is =
    is ∙ same_at columns number column none low ∙ ap (λ (some : List ColumnAt). get_or some number none) e

-- the values at the places are the cells
pub values_are_cells : (sides : BatchSides) (number : ℕ) (columns : List ColumnAt) (pairs : List Pair) → AreSources sides number columns → ArePairs sides pairs →
    map (value_in columns) (map (place_for sides number) pairs) ≡ cells_of (rows_at sides pairs) number
values_are_cells sides number columns pairs sources there = each pairs there
  where
    each : (some : List Pair) → ArePairs sides some → map (value_in columns) (map (place_for sides number) some) ≡ cells_of (rows_at sides some) number
    each [] all = refl
    each (pair ∷ some) all =
        ap (λ (value : Value). value ∷ map (value_in columns) (map (place_for sides number) some)) (sources.cells pair (all 0 pair (omega arith)))
        ∙ ap (λ (values : List Value). cell_in (pair_row sides.rights.now sides.left.now pair) number ∷ values) (each some (λ k d low. all (suc k) d (omega (arith, low))))

-- each place is one of a slot
pub places_there : (sides : BatchSides) (number : ℕ) (columns : List ColumnAt) (pairs : List Pair) → AreSources sides number columns → ArePairs sides pairs →
    All (IsPlaceIn columns) (map (place_for sides number) pairs)
places_there sides number columns pairs sources there =
    All-map (IsPlaceIn columns) (place_for sides number) pairs
    (All-weaker (IsPair sides.rights.now sides.left.now) (λ (pair : Pair). IsPlaceIn columns (place_for sides number pair)) sources.there pairs there)

-- the first places are those of the first pairs
pub first_placed : (place_of : Pair → SlotPlace) (count : ℕ) (places : List SlotPlace) (pairs : List Pair) → places ≡ map place_of pairs → take count places ≡ map place_of (take count pairs)
first_placed place_of count places pairs e = ap (take count) e ∙ take-map place_of count pairs

-- the texts at the places were counted
pub places_counted : (sides : BatchSides) (number : ℕ) (columns : List ColumnAt) (places : List SlotPlace) (pairs : List Pair) (fit : Bool) (most : ℕ) → AreSources sides number columns →
    ArePairs sides pairs → places ≡ map (place_for sides number) pairs → fit ≡ nat_le (length (texts_joined (map (value_in columns) places))) most →
    fit ≡ nat_le (length (texts_joined (cells_of (rows_at sides pairs) number))) most
places_counted sides number columns places pairs fit most sources there at is =
    is ∙ ap (λ (values : List Value). nat_le (length (texts_joined values)) most)
    (ap (map (value_in columns)) at ∙ values_are_cells sides number columns pairs sources there)
