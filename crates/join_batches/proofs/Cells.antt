-- The cells of the rows that pairs stand for, and slots that have them.
use Rattle.std.proofs.Common.{◌≡◌, ◌<◌, ℕ, zero, suc, ◌+◌, List, [], ◌∷◌, ◌++◌, All, length, map, get_or, take, refl, sym, ap, ◌∙◌, arith, length-append, subst}
use Rattle.std.proofs.lemmas.List.{take_more, get_or-map, length-map, get_or_append_left, get_or-append-add}
use Rattle.std.proofs.lemmas.List.Elements.{All-nil, All-cons}
use Rattle.std.proofs.lemmas.Slice.Zip.{all_zipped_more}
use Rattle.std.proofs.lemmas.Option.{unwrap_or-slice_get}
use Rattle.arrow_types.specs.declared.data_type.DataType.{DataType}
use Rattle.arrow_types.specs.declared.data_type.DataType.TheVariants.{Utf8}
use Rattle.scan_base.specs.declared.value.Value.{Value}
use Rattle.scan_base.specs.declared.value.Value.TheVariants.{Null}
use Rattle.scan_base.specs.Predicate.{cell_in}
use Rattle.array_select.specs.declared.of_slots.SlotRef.{SlotRef}
use Rattle.arrays.specs.Batch.{BatchAt, AreLong, row_of}
use Rattle.arrays.specs.Column.{ColumnAt, slot_of}
use Rattle.array_select.specs.OfSlots.{slot_value, IsSlotOf}
use Rattle.arrays.specs.TypedLayouts.{IsOfType}
use Rattle.hash_join.specs.declared.pair.Pair.{Pair}
use Rattle.hash_join.specs.Pairs.{row_at}
use Rattle.join_batches.specs.declared.batch_sides.BatchSides.{BatchSides}
use Rattle.join_batches.specs.Rows.{batch_numbered, pair_row, IsPair}
use Rattle.join_batches.specs.BatchSides.{side_types, width_of, AreSides, HoldsCell, HoldCells, rows_at, cells_of}
use Rattle.join_batches.proofs.Typed.{typed_long, typed_at}

-- a cell of a batch's row
cell_at : (columns : List ColumnAt) (row number : ℕ) (other : ColumnAt) → number < length columns →
    get_or (row_of columns row) number Null ≡ slot_of (get_or columns number other) row
cell_at columns row number other h = get_or-map (λ column. slot_of column row) columns number other Null h

-- a cell of the left row
pub left_cell : (rights : List BatchAt) (left : BatchAt) (pair : Pair) (number : ℕ) (other : ColumnAt) → number < length left.columns →
    cell_in (pair_row rights left pair) number ≡ slot_of (get_or left.columns number other) pair.left
left_cell rights left pair number other h =
    unwrap_or-slice_get (pair_row rights left pair) number Null
    ∙ get_or_append_left (row_of left.columns pair.left) (row_at rights (pair.batch, pair.row)) Null number
    (omega (arith, h, length-map left.columns (λ column. slot_of column pair.left)))
    ∙ cell_at left.columns pair.left number other h

-- a cell of the right row
pub right_cell : (rights : List BatchAt) (left : BatchAt) (pair : Pair) (width number : ℕ) (other : ColumnAt) → length left.columns ≡ width →
    number < length (batch_numbered rights pair.batch).columns →
    cell_in (pair_row rights left pair) (width + number) ≡ slot_of (get_or (batch_numbered rights pair.batch).columns number other) pair.row
right_cell rights left pair width number other e h =
    let wide : length (row_of left.columns pair.left) ≡ width = length-map left.columns (λ column. slot_of column pair.left) ∙ e in
    unwrap_or-slice_get (pair_row rights left pair) (width + number) Null
    ∙ ap (λ (n : ℕ). get_or (pair_row rights left pair) (n + number) Null) (sym wide)
    ∙ get_or-append-add (row_of left.columns pair.left) (row_at rights (pair.batch, pair.row)) number Null
    ∙ cell_at (batch_numbered rights pair.batch).columns pair.row number other h

-- a slot of a left column has the cell
pub left_holds : (sides : BatchSides) (number : ℕ) (pair : Pair) (slot : SlotRef) → AreSides sides → IsPair sides.rights.now sides.left.now pair →
    AreLong sides.left.now.rows sides.left.now.columns → number < length sides.left_types.now →
    slot.column.now ≡ get_or sides.left.now.columns number slot.column.now → slot.place ≡ pair.left → HoldsCell sides number pair slot
left_holds sides number pair slot are is long h column place =
    let left = sides.left.now in
    let wide = typed_long sides.left_types.now left.columns are.left in
    let within : number < length left.columns = omega (arith, h, wide) in
    let here = long number slot.column.now within in
    let size : slot.column.now.len ≡ left.rows = ap (λ (c : ColumnAt). c.len) column ∙ here in
    let typed = typed_at sides.left_types.now left.columns number Utf8 slot.column.now are.left h in
    let of = get_or_append_left sides.left_types.now sides.right_types.now Utf8 number h in
    record {
      value =
          ap (λ (c : ColumnAt). slot_of c slot.place) column ∙ ap (slot_of (get_or left.columns number slot.column.now)) place
          ∙ sym (left_cell sides.rights.now left pair number slot.column.now within);
      there = (
        omega (arith, place, size, is.left_row),
        subst (λ (t : DataType). IsOfType t slot.column.now.layout) (sym of)
            (subst (λ (c : ColumnAt). IsOfType (get_or sides.left_types.now number Utf8) c.layout) (sym column) typed),
      );
    }

-- a slot of a right column has the cell
pub right_holds : (sides : BatchSides) (number : ℕ) (pair : Pair) (slot : SlotRef) → AreSides sides → IsPair sides.rights.now sides.left.now pair →
    AreLong (batch_numbered sides.rights.now pair.batch).rows (batch_numbered sides.rights.now pair.batch).columns → number < length sides.right_types.now →
    slot.column.now ≡ get_or (batch_numbered sides.rights.now pair.batch).columns number slot.column.now → slot.place ≡ pair.row →
    HoldsCell sides (length sides.left_types.now + number) pair slot
right_holds sides number pair slot are is long h column place =
    let left = sides.left.now in
    let right = batch_numbered sides.rights.now pair.batch in
    let rights = are.rights pair.batch (record { columns = []; rows = 0 }) is.batch in
    let wide = typed_long sides.right_types.now right.columns rights in
    let within : number < length right.columns = omega (arith, h, wide) in
    let here = long number slot.column.now within in
    let size : slot.column.now.len ≡ right.rows = ap (λ (c : ColumnAt). c.len) column ∙ here in
    let typed = typed_at sides.right_types.now right.columns number Utf8 slot.column.now rights h in
    let of = get_or-append-add sides.left_types.now sides.right_types.now number Utf8 in
    record {
      value =
          ap (λ (c : ColumnAt). slot_of c slot.place) column ∙ ap (slot_of (get_or right.columns number slot.column.now)) place
          ∙ sym (right_cell sides.rights.now left pair (length sides.left_types.now) number slot.column.now (typed_long sides.left_types.now left.columns are.left) within);
      there = (
        omega (arith, place, size, is.right_row),
        subst (λ (t : DataType). IsOfType t slot.column.now.layout) (sym of)
            (subst (λ (c : ColumnAt). IsOfType (get_or sides.right_types.now number Utf8) c.layout) (sym column) typed),
      );
    }

-- whichever default a place that is there has
pub same_at : {X : Type 0} (xs : List X) (place : ℕ) (one other : X) → place < length xs → get_or xs place one ≡ get_or xs place other
same_at [] place one other h = absurd (omega (arith, h))
same_at (x ∷ xs) zero one other h = refl
same_at (x ∷ xs) (suc place) one other h = same_at xs place one other (omega (arith, h))

-- the slot of a left column that was found
pub left_found : (sides : BatchSides) (number : ℕ) (pair : Pair) (slot : SlotRef) (columns : List ColumnAt) → AreSides sides →
    IsPair sides.rights.now sides.left.now pair → columns ≡ sides.left.now.columns → AreLong sides.left.now.rows columns →
    number < length sides.left_types.now → slot.column.now ≡ get_or columns number slot.column.now → slot.place ≡ pair.left → HoldsCell sides number pair slot
left_found sides number pair slot columns are is e long h column place =
    left_holds sides number pair slot are is (subst (AreLong sides.left.now.rows) e long) h
    (column ∙ ap (λ (some : List ColumnAt). get_or some number slot.column.now) e) place

-- the slot of a right column that was found
pub right_found : (sides : BatchSides) (number : ℕ) (pair : Pair) (slot : SlotRef) (other : BatchAt) (columns : List ColumnAt) → AreSides sides →
    IsPair sides.rights.now sides.left.now pair → columns ≡ (get_or sides.rights.now pair.batch other).columns →
    AreLong (get_or sides.rights.now pair.batch other).rows columns → number < length sides.right_types.now →
    slot.column.now ≡ get_or columns number slot.column.now → slot.place ≡ pair.row → HoldsCell sides (length sides.left_types.now + number) pair slot
right_found sides number pair slot other columns are is e long h column place =
    let batch = get_or sides.rights.now pair.batch other in
    let same : batch ≡ batch_numbered sides.rights.now pair.batch = same_at sides.rights.now pair.batch other (record { columns = []; rows = 0 }) is.batch in
    right_holds sides number pair slot are is
    (subst (λ (b : BatchAt). AreLong b.rows b.columns) same (subst (AreLong batch.rows) e long)) h
    (column ∙ ap (λ (some : List ColumnAt). get_or some number slot.column.now) (e ∙ ap (λ (b : BatchAt). b.columns) same)) place

-- ---- a slot for each pair

-- one pair more
pub held_more : (sides : BatchSides) (number : ℕ) (pairs : List Pair) (place : ℕ) (other : Pair) (slots all : List SlotRef) (slot : SlotRef) → place < length pairs →
    all ≡ slots ++ slot ∷ [] → HoldCells sides number (take place pairs) slots → HoldsCell sides number (get_or pairs place other) slot →
    HoldCells sides number (take (place + 1) pairs) all
held_more sides number pairs place other slots all slot h e hold is =
    rw (e, take_more pairs place other h)
    (all_zipped_more (HoldsCell sides number) (take place pairs) slots (get_or pairs place other) slot hold is)

pub held_values : (sides : BatchSides) (number : ℕ) (pairs : List Pair) (slots : List SlotRef) → HoldCells sides number pairs slots →
    map slot_value slots ≡ cells_of (rows_at sides pairs) number
held_values sides number [] [] hold = refl
held_values sides number [] (slot ∷ slots) hold = absurd hold
held_values sides number (pair ∷ pairs) [] hold = absurd hold
held_values sides number (pair ∷ pairs) (slot ∷ slots) hold =
    ap (λ (value : Value). value ∷ map slot_value slots) hold.0.value
    ∙ ap (λ (values : List Value). cell_in (pair_row sides.rights.now sides.left.now pair) number ∷ values) (held_values sides number pairs slots hold.1)

pub held_long : (sides : BatchSides) (number : ℕ) (pairs : List Pair) (slots : List SlotRef) → HoldCells sides number pairs slots → length slots ≡ length pairs
held_long sides number [] [] hold = refl
held_long sides number [] (slot ∷ slots) hold = absurd hold
held_long sides number (pair ∷ pairs) [] hold = absurd hold
held_long sides number (pair ∷ pairs) (slot ∷ slots) hold = ap suc (held_long sides number pairs slots hold.1)

pub held_there : (sides : BatchSides) (number : ℕ) (pairs : List Pair) (slots : List SlotRef) → HoldCells sides number pairs slots →
    All (IsSlotOf (get_or (side_types sides) number Utf8)) slots
held_there sides number [] [] hold = All-nil (IsSlotOf (get_or (side_types sides) number Utf8))
held_there sides number [] (slot ∷ slots) hold = absurd hold
held_there sides number (pair ∷ pairs) [] hold = absurd hold
held_there sides number (pair ∷ pairs) (slot ∷ slots) hold =
    All-cons (IsSlotOf (get_or (side_types sides) number Utf8)) slot slots hold.0.there (held_there sides number pairs slots hold.1)

-- ---- rows

-- a joined row has a cell for each column of both sides
pub row_wide : (sides : BatchSides) (pair : Pair) → AreSides sides → IsPair sides.rights.now sides.left.now pair →
    length (pair_row sides.rights.now sides.left.now pair) ≡ width_of sides
row_wide sides pair are is =
    let left = sides.left.now in
    let right = batch_numbered sides.rights.now pair.batch in
    let one = length-map left.columns (λ column. slot_of column pair.left) in
    let other = length-map right.columns (λ column. slot_of column pair.row) in
    let both = length-append (row_of left.columns pair.left) (row_at sides.rights.now (pair.batch, pair.row)) in
    let lefts = typed_long sides.left_types.now left.columns are.left in
    let rights = typed_long sides.right_types.now right.columns (are.rights pair.batch (record { columns = []; rows = 0 }) is.batch) in
    omega (arith, one, other, both, lefts, rights)
