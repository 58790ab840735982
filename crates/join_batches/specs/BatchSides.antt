-- Inside: the columns of the rows that pairs stand for.
use Rattle.std.specs.Prelude.{◌≡◌, ◌≤◌, ◌<◌, ◌+◌, ℕ, All, if◌then◌else◌, List, ◌++◌, length, map}
use Rattle.std.specs.Prelude.{take, get_or, nat_lt}
use Rattle.std.specs.List.{AllZip}
use Rattle.arrow_types.specs.declared.data_type.DataType.{DataType}
use Rattle.arrow_types.specs.declared.data_type.DataType.TheVariants.{Utf8}
use Rattle.arrow_types.specs.Answer.{copied_type}
use Rattle.scan_base.specs.declared.value.Value.{Value}
use Rattle.scan_base.specs.Predicate.{cell_in}
use Rattle.array_select.specs.declared.of_slots.SlotRef.{SlotRef}
use Rattle.arrays.specs.Batch.{BatchAt, rows_of}
use Rattle.arrays.specs.Column.{ColumnAt, values_of}
use Rattle.array_select.specs.OfSlots.{slot_value, IsSlotOf}
use Rattle.array_select.specs.declared.many_places.SlotPlace.{SlotPlace}
use Rattle.array_select.specs.GatherMany.{value_in, IsPlaceIn}
use Rattle.arrays.specs.TypedLayouts.{AreOf, IsOfType}
use Rattle.array_select.specs.Fitting.{AreLight}
use Rattle.array_select.specs.Room.{allowed, HasRoom}
use Rattle.hash_join.specs.declared.pair.Pair.{Pair}
use Rattle.join_batches.specs.declared.placed_pairs.PlacedPairs.{PlacedPairs}
use Rattle.join_batches.specs.declared.batch_sides.BatchSides.{BatchSides}
use Rattle.join_batches.specs.Joiner.{shown_cells}
use Rattle.join_batches.specs.Rows.{pair_row, IsPair}

-- the types of a joined row's cells, as they come
abbrev pub side_types : BatchSides → List DataType
side_types sides = sides.left_types.now ++ sides.right_types.now

-- how many cells a joined row has
abbrev pub width_of : BatchSides → ℕ
width_of sides = length sides.left_types.now + length sides.right_types.now

-- the columns of both sides are of their types
pub record AreSides (sides : BatchSides) : Type 0 where
  pub left : AreOf sides.left_types.now sides.left.now.columns
  pub rights : All (λ (batch : BatchAt). AreOf sides.right_types.now batch.columns) sides.rights.now

-- the rows that pairs stand for
abbrev pub rows_at : BatchSides → List Pair → List (List Value)
rows_at sides pairs = map (pair_row sides.rights.now sides.left.now) pairs

-- each pair's places are there
abbrev pub ArePairs : BatchSides → List Pair → Type 0
ArePairs sides pairs = All (IsPair sides.rights.now sides.left.now) pairs

-- a slot of a column's type has a cell of the row that a pair stands for
pub record HoldsCell (sides : BatchSides) (number : ℕ) (pair : Pair) (slot : SlotRef) : Type 0 where
  pub value : slot_value slot ≡ cell_in (pair_row sides.rights.now sides.left.now pair) number
  pub there : IsSlotOf (get_or (side_types sides) number Utf8) slot

-- there is a slot for each pair
abbrev pub HoldCells : BatchSides → ℕ → List Pair → List SlotRef → Type 0
HoldCells sides number pairs slots = AllZip (HoldsCell sides number) pairs slots

-- the place of a pair's left row among the slots of one left column
abbrev pub left_place : Pair → SlotPlace
left_place pair = record { column = 0; place = pair.left }

-- the place of a pair's right row among the slots of the right columns
abbrev pub right_place : Pair → SlotPlace
right_place pair = record { column = pair.batch; place = pair.row }

-- the place of a cell of a pair's row
abbrev pub place_for : BatchSides → ℕ → Pair → SlotPlace
place_for sides number pair =
    if nat_lt number (length sides.left_types.now) then left_place pair else right_place pair

-- there is a place for each pair
pub record HavePlaces (placed : PlacedPairs) : Type 0 where
  pub lefts : placed.lefts.now ≡ map left_place placed.pairs.now
  pub rights : placed.rights.now ≡ map right_place placed.pairs.now

-- columns of a column's type have the cells of the rows that pairs stand for
pub record AreSources (sides : BatchSides) (number : ℕ) (columns : List ColumnAt) : Type 0 where
  pub typed : All (λ column. IsOfType (get_or (side_types sides) number Utf8) column.layout) columns
  pub there : (pair : Pair) → IsPair sides.rights.now sides.left.now pair →
      IsPlaceIn columns (place_for sides number pair)
  pub cells : (pair : Pair) → IsPair sides.rights.now sides.left.now pair →
      value_in columns (place_for sides number pair)
      ≡ cell_in (pair_row sides.rights.now sides.left.now pair) number

-- a column of rows
abbrev pub cells_of : List (List Value) → ℕ → List Value
cells_of rows number = map (λ row. cell_in row number) rows

-- the type of a column's cells, as they come
abbrev pub type_in : BatchSides → ℕ → DataType
type_in sides number = get_or (side_types sides) number Utf8

-- the texts of a column of rows are light, where those of a column of texts may have so many bytes
abbrev pub AreLightIn : BatchSides → ℕ → List Pair → ℕ → Type 0
AreLightIn sides share pairs number =
    AreLight (allowed share (type_in sides number)) (cells_of (rows_at sides pairs) number)

-- the texts of a column of so many rows, from the first on, are light
pub record FitsIn (sides : BatchSides) (share : ℕ) (pairs : List Pair)
    (number count : ℕ) : Type 0 where
  pub some : 0 < count
  pub within : count ≤ length pairs
  pub light : AreLightIn sides share (take count pairs) number

-- the texts of these columns of so many rows are light
pub record AllFit (sides : BatchSides) (share : ℕ) (pairs : List Pair) (shown : List ℕ)
    (count : ℕ) : Type 0 where
  pub some : 0 < count
  pub within : count ≤ length pairs
  pub light : All (AreLightIn sides share (take count pairs)) shown

-- a column is that of rows
pub record IsColumnOf (rows : List (List Value)) (number : ℕ) (column : ColumnAt) : Type 0 where
  pub values : values_of column ≡ cells_of rows number
  pub long : column.len ≡ length rows

-- the type of a column of joined rows
abbrev pub copied_at : BatchSides → ℕ → DataType
copied_at sides number = copied_type (type_in sides number)

-- the columns are there
abbrev pub AreColumnsOf : BatchSides → List ℕ → Type 0
AreColumnsOf sides shown = All (λ number. number < width_of sides) shown

-- a batch has these columns of the rows of the first of these pairs
pub record IsPairBatch (sides : BatchSides) (shown : List ℕ) (pairs : List Pair)
    (batch : BatchAt) : Type 0 where
  pub some : 0 < batch.rows
  pub few : batch.rows ≤ length pairs
  pub wide : All (λ (row : List Value). length row ≡ width_of sides)
      (rows_at sides (take batch.rows pairs))
  pub rows_are : rows_of batch ≡ map (shown_cells shown) (rows_at sides (take batch.rows pairs))
  pub typed : AreOf (map (copied_at sides) shown) batch.columns
  pub room : HasRoom batch
