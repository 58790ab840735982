-- Inside: slots of several columns that are gathered at places.
use Rattle.std.specs.Prelude.{◌≡◌, ◌≤◌, ◌<◌, ◌*◌, ◌+◌, ℕ, ℤ, Bool, true, false, List, [], All}
use Rattle.std.specs.Prelude.{length, map, get_or, Option}
use Rattle.scan_base.specs.declared.value.Value.{Value}
use Rattle.scan_base.specs.declared.value.Value.TheVariants.{Int}
use Rattle.scan_base.specs.Value.{is_null}
use Rattle.array_select.specs.declared.many_places.SlotPlace.{SlotPlace}
use Rattle.array_select.specs.declared.many_places.SlotPlaces.{SlotPlaces}
use Rattle.arrays.specs.Number.{element_at}
use Rattle.arrays.specs.Validity.{is_valid}
use Rattle.arrays.specs.Column.{ColumnAt, slot_of}
use Rattle.array_select.specs.GatherMany.{value_in, IsPlaceIn}

-- the columns
abbrev pub columns_of : SlotPlaces → List ColumnAt
columns_of slots = map (λ column. column.now) slots.columns.now

-- the values of the slots at the places
abbrev pub values_at : SlotPlaces → List Value
values_at slots = map (value_in (columns_of slots)) slots.places.now

-- each place is that of a slot
abbrev pub AreThere : SlotPlaces → Type 0
AreThere slots = All (IsPlaceIn (columns_of slots)) slots.places.now

-- the place of a slot, by its number among the places
abbrev pub slot_place_at : List SlotPlace → ℕ → SlotPlace
slot_place_at places k = get_or places k (record { column = 0; place = 0 })

-- `cells` has the numbers of a column's slots, packed in so many bytes each; those of nulls may be
-- any
pub record HasNumbers (number : ℕ → ℤ) (width : ℕ) (cells : List ℕ)
    (column : ColumnAt) : Type 0 where
  pub room : (k : ℕ) → k < column.len → width * k + width ≤ length cells
  pub numbers : (k : ℕ) → k < column.len → is_null (slot_of column k) ≡ false →
      slot_of column k ≡ Int (number (element_at width cells k))

-- the first columns have their packed numbers
pub record HaveNumbers (number : ℕ → ℤ) (width : ℕ) (sources : List (List ℕ))
    (columns : List ColumnAt) (count : ℕ) : Type 0 where
  pub long : length sources ≡ count
  pub each : (i : ℕ) (other : ColumnAt) → i < count →
      HasNumbers number width (get_or sources i []) (get_or columns i other)

-- each place is one of the packed numbers
pub record HaveRoom (width : ℕ) (sources : List (List ℕ)) (places : List SlotPlace) : Type 0 where
  pub source : (k : ℕ) → k < length places → (slot_place_at places k).column < length sources
  pub room : (k : ℕ) → k < length places →
      width * (slot_place_at places k).place + width
      ≤ length (get_or sources (slot_place_at places k).column [])

-- the packed number of a slot, by the number of its place
abbrev pub cell_at : ℕ → List (List ℕ) → List SlotPlace → ℕ → ℕ
cell_at width sources places k =
    element_at width (get_or sources (slot_place_at places k).column [])
    (slot_place_at places k).place

-- `packed` has the numbers at the first `count` places, where they are valid
pub record HasCellsAt (width : ℕ) (packed : List ℕ) (sources : List (List ℕ))
    (places : List SlotPlace) (validity : Option (List Bool)) (count : ℕ) : Type 0 where
  pub long : length packed ≡ width * count
  pub each : (k : ℕ) → k < count → is_valid validity k ≡ true →
      element_at width packed k ≡ cell_at width sources places k
