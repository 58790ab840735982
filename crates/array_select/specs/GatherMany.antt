-- Slots of several columns at places.
use Rattle.std.specs.Prelude.{◌<◌, ℕ, List, None, [], length, get_or}
use Rattle.scan_base.specs.declared.value.Value.{Value}
use Rattle.arrays.specs.declared.layout.Layout.TheVariants as layout
use Rattle.array_select.specs.declared.many_places.SlotPlace.{SlotPlace}
use Rattle.arrays.specs.Column.{ColumnAt, slot_of}

-- the column of a number
abbrev pub column_in : List ColumnAt → ℕ → ColumnAt
column_in columns number =
    get_or columns number
    (record { layout = layout.Bools (record { validity = None; values = [] }); first = 0; len = 0 })

-- the value of the slot at a place
abbrev pub value_in : List ColumnAt → SlotPlace → Value
value_in columns place = slot_of (column_in columns place.column) place.place

-- the place is that of a slot
pub record IsPlaceIn (columns : List ColumnAt) (place : SlotPlace) : Type 0 where
  pub column : place.column < length columns
  pub slot : place.place < (column_in columns place.column).len
