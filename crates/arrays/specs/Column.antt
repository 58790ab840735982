-- What the slots of a column hold.
use Rattle.std.specs.Prelude.{◌≡◌, ◌≤◌, ◌<◌, ℕ, ◌+◌, ◌-◌, ◌^◌, List, map, take, drop}
use Rattle.std.specs.List.{range_with_len}
use Rattle.scan_base.specs.declared.value.Value.{Value}
use Rattle.arrays.specs.declared.layout.Layout.{Layout}
use Rattle.arrays.specs.Layout.{layout_count, layout_slot, IsLayout}

-- a column: slots of any layout, and which of them are its own: `len` of them from `first` on
pub record ColumnAt : Type 0 where
  pub layout : Layout
  pub first : ℕ
  pub len : ℕ

-- the value of slot j
abbrev pub slot_of : ColumnAt → ℕ → Value
slot_of column j = layout_slot column.layout (column.first + j)

-- the values of all slots, in order
abbrev pub values_of : ColumnAt → List Value
values_of column = map (slot_of column) (range_with_len 0 column.len)

-- a column of all slots
abbrev pub whole : Layout → ColumnAt
whole layout = record { layout = layout; first = 0; len = layout_count layout }

-- the slots `from` up to, not with, `to`
abbrev pub cut : ColumnAt → ℕ → ℕ → ColumnAt
cut column from to = record column { first = column.first + from; len = to - from }

-- the column's slots are slots of the layout, and each has a place that a machine's word can name
pub record IsColumn (column : ColumnAt) : Type 0 where
  pub stands : IsLayout column.layout
  pub within : column.first + column.len ≤ layout_count column.layout
  pub small : column.first + column.len < 2 ^ 64

-- the values of the slots `from` up to, not with, `to` are those of the column, from one to the
-- other
abbrev pub ColumnSlicesKeepValues : Type 0
ColumnSlicesKeepValues = (column : ColumnAt) (from to : ℕ) → from ≤ to → to ≤ column.len →
    values_of (cut column from to) ≡ take (to - from) (drop from (values_of column))
