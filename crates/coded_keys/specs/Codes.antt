-- Inside: codes of cells.
use Rattle.std.specs.Prelude.{ℕ, ◌+◌}
use Rattle.scan_base.specs.declared.value.Value.{Value}
use Rattle.scan_base.specs.declared.value.Value.TheVariants.{Int}
use Rattle.arrays.specs.declared.layout.Layout.{Layout}
use Rattle.arrays.specs.declared.layout.Layout.TheVariants as layout
use Rattle.arrays.specs.Column.{ColumnAt}
use Rattle.arrays.specs.Layout.{layout_slot}
use Rattle.arrays.specs.Number.{integer_at}
use Rattle.arrays.specs.Validity.{where_valid}

-- the code at a place: of an index that is valid the index itself, and else the value
abbrev pub layout_code : Layout → ℕ → Value
layout_code (layout.Indices cells) place =
    where_valid cells.validity (λ at. Int (integer_at cells.index cells.values at)) place
layout_code slots place = layout_slot slots place

-- the code of a slot of a column
abbrev pub code_of : ColumnAt → ℕ → Value
code_of column row = layout_code column.layout (column.first + row)
