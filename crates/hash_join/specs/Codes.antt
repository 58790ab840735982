-- Inside: codes of dictionaries, and numbers, that stand for values of a column.
use Rattle.std.specs.Prelude.{◌≡◌, ℕ, ◌+◌, ℤ, pos, Option, Some, None, if◌then◌else◌}
use Rattle.scan_base.specs.declared.value.Value.{Value}
use Rattle.scan_base.specs.declared.value.Value.TheVariants.{Bool as Flag, Int}
use Rattle.arrays.specs.declared.layout.Layout.{Layout}
use Rattle.arrays.specs.declared.layout.Layout.TheVariants as layout
use Rattle.arrays.specs.Column.{ColumnAt}
use Rattle.arrays.specs.Layout.{layout_slot}
use Rattle.arrays.specs.Number.{integer_at}
use Rattle.arrays.specs.Validity.{is_valid}

-- the code at a place; none where it is not valid, or the slots have no codes
abbrev pub valid_layout_code : Layout → ℕ → Option ℤ
valid_layout_code (layout.Indices cells) place =
    if is_valid cells.validity place then Some (integer_at cells.index cells.values place) else None
valid_layout_code _ place = None

-- the code of a slot of a column
abbrev pub column_code : ColumnAt → ℕ → Option ℤ
column_code column row = valid_layout_code column.layout (column.first + row)

-- the number that a value is, or that a truth value stands for; none of a text or a null
abbrev pub value_number : Value → Option ℤ
value_number (Flag flag) = Some (if flag then pos 1 else pos 0)
value_number (Int number) = Some number
value_number _ = None

-- the code at a place, where the slots have codes, and else the number of its value
abbrev pub layout_number : Layout → ℕ → Option ℤ
layout_number (layout.Indices cells) place = valid_layout_code (layout.Indices cells) place
layout_number slots place = value_number (layout_slot slots place)

-- the code or the number of a slot of a column
abbrev pub column_number : ColumnAt → ℕ → Option ℤ
column_number column row = layout_number column.layout (column.first + row)

-- both codes are there, and are the same
abbrev pub AreOne : Option ℤ → Option ℤ → Type 0
AreOne (Some code) (Some other) = code ≡ other
AreOne _ _ = ⊥
