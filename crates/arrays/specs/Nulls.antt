-- Which slots of a column are null, and how many.
use Rattle.std.specs.Prelude.{◌≡◌, ◌<◌, ℕ, false, not, List, Bool, length, map, get_or}
use Rattle.std.specs.List.{filter}
use Rattle.scan_base.specs.declared.value.Value.{Value}
use Rattle.scan_base.specs.Value.{is_null}
use Rattle.arrays.specs.declared.nulls.Nulls.{Nulls}
use Rattle.arrays.specs.declared.nulls.Nulls.TheVariants.{Nowhere, AtZeros, AtValues}
use Rattle.arrays.specs.Column.{ColumnAt, values_of}

-- how many slots are null
abbrev pub null_count : ColumnAt → ℕ
null_count column = length (filter is_null (values_of column))

-- which slots are not
abbrev pub valid_slots : ColumnAt → List Bool
valid_slots column = map (λ value. not (is_null value)) (values_of column)

-- where the nulls of `len` slots are: nowhere, or at the bits that are 0; or it takes the values to
-- tell
abbrev pub AreAt : Nulls → ℕ → (ℕ → Value) → Type 0
AreAt Nowhere len slot = (place : ℕ) → place < len → is_null (slot place) ≡ false
AreAt (AtZeros bits) len slot =
    (length bits.now ≡ len)
    × ((place : ℕ) → place < len → is_null (slot place) ≡ not (get_or bits.now place false))
AreAt AtValues len slot = Unit {0}
