-- Inside: slots none of which is null where it is valid.
use Rattle.std.specs.Prelude.{◌≡◌, ◌<◌, ℕ, true, false}
use Rattle.scan_base.specs.Value.{is_null}
use Rattle.arrays.specs.declared.layout.Layout.{Layout}
use Rattle.arrays.specs.Validity.{is_valid}
use Rattle.arrays.specs.Layout.{layout_count, layout_slot, layout_validity}

-- no valid slot is null
abbrev pub AreNoNulls : Layout → Type 0
AreNoNulls slots = (place : ℕ) → place < layout_count slots →
    is_valid (layout_validity slots) place ≡ true → is_null (layout_slot slots place) ≡ false
