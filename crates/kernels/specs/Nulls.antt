-- Inside: which slots are null, by their validity bits.
use Rattle.std.specs.Prelude.{◌≡◌, ℕ, Bool, not, List, length, Option, Some, None}
use Rattle.std.specs.Coded.{coded_ℕ, Coded-set, Unit-prop}
use Rattle.scan_base.specs.declared.truth.Truth.{Truth}
use Rattle.scan_base.specs.Truth.{truth_from}
use Rattle.scan_base.specs.Value.{is_null}
use Rattle.arrays.specs.declared.layout.Layout.{Layout}
use Rattle.arrays.specs.Layout.{layout_count, layout_slot}
use Rattle.arrays.specs.Validity.{is_valid, IsLong}

-- the truth of IS NULL of a slot whose validity bit tells
abbrev pub null_truth : Option (List Bool) → ℕ → Truth
null_truth validity place = truth_from (not (is_valid validity place))

-- these are validity bits of all slots of a layout, and a slot is null just where it is not valid
pub record TellsNulls (layout : Layout) (validity : Option (List Bool)) : Type 0 where
  pub long : IsLong validity (layout_count layout)
  pub nulls : (place : ℕ) → is_null (layout_slot layout place) ≡ not (is_valid validity place)

-- that validity bits are those of so many slots is one fact: a struct may hold it
pub IsLong-prop : (validity : Option (List Bool)) (len : ℕ) → IsProp (IsLong validity len)
IsLong-prop None len = Unit-prop
IsLong-prop (Some bits) len = Coded-set coded_ℕ (length bits) len
