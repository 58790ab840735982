-- Inside: items and columns of keys that differ, and which of them others are.
use Rattle.std.specs.Prelude.{◌≡◌, ℕ, Bool, true, List, length, map, get_or}
use Rattle.std.specs.List.{list_all}
use Rattle.typed_plan.specs.declared.plan.Aggregate.{Aggregate}
use Rattle.typed_plan.specs.declared.plan.Aggregate.TheVariants.{Key}
use Rattle.batch_skipping.specs.ChosenColumns.{are_within}

-- the item at a place
abbrev pub item_at : List Aggregate → ℕ → Aggregate
item_at items place = get_or items place (Key 0)

-- these items stand for others, each at its place, and what holds of all of those holds of them
pub record StandFor (items some : List Aggregate) (places : List ℕ) : Type 0 where
  pub each : map (item_at some) places ≡ items
  pub there : are_within (length some) places ≡ true
  pub among : (test : Aggregate → Bool) → list_all test items ≡ true → list_all test some ≡ true

-- the column at a place
abbrev pub column_at : List ℕ → ℕ → ℕ
column_at columns place = get_or columns place 0

-- these columns stand for those of a key, each at its place, and what holds of all of those holds
-- of them
pub record KeyedBy (keys columns places : List ℕ) : Type 0 where
  pub each : map (column_at columns) places ≡ keys
  pub there : are_within (length columns) places ≡ true
  pub among : (test : ℕ → Bool) → list_all test keys ≡ true → list_all test columns ≡ true

-- an item of groups by a key, where they are made by the columns at these places
abbrev pub item_by : List ℕ → Aggregate → Aggregate
item_by places (Key place) = Key (get_or places place 0)
item_by places item = item
