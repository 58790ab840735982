-- What adding rows leaves of the tallies of an item.
use Rattle.std.specs.Prelude.{◌≡◌, ◌<◌, ◌≤◌, ℕ, ◌+◌, List, [], length, map, get_or}
use Rattle.arrays.specs.Column.{ColumnAt}
use Rattle.typed_plan.specs.declared.plan.Aggregate.{Aggregate}
use Rattle.typed_plan.specs.declared.plan.Aggregate.TheVariants.{Key}
use Rattle.group_slots.specs.declared.item_tallies.ItemTallies.{ItemTallies}
use Rattle.group_slots.specs.declared.tally.Tally.{Tally}
use Rattle.group_slots.specs.Tallies.{no_rows}
use Rattle.group_slots.specs.Counting.{AreWithin, CanCount, stepped}
use Rattle.group_slots.specs.HeldTallies.{tallies_in}

-- the tallies are those of before, and of no rows for each new group, with the rows added
pub record IsAdded (item : Aggregate) (columns : List ColumnAt) (rows groups : List ℕ) (found : ℕ)
    (before after : List Tally) : Type 0 where
  pub padded : List Tally
  pub long : length padded ≡ found
  pub same : (group : ℕ) → group < found → get_or padded group no_rows ≡ get_or before group no_rows
  pub stepped : after ≡ stepped item columns groups rows padded (length rows)

-- the tallies of each item, as lists
abbrev pub lists_of : List ItemTallies → List (List Tally)
lists_of tallies = map tallies_in tallies

-- the column that each item reads is there, and a sum's has whole numbers of at most 64 bits
pub record CanCountAll (items : List Aggregate) (columns : List ColumnAt) : Type 0 where
  pub each : (item : ℕ) → item < length items → CanCount (get_or items item (Key 0)) columns

-- there is a list of tallies for each item, one for each group that was found, of no more than so
-- many rows
pub record IsKept (items : List Aggregate) (found : ℕ) (count : ℕ)
    (tallies : List (List Tally)) : Type 0 where
  pub many : length tallies ≡ length items
  pub long : (item : ℕ) → item < length items → length (get_or tallies item []) ≡ found
  pub small : (item : ℕ) → item < length items → AreWithin count (get_or tallies item [])

-- the rows are added to the tallies of each item before a place, and the others are as they were
pub record AreAdded (items : List Aggregate) (columns : List ColumnAt) (rows groups : List ℕ)
    (found fed : ℕ) (before after : List (List Tally)) (place : ℕ) : Type 0 where
  pub added : (item : ℕ) → item < place → IsAdded (get_or items item (Key 0)) columns rows groups
      found (get_or before item []) (get_or after item [])
  pub small : (item : ℕ) → item < place → AreWithin (fed + length rows) (get_or after item [])
  pub left : (item : ℕ) → place ≤ item → get_or after item [] ≡ get_or before item []
