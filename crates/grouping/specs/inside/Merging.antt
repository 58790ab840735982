-- Inside: what taking in the groups of other rows leaves.
use Rattle.std.specs.Prelude.{◌≡◌, ◌≤◌, ◌<◌, ℕ, zero, suc, All, List, [], length, get_or, slice_set}
use Rattle.indexmap.specs.IndexSet.{insert_all}
use Rattle.scan_base.specs.declared.value.Value.{Value}
use Rattle.arrays.specs.Batch.{BatchAt}
use Rattle.typed_plan.specs.GroupedRows.{same_key}
use Rattle.group_slots.specs.declared.tally.Tally.{Tally}
use Rattle.group_slots.specs.Tallies.{no_rows, both}
use Rattle.group_slots.specs.Counting.{AreWithin}
use Rattle.first_rows.specs.declared.key.RowKey.{RowKey}
use Rattle.grouping.specs.FoundKeys.{place_in}
use Rattle.grouping.specs.inside.Placing.{IsFirst}

-- the group of each of the first `count` of other keys is its place
pub record AreJoined (found others : List (List Value)) (groups : List ℕ) (count : ℕ) : Type 0 where
  pub long : length groups ≡ count
  pub each : (k : ℕ) → k < count → get_or groups k 0 ≡ place_in found (get_or others k [])
  pub there : (k : ℕ) → k < count → get_or groups k 0 < length found

-- first rows, and others, stay first rows
abbrev pub FirstsJoin : List RowKey → List RowKey → List RowKey → Type 0
FirstsJoin before others after = (batches : List BatchAt) (keys : List ℕ) →
    All (IsFirst batches keys) before → All (IsFirst batches keys) others →
    All (IsFirst batches keys) after

-- tallies of groups after the first `count` of others, each of which adds to its group's
abbrev pub joined_tallies : List ℕ → List Tally → List Tally → ℕ → List Tally
joined_tallies groups others tallies zero = tallies
joined_tallies groups others tallies (suc count) =
    slice_set (joined_tallies groups others tallies count) (get_or groups count 0)
    (both (get_or (joined_tallies groups others tallies count) (get_or groups count 0) no_rows)
    (get_or others count no_rows))

-- the tallies are those of before, and of no rows for each new group, with the others added
pub record AreTalliesJoined (groups : List ℕ) (others : List Tally) (found : ℕ)
    (before after : List Tally) : Type 0 where
  pub padded : List Tally
  pub long : length padded ≡ found
  pub same : (group : ℕ) → group < found → get_or padded group no_rows ≡ get_or before group no_rows
  pub is : after ≡ joined_tallies groups others padded (length groups)

-- the others are added to the tallies of each item before a place, and the rest are as they were
pub record AllJoined (groups : List ℕ) (others : List (List Tally)) (found most : ℕ)
    (before after : List (List Tally)) (place : ℕ) : Type 0 where
  pub joined : (item : ℕ) → item < place →
      AreTalliesJoined groups (get_or others item []) found (get_or before item [])
      (get_or after item [])
  pub small : (item : ℕ) → item < place → AreWithin most (get_or after item [])
  pub left : (item : ℕ) → place ≤ item → get_or after item [] ≡ get_or before item []

-- the keys of the other groups are found, and their tallies are added to those of the same keys
pub record IsMerged (found_before found_others found : List (List Value)) (items most : ℕ)
    (others before after : List (List Tally)) : Type 0 where
  pub found_is : found ≡ insert_all same_key found_before found_others
  pub groups : List ℕ
  pub placed : AreJoined found found_others groups (length found_others)
  pub all : AllJoined groups others (length found) most before after items
