-- Inside: what feeding rows leaves of the keys and the tallies.
use Rattle.std.specs.Prelude.{◌≡◌, ℕ, List, length, map}
use Rattle.scan_base.specs.declared.value.Value.{Value}
use Rattle.arrays.specs.Batch.{row_of}
use Rattle.arrays.specs.Column.{ColumnAt}
use Rattle.typed_plan.specs.declared.plan.Aggregate.{Aggregate}
use Rattle.group_slots.specs.declared.tally.Tally.{Tally}
use Rattle.group_slots.specs.Adding.{AreAdded}
use Rattle.grouping.specs.FoundKeys.{found_then}
use Rattle.grouping.specs.inside.Placing.{ArePlaced}

-- the keys of the rows are found, and the rows are added to the tallies of their groups
pub record IsGrown (items : List Aggregate) (columns : List ColumnAt) (keys rows : List ℕ)
    (found_before found : List (List Value))
    (fed : ℕ) (before after : List (List Tally)) : Type 0 where
  pub found_is : found ≡ found_then keys found_before (map (row_of columns) rows)
  pub groups : List ℕ
  pub placed : ArePlaced keys columns found rows groups (length rows)
  pub added : AreAdded items columns rows groups (length found) fed before after (length items)
