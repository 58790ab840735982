-- Tallies that are small, and tallies as the rows go by.
use Rattle.std.specs.Prelude.{◌≡◌, ◌≤◌, ◌<◌, ◌≤ℤ◌, ℕ, zero, suc, ◌*◌, ◌^◌, ℤ, pos, neg_ℤ, List}
use Rattle.std.specs.Prelude.{length, get_or, slice_get, slice_set, Some}
use Rattle.std.specs.List.{sum_by}
use Rattle.arrow_types.specs.declared.data_type.IntegerType.{IntegerType}
use Rattle.arrow_types.specs.declared.data_type.Cell.TheVariants.{Integer}
use Rattle.arrays.specs.declared.layout.Layout.{Layout}
use Rattle.arrays.specs.Batch.{row_of}
use Rattle.arrays.specs.Column.{ColumnAt}
use Rattle.arrays.specs.TypedLayouts.{LieIn}
use Rattle.typed_plan.specs.declared.plan.Aggregate.{Aggregate}
use Rattle.typed_plan.specs.declared.plan.Aggregate.TheVariants.{Key, CountRows, Count, Sum}
use Rattle.group_slots.specs.declared.tally.Tally.{Tally}
use Rattle.group_slots.specs.Tallies.{no_rows, added}

-- the slots are whole numbers of at most 64 bits
abbrev pub IsIntegers : Layout → Type 0
IsIntegers layout = (integer : IntegerType) × LieIn (Integer integer) layout

-- the number is no larger than one of 64 bits
pub record IsShort (number : ℤ) : Type 0 where
  pub low : neg_ℤ (pos (2 ^ 64)) ≤ℤ number
  pub high : number ≤ℤ pos (2 ^ 64)

-- the sum is no larger than that of so many numbers of 64 bits as were counted
pub record IsSmall (tally : Tally) : Type 0 where
  pub low : neg_ℤ (pos (2 ^ 64 * tally.count)) ≤ℤ tally.sum
  pub high : tally.sum ≤ℤ pos (2 ^ 64 * tally.count)

-- how many rows or values the tallies count in all
abbrev pub counted_in : List Tally → ℕ
counted_in tallies = sum_by (λ (tally : Tally). tally.count) tallies

-- the tallies count no more than so many in all, and each sum is small
pub record AreWithin (most : ℕ) (tallies : List Tally) : Type 0 where
  pub few : counted_in tallies ≤ most
  pub small : (group : ℕ) → group < length tallies → IsSmall (get_or tallies group no_rows)

-- the column that an item reads is there, and a sum's has whole numbers of at most 64 bits
abbrev pub CanCount : Aggregate → List ColumnAt → Type 0
CanCount (Key place) columns = Unit {0}
CanCount CountRows columns = Unit {0}
CanCount (Count column) columns = column < length columns
CanCount (Sum column) columns = (column < length columns)
    × ((found : ColumnAt) → slice_get columns column ≡ Some found → IsIntegers found.layout)

-- the tallies of groups after the first `fed` of some rows, each of which adds to its group's
abbrev pub stepped : Aggregate → List ColumnAt → List ℕ → List ℕ → List Tally → ℕ → List Tally
stepped item columns groups rows tallies zero = tallies
stepped item columns groups rows tallies (suc fed) =
    slice_set (stepped item columns groups rows tallies fed) (get_or groups fed 0)
    (added item
    (get_or (stepped item columns groups rows tallies fed) (get_or groups fed 0) no_rows)
    (row_of columns (get_or rows fed 0)))
