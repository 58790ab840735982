-- Tallies as they are held.
use Rattle.std.specs.Prelude.{◌≡◌, ◌<◌, ℕ, ◌-◌, pos, List, ◌++◌, length, map, get_or, take}
use Rattle.std.specs.Prelude.{replicate}
use Rattle.group_slots.specs.declared.item_tallies.ItemTallies.{ItemTallies}
use Rattle.group_slots.specs.declared.item_tallies.ItemTallies.TheVariants.{Counts, Sums}
use Rattle.group_slots.specs.declared.tally.Tally.{Tally}
use Rattle.group_slots.specs.Tallies.{no_rows}

-- a count, as a tally that sums nothing
abbrev pub count_tally : ℕ → Tally
count_tally count = record { count = count; sum = pos 0 }

-- counts, as tallies
abbrev pub count_tallies : List ℕ → List Tally
count_tallies counts = map count_tally counts

-- the tallies of an item, held either way
abbrev pub tallies_in : ItemTallies → List Tally
tallies_in (Counts counts) = count_tallies counts.items
tallies_in (Sums sums) = sums.items

-- so many tallies: those of before, and then those of no rows
abbrev pub padded : ℕ → List Tally → List Tally
padded groups tallies = take groups tallies ++ replicate (groups - length tallies) no_rows

-- so many tallies of no rows
pub record AreBlank (groups : ℕ) (tallies : List Tally) : Type 0 where
  pub long : length tallies ≡ groups
  pub each : (group : ℕ) → group < groups → get_or tallies group no_rows ≡ no_rows
