-- Inside: cells of the answer.
use Rattle.std.specs.Prelude.{ℕ, ◌==◌, ℤ, if◌then◌else◌, List, Option, Some, None}
use Rattle.scan_base.specs.declared.value.Value.{Value}
use Rattle.scan_base.specs.Predicate.{cell_in}
use Rattle.arrays.specs.Batch.{BatchAt}
use Rattle.group_slots.specs.declared.tally.Tally.{Tally}
use Rattle.grouping.specs.Answers.{placed_row}
use Rattle.grouping.specs.declared.key.Place.{Place}

-- the sum of a tally, none where nothing is summed
abbrev pub sum_or_none : Tally → Option ℤ
sum_or_none tally = if tally.count == 0 then None else Some tally.sum

-- the cell of a first row
abbrev pub first_cell : List BatchAt → ℕ → Place → Value
first_cell batches column first = cell_in (placed_row batches first) column
