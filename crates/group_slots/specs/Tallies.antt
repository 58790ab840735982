-- Tallies: what is kept of a group's rows for one item.
use Rattle.std.specs.Prelude.{◌+◌, ◌+ℤ◌, ◌==◌, if◌then◌else◌, pos, List}
use Rattle.std.specs.List.{fold}
use Rattle.scan_base.specs.declared.value.Value.{Value}
use Rattle.scan_base.specs.declared.value.Value.TheVariants.{Null, Int}
use Rattle.scan_base.specs.Predicate.{cell_in}
use Rattle.table_versions.specs.Table.{Row}
use Rattle.typed_plan.specs.declared.plan.Aggregate.{Aggregate}
use Rattle.typed_plan.specs.declared.plan.Aggregate.TheVariants.{Key, CountRows, Count, Sum}
use Rattle.typed_plan.specs.GroupedRows.{plus}
use Rattle.group_slots.specs.declared.tally.Tally.{Tally}

-- of no rows
abbrev pub no_rows : Tally
no_rows = record { count = 0; sum = pos 0 }

-- with a value more that counts where it is not null
abbrev pub counted : Tally → Value → Tally
counted tally Null = tally
counted tally value = record tally { count = tally.count + 1 }

-- with a value more that counts, and adds to the sum, where it is not null
abbrev pub summed : Tally → Value → Tally
summed tally Null = tally
summed tally value = record { count = tally.count + 1; sum = plus tally.sum value }

-- with a row more
abbrev pub added : Aggregate → Tally → Row → Tally
added (Key place) tally row = tally
added CountRows tally row = record tally { count = tally.count + 1 }
added (Count column) tally row = counted tally (cell_in row column)
added (Sum column) tally row = summed tally (cell_in row column)

-- the tally of rows
abbrev pub tally_of : Aggregate → List Row → Tally
tally_of item rows = fold (added item) no_rows rows

-- of the rows of both
abbrev pub both : Tally → Tally → Tally
both a b = record { count = a.count + b.count; sum = a.sum +ℤ b.sum }

-- what an item gives of a group of this key and this tally
abbrev pub item_value : List Value → Aggregate → Tally → Value
item_value key (Key place) tally = cell_in key place
item_value key CountRows tally = Int (pos tally.count)
item_value key (Count column) tally = Int (pos tally.count)
item_value key (Sum column) tally = if tally.count == 0 then Null else Int tally.sum
