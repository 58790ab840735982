-- Inside: rows that are chosen before they are given.
use Rattle.std.specs.Prelude.{◌≡◌, true}
use Rattle.table_versions.specs.StoredTables.{TableAt}
use Rattle.row_sources.specs.declared.choice.Choice.{Choice}
use Rattle.row_sources.specs.declared.cursor.Cursor.{Cursor}
use Rattle.row_sources.specs.declared.batch_slice.BatchSlice.{BatchSlice}
use Rattle.row_sources.specs.declared.rows.Source.{Source}
use Rattle.row_sources.specs.declared.rows.Source.TheVariants.{Place, Joined}
use Rattle.row_sources.specs.Picking.{PickAt, chosen_rows}
use Rattle.row_sources.specs.PlaceCursor.{IsNextPart}

-- a choice that was made is that of the part that comes next
abbrev pub IsChoice : TableAt → Cursor → PickAt → Choice → Type 0
IsChoice table cursor pick choice = choice.made ≡ true → (part : BatchSlice) →
    IsNextPart table cursor part → choice.selection ≡ chosen_rows pick part

-- what holds of the choice of a source; of joined rows none is made
abbrev pub IsChoiceOf : Source → PickAt → Choice → Type 0
IsChoiceOf (Place place) pick choice = IsChoice place.table place.cursor pick choice
IsChoiceOf (Joined left joining) pick choice = Unit {0}
