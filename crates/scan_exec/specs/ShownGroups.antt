-- Inside: groups of which each different item is made once.
use Rattle.std.specs.Prelude.{◌≡◌, ℕ, IsTrue, List, [], length, map, Option}
use Rattle.table_versions.specs.Table.{Row}
use Rattle.typed_plan.specs.TypedPlans.{type_at}
use Rattle.batch_skipping.specs.ChosenColumns.{are_within}
use Rattle.row_sources.specs.declared.picker.Picker.{Picker}
use Rattle.row_sources.specs.Picking.{cells_at}
use Rattle.scan_exec.specs.Giving.{GivingAt}

-- what is to be given, with the cells of these numbers
abbrev pub with_cells : List ℕ → GivingAt → GivingAt
with_cells numbers giving = record giving {
  types = map (type_at giving.types) numbers;
  ahead = map (λ (row : Option ℕ × Row). (row.0, cells_at numbers row.1)) giving.ahead;
}

-- all rows are shown, with columns that are there
pub record ShowsAll (giving : GivingAt) (picker : Picker) : Type 0 where
  pub all : picker.filters.items ≡ []
  pub unread : picker.read.items ≡ []
  pub there : IsTrue (are_within (length giving.types) picker.shown.items)
