-- Columns of rows.
use Rattle.std.specs.Prelude.{ℕ, map}
use Rattle.table_versions.specs.Table.{Row}
use Rattle.typed_plan.specs.declared.plan.Columns.{Columns}
use Rattle.typed_plan.specs.TypedPlans.{types_taken}
use Rattle.row_sources.specs.Running.{RowsAt}
use Rattle.scan_base.specs.Predicate.{cell_in}
use Rattle.typed_plan.specs.declared.plan.Columns.TheVariants.{All, These}

-- the cells of these columns
abbrev pub cells : Columns → Row → Row
cells All row = row
cells (These numbers) row = map (cell_in row) numbers

-- these columns of rows
abbrev pub shown_of : Columns → RowsAt → RowsAt
shown_of columns rows = record rows {
  types = types_taken columns rows.types;
  ahead = map (λ (row : ℕ × Row). (row.0, cells columns row.1)) rows.ahead;
}
