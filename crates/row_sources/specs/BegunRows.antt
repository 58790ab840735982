-- Rows of a tree, before the first one.
use Rattle.std.specs.Prelude.{◌≡◌, ℕ, All, List, [], ◌∷◌, length, map}
use Rattle.std.specs.List.{AllZip}
use Rattle.arrow_types.specs.Answer.{LiesAs}
use Rattle.table_versions.specs.StoredTables.{TableAt}
use Rattle.table_versions.specs.Table.{Row}
use Rattle.typed_plan.specs.Plan.{Tree}
use Rattle.typed_plan.specs.TypedPlans.{tree_types}
use Rattle.rewrite.specs.Places.{rows_over}
use Rattle.row_sources.specs.Parts.{first_batches, further_rows, numbered_parts, numbered_rows}
use Rattle.batch_skipping.specs.OpenedBatches.{batches_in}
use Rattle.row_sources.specs.Running.{RowsAt}

-- the rows that a tree gives of rows `from` up to, not with, `to` of its first place, each with the
-- number of its batch
abbrev pub tree_given : Tree → List TableAt → ℕ → ℕ → List (ℕ × Row)
tree_given tree tables from to =
    numbered_rows
    (map (λ (part : ℕ × List Row). (part.0, rows_over tree (part.1 ∷ further_rows tables)))
    (numbered_parts from to (first_batches tables)))

-- rows before the first one: their columns lie as those of the tree, all that it gives of a range
-- are to come, each as wide as there are types, and no batch of the first place was opened
pub record IsBegun (tree : Tree) (tables : List TableAt) (from to : ℕ)
    (rows : RowsAt) : Type 0 where
  pub types : AllZip LiesAs (tree_types tree) rows.types
  pub ahead : rows.ahead ≡ tree_given tree tables from to
  pub wide : All (λ (row : ℕ × Row). length row.1 ≡ length rows.types) rows.ahead
  pub batches : rows.batches ≡ batches_in from to (first_batches tables)
  pub opened : rows.opened ≡ []
