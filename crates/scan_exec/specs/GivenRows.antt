-- The rows that a plan gives of the rows of its places.
use Rattle.std.specs.Prelude.{ℕ, if◌then◌else◌, List, ◌∷◌, map, Option, Some, None}
use Rattle.std.specs.List.{flat_map}
use Rattle.arrays.specs.Batch.{rows_of}
use Rattle.table_versions.specs.Table.{Row}
use Rattle.typed_plan.specs.JoinedRows.{rows_between}
use Rattle.typed_plan.specs.Plan.{output_rows}
use Rattle.typed_plan.specs.TypedPlans.{is_grouping}
use Rattle.typed_plan.specs.View.{BoundAt, plan_of}
use Rattle.rewrite.specs.Places.{rows_over}
use Rattle.row_sources.specs.Parts.{further_rows, first_batches, numbered_parts}

-- the rows of a plan, where these are the rows of its first place
abbrev pub rows_from : BoundAt → List Row → List Row
rows_from bound rows =
    output_rows bound.output (rows_over (plan_of bound).tree (rows ∷ further_rows bound.tables))

-- What a plan gives of the rows `from` up to, not with, `to` of its first place: each row with the
-- number of the batch of that place of which it comes. A group comes of no one batch.
abbrev pub given_of : BoundAt → ℕ → ℕ → List (Option ℕ × Row)
given_of bound from to =
    let batches = first_batches bound.tables in
    if is_grouping bound.output
    then map (λ row. (None, row))
    (rows_from bound (rows_between from to (flat_map rows_of batches)))
    else flat_map (λ part. map (λ row. (Some part.0, row)) (rows_from bound part.1))
    (numbered_parts from to batches)
