-- What a plan without groups gives, row by row of its tree.
use Rattle.std.proofs.Common.{◌≡◌, ℕ, List, [], ◌∷◌, ◌++◌, map, map-id, Option, Some, refl, sym, ap, ◌∙◌}
use Rattle.std.specs.List.{flat_map}
use Rattle.std.proofs.lemmas.List.{map-append}
use Rattle.std.proofs.lemmas.Simd.{map-map}
use Rattle.table_versions.specs.Table.{Row}
use Rattle.typed_plan.specs.declared.plan.Columns.{Columns}
use Rattle.typed_plan.specs.declared.plan.Columns.TheVariants.{All, These}
use Rattle.typed_plan.specs.declared.plan.Output.TheVariants.{Project}
use Rattle.typed_plan.specs.Plan.{taken}
use Rattle.typed_plan.specs.View.{BoundAt, plan_of, tree_of}
use Rattle.row_sources.specs.BegunRows.{tree_given}
use Rattle.rewrite.specs.Places.{rows_over}
use Rattle.row_sources.specs.Parts.{further_rows, first_batches, numbered_parts, numbered_rows}
use Rattle.scan_exec.specs.GivenRows.{given_of}
use Rattle.row_sources.specs.Showing.{cells}

pub taken_cells : (columns : Columns) (rows : List Row) → taken columns rows ≡ map (cells columns) rows
taken_cells All rows = sym (map-id rows)
taken_cells (These numbers) rows = refl

-- a row of a tree, as it is given
abbrev pub given_row : Columns → ℕ × Row → Option ℕ × Row
given_row columns row = (Some row.0, cells columns row.1)

-- each row of the parts is given with its number
parts_given : (columns : Columns) (give : List Row → List Row) (some : List (ℕ × List Row)) →
    flat_map (λ (part : ℕ × List Row). map (λ row. (Some part.0, row)) (taken columns (give part.1))) some
    ≡ map (given_row columns) (numbered_rows (map (λ (part : ℕ × List Row). (part.0, give part.1)) some))
parts_given columns give [] = refl
parts_given columns give (part ∷ some) =
    let rows = give part.1 in
    let numbered : List (ℕ × Row) = map (λ row. (part.0, row)) rows in
    let rest = numbered_rows (map (λ (one : ℕ × List Row). (one.0, give one.1)) some) in
    let to_given : List Row → List (Option ℕ × Row) = λ some_rows. map (λ row. (Some part.0, row)) some_rows in
    let first : to_given (taken columns rows) ≡ map (given_row columns) numbered =
    ap to_given (taken_cells columns rows)
    ∙ map-map (λ row. (Some part.0, row)) (cells columns) rows
    ∙ sym (map-map (given_row columns) (λ row. (part.0, row)) rows) in
    ap (λ (more : List (Option ℕ × Row)). to_given (taken columns rows) ++ more) (parts_given columns give some)
    ∙ ap (λ (front : List (Option ℕ × Row)). front ++ map (given_row columns) rest) first
    ∙ sym (map-append (given_row columns) numbered rest)

pub scan_given : (bound : BoundAt) (columns : Columns) (from to : ℕ) → bound.output ≡ Project columns →
    given_of bound from to
    ≡ map (λ (row : ℕ × Row). (Some row.0, cells columns row.1)) (tree_given (plan_of bound).tree bound.tables from to)
scan_given bound columns from to plain =
    rw plain
    (parts_given columns (λ rows. rows_over (tree_of bound.plan) (rows ∷ further_rows bound.tables))
    (numbered_parts from to (first_batches bound.tables)))
