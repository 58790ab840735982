-- Rows from one to another.
use Rattle.std.proofs.Common.{◌≡◌, ℕ, ◌-◌, List, length, take, drop, max, min, sym, ap, ◌∙◌, arith, length-drop}
use Rattle.std.proofs.lemmas.List.{take_min}
use Rattle.table_versions.specs.Table.{Row}
use Rattle.typed_plan.specs.JoinedRows.{rows_between}

-- a range may end with the rows, and not before it begins
pub clamped : (from to : ℕ) (rows : List Row) →
    rows_between from (max (min to (length rows)) from) rows ≡ rows_between from to rows
clamped from to rows =
    let size = length-drop from rows in
    let same : min (max (min to (length rows)) from - from) (length (drop from rows))
    ≡ min (to - from) (length (drop from rows)) = omega (arith, size) in
    sym (take_min (max (min to (length rows)) from - from) (drop from rows))
    ∙ ap (λ (n : ℕ). take n (drop from rows)) same ∙ take_min (to - from) (drop from rows)
