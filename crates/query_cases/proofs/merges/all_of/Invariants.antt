use Rattle.std.proofs.Common.{◌<◌, ◌≤◌, All, length}
use Rattle.query_cases.proofs.merges.all_of.Given as goal

abbrev pub invariant-loop-row : goal.invariant-loop-row
invariant-loop-row l = All (λ row. row < l.row) l.rows × (length l.rows ≤ l.row)
