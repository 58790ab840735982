use Rattle.std.proofs.Common.{◌≡◌, drop}
use Rattle.rewrite.specs.Uses.{with_uses}
use Rattle.rewrite.proofs.used_columns.mark_columns.Given as goal

-- what is marked, and then what is still to be marked
abbrev pub invariant-loop-column : goal.invariant-loop-column
invariant-loop-column l = with_uses (drop l.column-index l.columns) l.uses ≡ with_uses l.columns l.fn.uses
