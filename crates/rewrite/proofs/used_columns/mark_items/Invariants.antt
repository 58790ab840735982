use Rattle.std.proofs.Common.{◌≡◌, drop}
use Rattle.rewrite.specs.Uses.{with_items}
use Rattle.rewrite.proofs.used_columns.mark_items.Given as goal

-- what is marked, and then what is still to be marked
abbrev pub invariant-loop-item : goal.invariant-loop-item
invariant-loop-item l = with_items (drop l.item-index l.items) l.uses ≡ with_items l.items l.fn.uses
