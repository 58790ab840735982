use Rattle.std.proofs.Common.{◌≡◌, drop}
use Rattle.rewrite.specs.Uses.{with_keys}
use Rattle.rewrite.proofs.used_columns.mark_keys.Given as goal

-- what is marked, and then what is still to be marked
abbrev pub invariant-loop-key : goal.invariant-loop-key
invariant-loop-key l = with_keys (drop l.key-index l.on) l.uses ≡ with_keys l.on l.fn.uses
