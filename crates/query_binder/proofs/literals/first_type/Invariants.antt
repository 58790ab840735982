use Rattle.std.proofs.Common.{◌≡◌, drop}
use Rattle.typed_plan.specs.SettledLiterals.{first_type}
use Rattle.query_binder.proofs.literals.first_type.Given as goal

abbrev pub invariant-loop-item : goal.invariant-loop-item
invariant-loop-item l = first_type l.scope l.items ≡ first_type l.scope (drop l.item-index l.items)
