use Rattle.std.proofs.Common.{◌≡◌, take, drop}
use Rattle.query_binder.specs.NameRules.{equality_fault}
use Rattle.typed_plan.specs.Faults.{first_in}
use Rattle.query_binder.specs.PlannedTree.{keys_of}
use Rattle.query_binder.proofs.joining.bind_on.Given as goal

abbrev pub invariant-loop-equality : goal.invariant-loop-equality
invariant-loop-equality l = record {
  made : l.keys ≡ keys_of l.seam l.scope (take l.equality-index l.on);
  left : first_in (equality_fault l.seam l.scope) l.on
      ≡ first_in (equality_fault l.seam l.scope) (drop l.equality-index l.on);
}
