use Rattle.std.proofs.Common.{◌≡◌, take, drop, map}
use Rattle.typed_plan.specs.Faults.{fault_in, first_in}
use Rattle.typed_plan.specs.Scope.{column_of, numbered}
use Rattle.query_binder.proofs.group_by.bind_keys.Given as goal

abbrev pub invariant-loop-name : goal.invariant-loop-name
invariant-loop-name l = record {
  made : l.keys ≡ map (numbered l.scope) (take l.name-index l.names);
  left : first_in (λ name. fault_in (column_of l.scope name)) l.names
      ≡ first_in (λ name. fault_in (column_of l.scope name)) (drop l.name-index l.names);
}
