use Rattle.std.proofs.Common.{◌≡◌, ◌++◌, take, drop, map}
use Rattle.typed_plan.specs.Faults.{first_in}
use Rattle.query_binder.specs.SelectList.{aggregate_fault}
use Rattle.query_binder.specs.PlannedTree.{aggregate_of}
use Rattle.query_binder.specs.ResultSchema.{list_fields}
use Rattle.query_binder.proofs.group_by.Key.bind_aggregates.Given as goal

abbrev pub invariant-loop-index : goal.invariant-loop-index
invariant-loop-index l = record {
  made : l.aggregates ≡ map (λ item. aggregate_of l.self.scope.now l.self.numbers.now item.expression) (take l.index l.items);
  fields : list_fields l.self.scope.now 0 l.items ≡ l.fields ++ list_fields l.self.scope.now l.index (drop l.index l.items);
  left : first_in (λ item. aggregate_fault l.self.scope.now l.self.numbers.now item.expression) l.items
      ≡ first_in (λ item. aggregate_fault l.self.scope.now l.self.numbers.now item.expression) (drop l.index l.items);
}
