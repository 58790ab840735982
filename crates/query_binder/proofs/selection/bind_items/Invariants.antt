use Rattle.std.proofs.Common.{◌≡◌, ◌++◌, take, drop, map}
use Rattle.typed_plan.specs.Faults.{first_in}
use Rattle.query_binder.specs.SelectList.{column_fault}
use Rattle.query_binder.specs.PlannedTree.{number_of_item}
use Rattle.query_binder.specs.ResultSchema.{list_fields}
use Rattle.query_binder.proofs.selection.bind_items.Given as goal

abbrev pub invariant-loop-index : goal.invariant-loop-index
invariant-loop-index l = record {
  numbers : l.numbers ≡ map (number_of_item l.scope) (take l.index l.items);
  fields : list_fields l.scope 0 l.items ≡ l.fields ++ list_fields l.scope l.index (drop l.index l.items);
  left : first_in (λ item. column_fault l.scope item.expression) l.items
      ≡ first_in (λ item. column_fault l.scope item.expression) (drop l.index l.items);
}
