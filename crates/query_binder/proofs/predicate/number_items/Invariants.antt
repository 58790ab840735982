use Rattle.std.proofs.Common.{◌≡◌, take, drop, map, Ok}
use Rattle.typed_plan.specs.Scope.{term_operand}
use Rattle.typed_plan.specs.SettledLiterals.{settled_item}
use Rattle.typed_plan.specs.Faults.{items_fault}
use Rattle.query_binder.specs.NameClasses.{class_of_term}
use Rattle.typed_plan.specs.NumberedPredicates.{operand_bind}
use Rattle.query_binder.proofs.predicate.number_items.Given as goal

abbrev pub invariant-loop-item : goal.invariant-loop-item
invariant-loop-item l = record {
  made : l.bound ≡ map (operand_bind (term_operand l.scope)) (map (settled_item l.scope l.left.beside l.left.operand.now) (take l.item-index l.items));
  left : items_fault (class_of_term l.scope) (Ok l.left.class) (map (settled_item l.scope l.left.beside l.left.operand.now) l.items)
      ≡ items_fault (class_of_term l.scope) (Ok l.left.class) (map (settled_item l.scope l.left.beside l.left.operand.now) (drop l.item-index l.items));
}
