use Rattle.std.proofs.Common.{◌≡◌, ◌+◌, ◌*◌, None, map, vec_len}
use Rattle.scan_base.specs.Predicate.{Pred}
use Rattle.scan_base.specs.View.{pred_of}
use Rattle.sql_query.specs.declared.query.Term.{Term}
use Rattle.typed_plan.specs.Faults.{predicate_fault}
use Rattle.query_binder.specs.NameClasses.{class_of_term}
use Rattle.query_binder.specs.Chain.{connected, link_of}
use Rattle.typed_plan.specs.NumberedPredicates.{predicate_bind}
use Rattle.typed_plan.specs.Scope.{term_operand}
use Rattle.typed_plan.specs.SettledLiterals.{settled}
use Rattle.query_binder.proofs.Chains.{chained, operators}
use Rattle.query_binder.proofs.predicate.+number.Given as goal

abbrev pub decreases-number_predicate : goal.decreases-number_predicate
decreases-number_predicate l = 2 * operators (pred_of l.predicate.now)

abbrev pub decreases-number_chain : goal.decreases-number_chain
decreases-number_chain l = 2 * (operators (pred_of l.left.now) + operators (pred_of l.right.now)) + 1

abbrev pub decreases-number_truth_test : goal.decreases-number_truth_test
decreases-number_truth_test l = 2 * operators (pred_of l.predicate.now) + 1

-- what is bound so far is without a fault, and the sides that are left stand after it
abbrev pub invariant-number_chain-loop-side : goal.invariant-number_chain-loop-side
invariant-number_chain-loop-side l =
    (done : Pred Term)
    × (chained done (map link_of l.sides.items) ≡ connected l.fn.connective (pred_of l.left) (pred_of l.right))
    × (predicate_fault (class_of_term l.scope) (settled l.scope done) ≡ None)
    × (pred_of l.bound ≡ predicate_bind (term_operand l.scope) (settled l.scope done))

abbrev pub decreases-number_chain-loop-side : goal.decreases-number_chain-loop-side
decreases-number_chain-loop-side l = vec_len l.sides
