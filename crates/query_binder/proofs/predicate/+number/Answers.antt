use Rattle.std.proofs.Common.{arith, ap, sym, ◌∙◌}
use Rattle.std.proofs.lemmas.Result.{err_from_is_err_and}
use Rattle.scan_base.specs.Predicate.{Pred}
use Rattle.scan_base.specs.View.{pred_of}
use Rattle.sql_query.specs.declared.query.Term.{Term}
use Rattle.typed_plan.specs.Faults.{predicate_fault}
use Rattle.query_binder.specs.NameClasses.{class_of_term}
use Rattle.query_binder.specs.Chain.{connected, first_predicate, link_of}
use Rattle.typed_plan.specs.NumberedPredicates.{predicate_bind}
use Rattle.typed_plan.specs.Scope.{term_operand}
use Rattle.typed_plan.specs.SettledLiterals.{settled}
use Rattle.query_binder.proofs.Chains.{operators, first_operators, side_operators, started, popped, chain_fault}
use Rattle.query_binder.proofs.Chains.{side_fault, bound_more}
use Rattle.std.proofs.Common.{map}
use Rattle.query_binder.proofs.predicate.+number.Goals as goal

pub number_chain-number_predicate-requires : goal.number_chain-number_predicate-requires
number_chain-number_predicate-requires t c = (
  omega (
    arith,
    c.decreases,
    first_operators (pred_of c.args.left.now),
    ap (λ (p : Pred Term). operators p) c.in_ok-first.ensures.first,
  ),
  tt,
)

pub number_chain-returns-in_err-bound : goal.number_chain-returns-in_err-bound
number_chain-returns-in_err-bound t c =
    let f = class_of_term c.args.scope.now in
    let left = pred_of c.args.left.now in
    let chain = started (record { connective = c.args.connective; predicate = c.args.right }) left
    c.new-sides.result.items c.push.new.self.items c.first_of.new.sides.items
    c.new-sides.ensures.items c.in_ok-push.ensures.items c.in_ok-first.ensures.behind in
    let p = err_from_is_err_and c.from_residual-in_err-bound.result c.from_residual-in_err-bound.ensures.1 in
    rw (p.1, p.2) (λ other. chain_fault c.args.scope.now f (first_predicate left) _ _ _ chain
    (ap (λ (p : Pred Term). predicate_fault f (settled c.args.scope.now p)) (sym c.in_ok-first.ensures.first) ∙ c.in_err-bound.ensures other))

pub number_chain-loop-side-init : goal.number_chain-loop-side-init
number_chain-loop-side-init t c =
    let f = class_of_term c.args.scope.now in
    let g = term_operand c.args.scope.now in
    let left = pred_of c.args.left.now in
    let first = c.in_ok-first.ensures.first in
    let chain = started (record { connective = c.args.connective; predicate = c.args.right }) left
    c.new-sides.result.items c.push.new.self.items c.first_of.new.sides.items
    c.new-sides.ensures.items c.in_ok-push.ensures.items c.in_ok-first.ensures.behind in (
      first_predicate left,
      chain,
      ap (λ (p : Pred Term). predicate_fault f (settled c.args.scope.now p)) (sym first) ∙ c.in_ok-bound.ensures.0,
      c.in_ok-bound.ensures.1
          ∙ ap (λ (p : Pred Term). predicate_bind g (settled c.args.scope.now p)) first,
    )

pub number_chain-number_predicate-requires-in-Some : goal.number_chain-number_predicate-requires-in-Some
number_chain-number_predicate-requires-in-Some t c =
    let (done, chain, clean, made) = c.loop-side.invariant in
    let side = c.in-Some.side in
    let left = popped done _ c.loop-side.sides.items c.pop.new.self.items side c.in-Some.ensures.items chain in
    let few = side_operators done (pred_of side.predicate.now) (pred_of c.args.left.now) (pred_of c.args.right.now)
    side.connective c.args.connective (map link_of c.pop.new.self.items) left in
    (omega (arith, c.decreases, few), tt)

pub number_chain-returns-in_err-right : goal.number_chain-returns-in_err-right
number_chain-returns-in_err-right t c =
    let f = class_of_term c.args.scope.now in
    let (done, chain, clean, made) = c.loop-side.invariant in
    let side = c.in-Some.side in
    let right = pred_of side.predicate.now in
    let left = popped done _ c.loop-side.sides.items c.pop.new.self.items side c.in-Some.ensures.items chain in
    let p = err_from_is_err_and c.from_residual-in_err-right.result c.from_residual-in_err-right.ensures.1 in
    rw (p.1, p.2) (λ other. chain_fault c.args.scope.now f (connected side.connective done right) _ _ _ left
    (side_fault c.args.scope.now f done right side.connective clean ∙ c.in_err-right.ensures other))

pub number_chain-loop-side-preserved : goal.number_chain-loop-side-preserved
number_chain-loop-side-preserved t c =
    let f = class_of_term c.args.scope.now in
    let g = term_operand c.args.scope.now in
    let (done, chain, clean, made) = c.loop-side.invariant in
    let side = c.in-Some.side in
    let right = pred_of side.predicate.now in
    let left = popped done _ c.loop-side.sides.items c.pop.new.self.items side c.in-Some.ensures.items chain in (
      connected side.connective done right,
      left,
      side_fault c.args.scope.now f done right side.connective clean ∙ c.in_ok-right.ensures.0,
      bound_more c.args.scope.now g side.connective done right _ _ _ c.in_ok-bound-2.ensures made c.in_ok-right.ensures.1,
    )

pub number_predicate-returns-in-In : goal.number_predicate-returns-in-In
number_predicate-returns-in-In t c = rw c.in-In.is (rw c.as_slice.ensures at c.number_in.ensures)
