-- A chain is bound from its first predicate on, and each predicate of it is smaller than it.
use Rattle.std.proofs.Common.{◌≡◌, ℕ, ◌+◌, ◌≤◌, List, [], ◌∷◌, ◌++◌, map, Some, None, Result, arith, refl}
use Rattle.std.proofs.Common.{ap, sym, ◌∙◌}
use Rattle.std.proofs.lemmas.List.{map-append}
use Rattle.scan_base.specs.declared.fault.Fault.{Fault}
use Rattle.scan_base.specs.Predicate.{Pred, conjunction, disjunction, negation, truth_test, comparing, between}
use Rattle.scan_base.specs.Predicate.{membership, null_test, constant}
use Rattle.sql_query.specs.declared.query.Term.{Term}
use Rattle.query_binder.specs.declared.chain.Connective.{Connective}
use Rattle.query_binder.specs.declared.chain.Connective.TheVariants.{And, Or}
use Rattle.typed_plan.specs.declared.class.Class.{Class}
use Rattle.typed_plan.specs.Faults.{◌then◌, predicate_fault}
use Rattle.scan_base.specs.View.{pred_of}
use Rattle.query_binder.specs.declared.chain.ChainLink.{ChainLink}
use Rattle.query_binder.specs.Chain.{LinkAt, link_of, connected, first_predicate, links_of}
use Rattle.scan_base.specs.declared.predicate.Operand.{Operand}
use Rattle.typed_plan.specs.NumberedPredicates.{predicate_bind}
use Rattle.typed_plan.specs.Scope.{Scope}
use Rattle.typed_plan.specs.SettledLiterals.{settled}

-- how many operators a predicate has
abbrev pub operators : {C : Type 0} → Pred C → ℕ
operators (conjunction p q) = 1 + (operators p + operators q)
operators (disjunction p q) = 1 + (operators p + operators q)
operators (negation p) = 1 + operators p
operators (truth_test negated tested p) = 1 + operators p
operators (comparing comparison left right) = 0
operators (between negated operand low high) = 0
operators (membership negated operand items) = 0
operators (null_test negated operand) = 0
operators (constant truth) = 0

-- a predicate with these after it, the last first
abbrev pub chained : Pred Term → List LinkAt → Pred Term
chained p [] = p
chained p (side ∷ sides) = connected side.connective (chained p sides) side.predicate

pub chained_first : (p : Pred Term) → chained (first_predicate p) (links_of p) ≡ p
chained_first (conjunction p q) = ap (λ left. conjunction left q) (chained_first p)
chained_first (disjunction p q) = ap (λ left. disjunction left q) (chained_first p)
chained_first (negation p) = refl
chained_first (truth_test negated tested p) = refl
chained_first (comparing comparison left right) = refl
chained_first (between negated operand low high) = refl
chained_first (membership negated operand items) = refl
chained_first (null_test negated operand) = refl
chained_first (constant truth) = refl

-- the side that is nearest is after the predicate
pub chained_nearest : (p : Pred Term) (sides : List LinkAt) (side : LinkAt) →
    chained p (sides ++ side ∷ []) ≡ chained (connected side.connective p side.predicate) sides
chained_nearest p [] side = refl
chained_nearest p (far ∷ sides) side =
    ap (λ left. connected far.connective left far.predicate) (chained_nearest p sides side)

-- a fault of what comes first is the chain's
pub first_fault : (scope : Scope) (f : Term → Result Class Fault) (p : Pred Term) (sides : List LinkAt) (fault : Fault) →
    predicate_fault f (settled scope p) ≡ Some fault → predicate_fault f (settled scope (chained p sides)) ≡ Some fault
first_fault scope f p [] fault e = e
first_fault scope f p (side ∷ sides) fault e = connected_fault side.connective (first_fault scope f p sides fault e)
  where
    connected_fault : (connective : Connective) → predicate_fault f (settled scope (chained p sides)) ≡ Some fault →
        predicate_fault f (settled scope (connected connective (chained p sides) side.predicate)) ≡ Some fault
    connected_fault And e = ap (λ first. first then predicate_fault f (settled scope side.predicate)) e
    connected_fault Or e = ap (λ first. first then predicate_fault f (settled scope side.predicate)) e

-- without a fault of what comes first, the side's is the first
pub side_fault : (scope : Scope) (f : Term → Result Class Fault) (p q : Pred Term) (connective : Connective) →
    predicate_fault f (settled scope p) ≡ None →
    predicate_fault f (settled scope (connected connective p q)) ≡ predicate_fault f (settled scope q)
side_fault scope f p q And e = ap (λ first. first then predicate_fault f (settled scope q)) e
side_fault scope f p q Or e = ap (λ first. first then predicate_fault f (settled scope q)) e

pub connected_map : {C : Type 0} (scope : Scope) (g : Term → Operand C) (p q : Pred Term) (connective : Connective) →
    predicate_bind g (settled scope (connected connective p q))
    ≡ connected connective (predicate_bind g (settled scope p)) (predicate_bind g (settled scope q))
connected_map scope g p q And = refl
connected_map scope g p q Or = refl

pub connected_operators : (p q : Pred Term) (connective : Connective) →
    operators (connected connective p q) ≡ 1 + (operators p + operators q)
connected_operators p q And = refl
connected_operators p q Or = refl

-- what a chain begins with has no more operators than the chain
pub chained_grows : (p : Pred Term) (sides : List LinkAt) → operators p ≤ operators (chained p sides)
chained_grows p [] = omega arith
chained_grows p (side ∷ sides) =
    omega (arith, chained_grows p sides, connected_operators (chained p sides) side.predicate side.connective)

pub first_operators : (p : Pred Term) → operators (first_predicate p) ≤ operators p
first_operators (conjunction p q) = omega (arith, first_operators p)
first_operators (disjunction p q) = omega (arith, first_operators p)
first_operators (negation p) = omega arith
first_operators (truth_test negated tested p) = omega arith
first_operators (comparing comparison left right) = omega arith
first_operators (between negated operand low high) = omega arith
first_operators (membership negated operand items) = omega arith
first_operators (null_test negated operand) = omega arith
first_operators (constant truth) = omega arith

pub chain_fault : (scope : Scope) (f : Term → Result Class Fault) (p whole : Pred Term) (sides : List LinkAt)
    (fault : Fault) →
    chained p sides ≡ whole → predicate_fault f (settled scope p) ≡ Some fault → predicate_fault f (settled scope whole) ≡ Some fault
chain_fault scope f p whole sides fault is e =
    ap (λ (q : Pred Term). predicate_fault f (settled scope q)) (sym is) ∙ first_fault scope f p sides fault e

-- a predicate and a side, taken apart
pub started : (side : ChainLink) (left : Pred Term) (fresh pushed all : List ChainLink) → fresh ≡ [] →
    pushed ≡ fresh ++ side ∷ [] →
    map link_of all ≡ map link_of pushed ++ links_of left →
    chained (first_predicate left) (map link_of all) ≡ connected side.connective left (pred_of side.predicate.now)
started side left fresh pushed all is_new is_pushed behind =
    ap (chained (first_predicate left)) (behind
    ∙ ap (λ sides. map link_of sides ++ links_of left) (is_pushed ∙ ap (λ front. front ++ side ∷ []) is_new))
    ∙ ap (λ p. connected side.connective p (pred_of side.predicate.now)) (chained_first left)

-- the nearest side, taken from the sides that are left
pub popped : (done whole : Pred Term) (all rest : List ChainLink) (side : ChainLink) → all ≡ rest ++ side ∷ [] →
    chained done (map link_of all) ≡ whole →
    chained (connected side.connective done (pred_of side.predicate.now)) (map link_of rest) ≡ whole
popped done whole all rest side is chain =
    sym (chained_nearest done (map link_of rest) (link_of side))
    ∙ ap (chained done) (sym (map-append link_of rest (side ∷ [])))
    ∙ ap (λ sides. chained done (map link_of sides)) (sym is) ∙ chain

-- a side has fewer operators than the chain
pub side_operators : (done q left right : Pred Term) (connective outer : Connective) (sides : List LinkAt) →
    chained (connected connective done q) sides ≡ connected outer left right →
    operators q ≤ operators left + operators right
side_operators done q left right connective outer sides is =
    omega (
      arith,
      chained_grows (connected connective done q) sides,
      ap (λ (p : Pred Term). operators p) is,
      connected_operators done q connective,
      connected_operators left right outer,
    )

pub bound_more : {C : Type 0} (scope : Scope) (g : Term → Operand C) (connective : Connective) (done q : Pred Term)
    (whole left right : Pred C) →
    whole ≡ connected connective left right → left ≡ predicate_bind g (settled scope done) → right ≡ predicate_bind g (settled scope q) →
    whole ≡ predicate_bind g (settled scope (connected connective done q))
bound_more scope g connective done q whole left right is l r =
    is ∙ ap (λ p. connected connective p right) l ∙ ap (λ p. connected connective (predicate_bind g (settled scope done)) p) r
    ∙ sym (connected_map scope g done q connective)
