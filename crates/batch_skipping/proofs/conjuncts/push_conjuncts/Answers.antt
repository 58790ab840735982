use Rattle.std.proofs.Common.{ap, sym, ◌∙◌, map, ◌++◌, List, Bor, ℕ}
use Rattle.scan_base.specs.declared.predicate.Predicate.{Predicate}
use Rattle.scan_base.specs.Predicate.{Pred, conjunction}
use Rattle.scan_base.specs.View.{pred_of}
use Rattle.batch_skipping.proofs.Taking.{taken_first, sides_pending, sides_smaller, part_taken, part_smaller, all_taken, is_single, none_last}
use Rattle.batch_skipping.proofs.conjuncts.push_conjuncts.Goals as goal

pub loop-next-init : goal.loop-next-init
loop-next-init c =
    taken_first (λ part. pred_of part.now) c.args.predicate c.push.new.self.items c.new-waiting.result.items (map (λ part. pred_of part.now) c.args.parts.now.items)
    c.new-waiting.ensures.items c.in_ok-push.ensures.items

pub loop-next-smaller-in-Continue-branch-3 : goal.loop-next-smaller-in-Continue-branch-3
loop-next-smaller-in-Continue-branch-3 c =
    let said : Bor (Predicate ℕ) → Pred ℕ = λ part. pred_of part.now in
    sides_smaller said c.loop-next.waiting.items c.pop.new.self.items c.in-Some.next c.in-Some.ensures.items
    c.deref-left.result c.deref-right.result c.push-in-And.new.self.items c.push-in-And-2.new.self.items
    (ap pred_of c.in-And.is ∙ ap (λ (p : Predicate ℕ). conjunction (pred_of p) (pred_of c.in-And.right.value)) (sym c.deref-left.ensures)
    ∙ ap (λ (p : Predicate ℕ). conjunction (pred_of c.deref-left.result.now) (pred_of p)) (sym c.deref-right.ensures))
    c.in_ok-push-in-And.ensures.items c.in_ok-push-in-And-2.ensures.items

pub loop-next-preserved-in-Continue-branch-3 : goal.loop-next-preserved-in-Continue-branch-3
loop-next-preserved-in-Continue-branch-3 c =
    let said : Bor (Predicate ℕ) → Pred ℕ = λ part. pred_of part.now in
    ap (λ (some : List (Pred ℕ)). map said c.loop-next.parts.items ++ some)
    (sides_pending said c.loop-next.waiting.items c.pop.new.self.items c.in-Some.next c.in-Some.ensures.items
    c.deref-left.result c.deref-right.result c.push-in-And.new.self.items c.push-in-And-2.new.self.items
    (ap pred_of c.in-And.is ∙ ap (λ (p : Predicate ℕ). conjunction (pred_of p) (pred_of c.in-And.right.value)) (sym c.deref-left.ensures)
    ∙ ap (λ (p : Predicate ℕ). conjunction (pred_of c.deref-left.result.now) (pred_of p)) (sym c.deref-right.ensures))
    c.in_ok-push-in-And.ensures.items c.in_ok-push-in-And-2.ensures.items)
    ∙ c.loop-next.invariant

pub loop-next-smaller : goal.loop-next-smaller
loop-next-smaller c =
    let said : Bor (Predicate ℕ) → Pred ℕ = λ part. pred_of part.now in
    part_smaller said c.loop-next.waiting.items c.pop.new.self.items c.in-Some.next c.in-Some.ensures.items
    (is_single c.in-Some.next.now c.in_default-next.not-And)

pub loop-next-preserved : goal.loop-next-preserved
loop-next-preserved c =
    let said : Bor (Predicate ℕ) → Pred ℕ = λ part. pred_of part.now in
    part_taken said c.loop-next.waiting.items c.pop.new.self.items c.in-Some.next c.in-Some.ensures.items
    (is_single c.in-Some.next.now c.in_default-next.not-And) c.loop-next.parts.items c.push-in_default-next.new.self.items c.in_ok-push-in_default-next.ensures.items
    ∙ c.loop-next.invariant

pub returns : goal.returns
returns c =
    let said : Bor (Predicate ℕ) → Pred ℕ = λ part. pred_of part.now in
    all_taken said c.loop-next.waiting.items (map said c.loop-next.parts.items) _ (none_last c.loop-next.waiting.items c.pop.new.self.items _ c.in_default.ensures.cases.0 c.in_default.ensures.items c.in_default.ensures.rest) c.loop-next.invariant
