use Rattle.std.proofs.Common.{◌≡◌, arith, length, ℕ, List, [], ◌∷◌, ◌++◌, sym, ap, ◌∙◌, subst}
use Rattle.typed_plan.specs.declared.plan.Aggregate.{Aggregate}
use Rattle.scan_exec.specs.DistinctItems.{StandFor}
use Rattle.scan_exec.proofs.StandingFor.{with_known, with_new}
use Rattle.scan_exec.proofs.distinct_items.DistinctItems.push.Goals as goal

pub returns-in-Some : goal.returns-in-Some
returns-in-Some c =
    let some = c.args.self.now.items.items in
    let places = c.args.self.now.places.items in
    λ items stand. subst (λ (all : List ℕ). StandFor (items ++ c.args.item ∷ []) some all) (sym c.in_ok-push.ensures.items)
    (with_known items some places c.args.item stand c.in-Some.place (rw c.as_slice.ensures.value at c.in-Some.ensures.there) (rw c.as_slice.ensures.value at c.in-Some.ensures.is))

pub returns : goal.returns
returns c =
    let some = c.args.self.now.items.items in
    let places = c.args.self.now.places.items in
    let item = c.args.item in
    let long : c.len.result ≡ length some = omega (arith, c.len.ensures, c.args.self.now.items.ok) in
    λ items stand. subst (λ (all : List Aggregate). StandFor (items ++ item ∷ []) all c.push-2.new.self.items) (sym c.in_ok-push-3.ensures.items)
    (subst (λ (all : List ℕ). StandFor (items ++ item ∷ []) (some ++ item ∷ []) all)
    (sym (c.in_ok-push-2.ensures.items ∙ ap (λ (n : ℕ). places ++ n ∷ []) long)) (with_new items some places item stand))
