use Rattle.std.proofs.Common.{◌≡◌, arith, length, ℕ, List, [], ◌∷◌, ◌++◌, sym, ap, ◌∙◌, subst}
use Rattle.scan_exec.specs.DistinctItems.{KeyedBy}
use Rattle.scan_exec.proofs.KeyedOnce.{with_known, with_new}
use Rattle.scan_exec.proofs.distinct_keys.DistinctKeys.push.Goals as goal

pub returns-in-Some : goal.returns-in-Some
returns-in-Some c =
    let columns = c.args.self.now.columns.items in
    let places = c.args.self.now.places.items in
    λ keys keyed. subst (λ (all : List ℕ). KeyedBy (keys ++ c.args.key ∷ []) columns all) (sym c.in_ok-push.ensures.items)
    (with_known keys columns places c.args.key keyed c.in-Some.place (rw c.as_slice.ensures.value at c.in-Some.ensures.there) (rw c.as_slice.ensures.value at c.in-Some.ensures.is))

pub returns : goal.returns
returns c =
    let columns = c.args.self.now.columns.items in
    let places = c.args.self.now.places.items in
    let key = c.args.key in
    let long : c.len.result ≡ length columns = omega (arith, c.len.ensures, c.args.self.now.columns.ok) in
    λ keys keyed. subst (λ (all : List ℕ). KeyedBy (keys ++ key ∷ []) all c.push-2.new.self.items) (sym c.in_ok-push-3.ensures.items)
    (subst (λ (all : List ℕ). KeyedBy (keys ++ key ∷ []) (columns ++ key ∷ []) all)
    (sym (c.in_ok-push-2.ensures.items ∙ ap (λ (n : ℕ). places ++ n ∷ []) long)) (with_new keys columns places key keyed))
