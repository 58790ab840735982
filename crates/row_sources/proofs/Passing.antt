-- Filters, one after another.
use Rattle.std.proofs.Common.{◌≡◌, ℕ, List, [], map, get_or, arith, All, nat_lt, subst}
use Rattle.std.proofs.lemmas.List.{get_or-map, length-map}
use Rattle.std.specs.Prelude.{IsTrue}
use Rattle.scan_base.specs.Predicate.{names_only, Pred}
use Rattle.scan_base.specs.declared.predicate.Predicate.{Predicate}
use Rattle.scan_base.specs.View.{pred_of}

-- filters that name columns of a row name columns of one as wide
pub all_named : (filters : List (Predicate ℕ)) (width other : ℕ) → width ≡ other →
    All (λ (p : Pred ℕ). IsTrue (names_only (λ column. nat_lt column width) p)) (map pred_of filters) →
    All (λ (p : Predicate ℕ). IsTrue (names_only (λ column. nat_lt column other) (pred_of p))) filters
all_named filters width other e all k d h =
    subst (λ (n : ℕ). IsTrue (names_only (λ column. nat_lt column n) (pred_of (get_or filters k d)))) e
    (subst (λ (p : Pred ℕ). IsTrue (names_only (λ column. nat_lt column width) p)) (get_or-map pred_of filters k d (pred_of d) h)
    (all k (pred_of d) (omega (arith, h, length-map filters (pred_of {C = ℕ})))))
