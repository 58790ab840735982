-- Predicates that wait to be taken apart. The last one is taken first.
use Rattle.std.proofs.Common.{Box, Global, ◌-◌, take, ◌≡◌, ◌<◌, ℕ, ◌+◌, List, [], ◌∷◌, ◌++◌, map, refl, sym, ap, ◌∙◌, arith, append_assoc, append-nil}
use Rattle.std.proofs.lemmas.List.{map-append}
use Rattle.scan_base.specs.Predicate.{Pred, conjunction, disjunction, negation, truth_test, comparing, between, membership, null_test, constant}
use Rattle.scan_base.specs.declared.predicate.Predicate.{Predicate, And, And', Or', Not', Is', Compare, Between, In, IsNull, Constant}
use Rattle.scan_base.specs.View.{pred_of}
use Rattle.rewrite.specs.Conjuncts.{conjuncts}

-- their conjuncts, in the order in which they are taken
abbrev pub pending : List (Pred ℕ) → List (Pred ℕ)
pending [] = []
pending (p ∷ ps) = pending ps ++ conjuncts p

-- of one more that is taken first
pub pending_last : (ps : List (Pred ℕ)) (p : Pred ℕ) → pending (ps ++ p ∷ []) ≡ conjuncts p ++ pending ps
pending_last [] p = sym (append-none (conjuncts p))
  where
    append-none : (xs : List (Pred ℕ)) → xs ++ [] ≡ xs
    append-none [] = refl
    append-none (x ∷ xs) = ap (λ rest. x ∷ rest) (append-none xs)
pending_last (q ∷ ps) p = ap (λ some. some ++ conjuncts q) (pending_last ps p) ∙ append_assoc (conjuncts p) (pending ps) (conjuncts q)

-- how many ANDs and parts there are to take
abbrev pub size : Pred ℕ → ℕ
size (conjunction p q) = size p + size q + 1
size p = 1

abbrev pub sizes : List (Pred ℕ) → ℕ
sizes [] = 0
sizes (p ∷ ps) = size p + sizes ps

pub sizes_last : (ps : List (Pred ℕ)) (p : Pred ℕ) → sizes (ps ++ p ∷ []) ≡ sizes ps + size p
sizes_last [] p = omega arith
sizes_last (q ∷ ps) p = omega (arith, sizes_last ps p)

pub size_some : (p : Pred ℕ) → 0 < size p
size_some (conjunction p q) = omega arith
size_some (disjunction p q) = omega arith
size_some (negation p) = omega arith
size_some (truth_test negated tested p) = omega arith
size_some (comparing comparison a b) = omega arith
size_some (between negated a low high) = omega arith
size_some (membership negated a items) = omega arith
size_some (null_test negated a) = omega arith
size_some (constant truth) = omega arith

module _ {X : Type 0} (f : X → Pred ℕ) where
  -- at first
  pub taken_first : (x : X) (waiting none : List X) (olds : List (Pred ℕ)) → none ≡ [] → waiting ≡ none ++ x ∷ [] →
      olds ++ pending (map f waiting) ≡ olds ++ conjuncts (f x)
  taken_first x waiting none olds e is = rw (is, e) refl

  -- with a last one
  last_pending : (rest : List X) (x : X) → pending (map f (rest ++ x ∷ [])) ≡ conjuncts (f x) ++ pending (map f rest)
  last_pending rest x = ap pending (map-append f rest (x ∷ [])) ∙ pending_last (map f rest) (f x)

  last_sizes : (rest : List X) (x : X) → sizes (map f (rest ++ x ∷ [])) ≡ sizes (map f rest) + size (f x)
  last_sizes rest x = ap sizes (map-append f rest (x ∷ [])) ∙ sizes_last (map f rest) (f x)

  module _ (waiting rest : List X) (x : X) (is : waiting ≡ rest ++ x ∷ []) where
    was : pending (map f waiting) ≡ conjuncts (f x) ++ pending (map f rest)
    was = ap (λ (some : List X). pending (map f some)) is ∙ last_pending rest x

    long : sizes (map f waiting) ≡ sizes (map f rest) + size (f x)
    long = ap (λ (some : List X). sizes (map f some)) is ∙ last_sizes rest x

    -- an AND makes way for its sides
    module _ (left right : X) (mid new : List X) (both : f x ≡ conjunction (f left) (f right)) (first : mid ≡ rest ++ right ∷ []) (second : new ≡ mid ++ left ∷ []) where
      pub sides_pending : pending (map f new) ≡ pending (map f waiting)
      sides_pending =
          ap (λ (some : List X). pending (map f some)) second ∙ last_pending mid left
          ∙ ap (λ (some : List (Pred ℕ)). conjuncts (f left) ++ some) (ap (λ (some : List X). pending (map f some)) first ∙ last_pending rest right)
          ∙ sym (append_assoc (conjuncts (f left)) (conjuncts (f right)) (pending (map f rest)))
          ∙ ap (λ (p : Pred ℕ). conjuncts p ++ pending (map f rest)) (sym both) ∙ sym was

      pub sides_smaller : sizes (map f new) < sizes (map f waiting)
      sides_smaller =
          let a = ap (λ (some : List X). sizes (map f some)) second ∙ last_sizes mid left in
          let b = ap (λ (some : List X). sizes (map f some)) first ∙ last_sizes rest right in
          let c = ap size both in
          omega (arith, a, b, c, long)

    -- another one goes after the parts
    module _ (single : conjuncts (f x) ≡ f x ∷ []) where
      pub part_taken : (parts more : List X) → more ≡ parts ++ x ∷ [] →
          map f more ++ pending (map f rest) ≡ map f parts ++ pending (map f waiting)
      part_taken parts more e =
          ap (λ (some : List X). map f some ++ pending (map f rest)) e
          ∙ ap (λ (some : List (Pred ℕ)). some ++ pending (map f rest)) (map-append f parts (x ∷ []))
          ∙ append_assoc (map f parts) (f x ∷ []) (pending (map f rest))
          ∙ ap (λ (some : List (Pred ℕ)). map f parts ++ (some ++ pending (map f rest))) (sym single)
          ∙ ap (λ (some : List (Pred ℕ)). map f parts ++ some) (sym was)

      pub part_smaller : sizes (map f rest) < sizes (map f waiting)
      part_smaller = let some = size_some (f x) in omega (arith, some, long)

  -- at last
  pub all_taken : (waiting : List X) (olds all : List (Pred ℕ)) → waiting ≡ [] → olds ++ pending (map f waiting) ≡ all → olds ≡ all
  all_taken waiting olds all none e = sym (append-nil olds) ∙ ap (λ (some : List X). olds ++ pending (map f some)) (sym none) ∙ e

-- what is no AND is one conjunct
pub is_single : (p : Predicate ℕ) → ((left right : Box (Predicate ℕ) Global) → p ≡ And left right → ⊥) → conjuncts (pred_of p) ≡ pred_of p ∷ []
is_single (And' a p b q) other = absurd (other _ _ refl)
is_single (Or' a p b q) other = refl
is_single (Not' a p) other = refl
is_single (Is' negated tested a p) other = refl
is_single (Compare comparison a b) other = refl
is_single (Between negated a low high) other = refl
is_single (In negated a items) other = refl
is_single (IsNull negated a) other = refl
is_single (Constant truth) other = refl

-- a list of which nothing can be taken is empty
pub none_last : {X : Type 0} (xs ys : List X) (n : ℕ) → n ≡ 0 → xs ≡ ys ++ [] → ys ≡ take (n - 1) xs → xs ≡ []
none_last xs ys n e is rest =
    let none : ys ≡ [] = rest ∙ ap (λ (m : ℕ). take (m - 1) xs) e in
    is ∙ ap (λ (some : List _). some ++ []) none
