-- The parts of a predicate, taken from a list of what is still to be taken apart.
use Rattle.std.proofs.Common.{◌≡◌, ◌<◌, ℕ, ◌+◌, Bool, true, false, not, cond, List, [], ◌∷◌, ◌++◌, map, filter, refl, sym, ap, ◌∙◌, arith}
use mathlib.Core.List.{append_assoc, append-nil}
use Rattle.std.proofs.lemmas.List.{map-append}
use Rattle.std.proofs.lemmas.List.Elements.{filter-append}
use Rattle.scan_base.specs.declared.predicate.Predicate.{Predicate}
use Rattle.scan_base.specs.Predicate.{Pred, conjunction, disjunction, negation, truth_test, comparing, between, membership, null_test, constant}
use Rattle.scan_base.specs.View.{pred_of}
use Rattle.rewrite.specs.Conjuncts.{conjuncts, is_sure, parts_of}

-- how much there is to be taken apart
abbrev pub weight : Pred ℕ → ℕ
weight (conjunction p q) = 1 + (weight p + weight q)
weight p = 1

abbrev pub weights : List (Predicate ℕ) → ℕ
weights [] = 0
weights (p ∷ ps) = weight (pred_of p) + weights ps

-- the parts of these, the last first
abbrev pub parts_behind : List (Predicate ℕ) → List (Pred ℕ)
parts_behind [] = []
parts_behind (p ∷ ps) = parts_behind ps ++ parts_of (pred_of p)

pub weights-last : (ps : List (Predicate ℕ)) (p : Predicate ℕ) → weights (ps ++ p ∷ []) ≡ weight (pred_of p) + weights ps
weights-last [] p = refl
weights-last (q ∷ ps) p = let h = weights-last ps p in omega (arith, h)

pub behind-last : (ps : List (Predicate ℕ)) (p : Predicate ℕ) → parts_behind (ps ++ p ∷ []) ≡ parts_of (pred_of p) ++ parts_behind ps
behind-last [] p = sym (append-nil (parts_of (pred_of p)))
behind-last (q ∷ ps) p = ap (λ parts. parts ++ parts_of (pred_of q)) (behind-last ps p) ∙ append_assoc (parts_of (pred_of p)) (parts_behind ps) (parts_of (pred_of q))

pub parts_of-and : (p q : Pred ℕ) → parts_of (conjunction p q) ≡ parts_of p ++ parts_of q
parts_of-and p q = filter-append (λ part. not (is_sure part)) (conjuncts p) (conjuncts q)

-- one that is no AND is a part by itself, or is left out
pub parts_of-alone : (p : Pred ℕ) → conjuncts p ≡ p ∷ [] → (b : Bool) → is_sure p ≡ b → parts_of p ≡ cond b [] (p ∷ [])
parts_of-alone p e true s = ap (filter (λ part. not (is_sure part))) e ∙ ap (λ b. cond (not b) (p ∷ []) []) s
parts_of-alone p e false s = ap (filter (λ part. not (is_sure part))) e ∙ ap (λ b. cond (not b) (p ∷ []) []) s

-- an AND makes way for its sides
pub sides_behind : (old popped more whole : List (Predicate ℕ)) (next left right : Predicate ℕ) →
    old ≡ popped ++ next ∷ [] → more ≡ popped ++ right ∷ [] → whole ≡ more ++ left ∷ [] →
    pred_of next ≡ conjunction (pred_of left) (pred_of right) →
    (parts_behind whole ≡ parts_behind old) × (weights whole < weights old)
sides_behind old popped more whole next left right o m w e =
    let behind : parts_behind whole ≡ parts_behind old =
    ap parts_behind w ∙ behind-last more left
    ∙ ap (λ some. parts_of (pred_of left) ++ some) (ap parts_behind m ∙ behind-last popped right)
    ∙ sym (append_assoc (parts_of (pred_of left)) (parts_of (pred_of right)) (parts_behind popped))
    ∙ ap (λ some. some ++ parts_behind popped) (sym (ap parts_of e ∙ parts_of-and (pred_of left) (pred_of right)))
    ∙ sym (ap parts_behind o ∙ behind-last popped next) in
    let h = ap weights w ∙ weights-last more left in
    let k = ap weights m ∙ weights-last popped right in
    let l = ap weights o ∙ weights-last popped next in
    let n = ap weight e in
    (behind, omega (arith, h, k, l, n))

-- what is no AND weighs something
some_weight : (p : Pred ℕ) → 0 < weight p
some_weight (conjunction p q) = omega arith
some_weight (disjunction p q) = omega arith
some_weight (negation p) = omega arith
some_weight (truth_test negated tested p) = omega arith
some_weight (comparing comparison a b) = omega arith
some_weight (between negated a low high) = omega arith
some_weight (membership negated a items) = omega arith
some_weight (null_test negated a) = omega arith
some_weight (constant truth) = omega arith

pub popped_lighter : (old popped : List (Predicate ℕ)) (next : Predicate ℕ) → old ≡ popped ++ next ∷ [] → weights popped < weights old
popped_lighter old popped next o =
    let h = ap weights o ∙ weights-last popped next in
    let s = some_weight (pred_of next) in
    omega (arith, h, s)

-- a part goes to the parts
pub part_behind : (parts : List (Pred ℕ)) (old popped : List (Predicate ℕ)) (next : Predicate ℕ) → old ≡ popped ++ next ∷ [] →
    conjuncts (pred_of next) ≡ pred_of next ∷ [] → (b : Bool) → is_sure (pred_of next) ≡ b →
    (parts ++ cond b [] (pred_of next ∷ [])) ++ parts_behind popped ≡ parts ++ parts_behind old
part_behind parts old popped next o e b s =
    append_assoc parts (cond b [] (pred_of next ∷ [])) (parts_behind popped)
    ∙ ap (λ some. parts ++ some)
    (ap (λ some. some ++ parts_behind popped) (sym (parts_of-alone (pred_of next) e b s)) ∙ sym (ap parts_behind o ∙ behind-last popped next))

-- what is not sure is kept, and what is sure is left out
pub part_kept : (parts more old popped : List (Predicate ℕ)) (next same : Predicate ℕ) (sure : Bool) → more ≡ parts ++ same ∷ [] → old ≡ popped ++ next ∷ [] →
    conjuncts (pred_of next) ≡ pred_of next ∷ [] → same ≡ next → sure ≡ is_sure (pred_of same) → sure ≡ false →
    map pred_of more ++ parts_behind popped ≡ map pred_of parts ++ parts_behind old
part_kept parts more old popped next same true m o e s t n = cc
part_kept parts more old popped next same false m o e s t n =
    ap (λ xs. map pred_of xs ++ parts_behind popped) m
    ∙ ap (λ xs. xs ++ parts_behind popped) (map-append pred_of parts (same ∷ []))
    ∙ ap (λ x. (map pred_of parts ++ pred_of x ∷ []) ++ parts_behind popped) s
    ∙ part_behind (map pred_of parts) old popped next o e false (sym (t ∙ ap (λ x. is_sure (pred_of x)) s))

pub part_left_out : (parts old popped : List (Predicate ℕ)) (next same : Predicate ℕ) (sure : Bool) → old ≡ popped ++ next ∷ [] →
    conjuncts (pred_of next) ≡ pred_of next ∷ [] → same ≡ next → sure ≡ is_sure (pred_of same) → sure ≡ true →
    map pred_of parts ++ parts_behind popped ≡ map pred_of parts ++ parts_behind old
part_left_out parts old popped next same false o e s t n = cc
part_left_out parts old popped next same true o e s t n =
    ap (λ xs. xs ++ parts_behind popped) (sym (append-nil (map pred_of parts)))
    ∙ part_behind (map pred_of parts) old popped next o e true (sym (t ∙ ap (λ x. is_sure (pred_of x)) s))
