-- The columns that a predicate names, and those that it names under other numbers.
use Rattle.std.proofs.Common.{◌≡◌, ℕ, Bool, true, not, ◌&&◌, ◌==◌, List, [], ◌∷◌, map, refl, ap, ◌∙◌}
use Rattle.std.specs.List.{list_all}
use Rattle.std.proofs.lemmas.Bool.{and_from, and_parts, and_left, and_right, eq-eqb, eqb-true, not-true, not_from_true, not_from_false, false_from_ne_true, both_ways}
use Rattle.scan_base.specs.declared.predicate.Operand.{Operand}
use Rattle.scan_base.specs.declared.predicate.Operand.TheVariants as operand
use Rattle.scan_base.specs.Predicate.{Pred, conjunction, disjunction, negation, truth_test, comparing, between, membership, null_test, constant, operand_names, names_only}
use Rattle.typed_plan.specs.NumberedPredicates.{operand_map, predicate_map}
use Rattle.rewrite.specs.PrunedColumns.{names_column}
use Rattle.rewrite.proofs.Naming.{weaker}

-- ---- other numbers

module _ {C D : Type 0} (test : D → Bool) (f : C → D) where
  operand_names-map : (o : Operand C) → operand_names test (operand_map f o) ≡ operand_names (λ c. test (f c)) o
  operand_names-map (operand.Column column) = refl
  operand_names-map (operand.Literal value) = refl

  items_name-map : (items : List (Operand C)) → list_all (operand_names test) (map (operand_map f) items) ≡ list_all (operand_names (λ c. test (f c))) items
  items_name-map [] = refl
  items_name-map (item ∷ items) = let here = operand_names-map item in let there = items_name-map items in cc

  -- what a predicate names under other numbers
  pub names_only-map : (p : Pred C) → names_only test (predicate_map f p) ≡ names_only (λ c. test (f c)) p
  names_only-map (conjunction p q) = let here = names_only-map p in let there = names_only-map q in cc
  names_only-map (disjunction p q) = let here = names_only-map p in let there = names_only-map q in cc
  names_only-map (negation p) = names_only-map p
  names_only-map (truth_test negated tested p) = names_only-map p
  names_only-map (comparing comparison a b) = let here = operand_names-map a in let there = operand_names-map b in cc
  names_only-map (between negated o low high) =
      let here = operand_names-map o in let l = operand_names-map low in let h = operand_names-map high in cc
  names_only-map (membership negated o items) = let here = operand_names-map o in let there = items_name-map items in cc
  names_only-map (null_test negated o) = operand_names-map o
  names_only-map (constant truth) = refl

-- two tests that agree where a third one holds
module _ {C : Type 0} (used one other : C → Bool) (same : (c : C) → used c ≡ true → one c ≡ other c) where
  operand_agrees : (o : Operand C) → operand_names used o ≡ true → operand_names one o ≡ operand_names other o
  operand_agrees (operand.Column column) h = same column h
  operand_agrees (operand.Literal value) h = refl

  items_agree : (items : List (Operand C)) → list_all (operand_names used) items ≡ true →
      list_all (operand_names one) items ≡ list_all (operand_names other) items
  items_agree [] h = refl
  items_agree (item ∷ items) h =
      let parts = and_parts (operand_names used item) (list_all (operand_names used) items) h in
      let here = operand_agrees item parts.0 in
      let there = items_agree items parts.1 in
      cc

  -- agree of a predicate that names columns of the third one alone
  pub names_agree : (p : Pred C) → names_only used p ≡ true → names_only one p ≡ names_only other p
  names_agree (conjunction p q) h =
      let parts = and_parts (names_only used p) (names_only used q) h in
      let here = names_agree p parts.0 in
      let there = names_agree q parts.1 in
      cc
  names_agree (disjunction p q) h =
      let parts = and_parts (names_only used p) (names_only used q) h in
      let here = names_agree p parts.0 in
      let there = names_agree q parts.1 in
      cc
  names_agree (negation p) h = names_agree p h
  names_agree (truth_test negated tested p) h = names_agree p h
  names_agree (comparing comparison a b) h =
      let parts = and_parts (operand_names used a) (operand_names used b) h in
      let here = operand_agrees a parts.0 in
      let there = operand_agrees b parts.1 in
      cc
  names_agree (between negated o low high) h =
      let parts = and_parts (operand_names used o) (operand_names used low && operand_names used high) h in
      let more = and_parts (operand_names used low) (operand_names used high) parts.1 in
      let a = operand_agrees o parts.0 in
      let b = operand_agrees low more.0 in
      let c = operand_agrees high more.1 in
      cc
  names_agree (membership negated o items) h =
      let parts = and_parts (operand_names used o) (list_all (operand_names used) items) h in
      let a = operand_agrees o parts.0 in
      let b = items_agree items parts.1 in
      cc
  names_agree (null_test negated o) h = operand_agrees o h
  names_agree (constant truth) h = refl

-- ---- what a predicate names

abbrev others : ℕ → ℕ → Bool
others number column = not (column == number)

-- a column is named under its new number
pub named_map : (f : ℕ → ℕ) (p : Pred ℕ) (n : ℕ) → names_column p n ≡ true → names_column (predicate_map f p) (f n) ≡ true
named_map f p n h = ap not (names_only-map (others (f n)) f p) ∙ not_from_false (names_only (λ c. others (f n) (f c)) p)
    (false_from_ne_true (names_only (λ c. others (f n) (f c)) p) (λ e.
    both_ways (names_only (others n) p) (not-true (names_only (others n) p) h)
    (weaker (λ c. others (f n) (f c)) (others n) apart p e)))
  where
    apart : (c : ℕ) → others (f n) (f c) ≡ true → others n c ≡ true
    apart c e = not_from_false (c == n) (false_from_ne_true (c == n) (λ same.
        both_ways (f c == f n) (not-true (f c == f n) e) (eq-eqb (f c) (f n) (ap f (eqb-true c n same)))))

not_and_left : (x y : Bool) → not x ≡ true → not (x && y) ≡ true
not_and_left x y h = not_from_false (x && y) (and_left x y (not-true x h))

not_and_right : (x y : Bool) → not y ≡ true → not (x && y) ≡ true
not_and_right x y h = not_from_false (x && y) (and_right x y (not-true y h))

-- a test passes of a predicate where it passes of each column that is there and that the predicate names
module _ (there test : ℕ → Bool) where
  abbrev Passes : (ℕ → Bool) → Type 0
  Passes names = (n : ℕ) → there n ≡ true → names n ≡ true → test n ≡ true

  operand_passes : (o : Operand ℕ) → operand_names there o ≡ true → Passes (λ n. not (operand_names (others n) o)) → operand_names test o ≡ true
  operand_passes (operand.Column column) h all =
      all column h (not_from_false (others column column) (not_from_true (column == column) (eq-eqb column column refl)))
  operand_passes (operand.Literal value) h all = refl

  items_pass : (items : List (Operand ℕ)) → list_all (operand_names there) items ≡ true →
      Passes (λ n. not (list_all (operand_names (others n)) items)) → list_all (operand_names test) items ≡ true
  items_pass [] h all = refl
  items_pass (item ∷ items) h all =
      let parts = and_parts (operand_names there item) (list_all (operand_names there) items) h in
      and_from (operand_names test item) (list_all (operand_names test) items)
      (operand_passes item parts.0 (λ n t e. all n t (not_and_left (operand_names (others n) item) (list_all (operand_names (others n)) items) e)))
      (items_pass items parts.1 (λ n t e. all n t (not_and_right (operand_names (others n) item) (list_all (operand_names (others n)) items) e)))

  pub named_pass : (p : Pred ℕ) → names_only there p ≡ true → Passes (names_column p) → names_only test p ≡ true
  named_pass (conjunction p q) h all =
      let parts = and_parts (names_only there p) (names_only there q) h in
      and_from (names_only test p) (names_only test q)
      (named_pass p parts.0 (λ n t e. all n t (not_and_left (names_only (others n) p) (names_only (others n) q) e)))
      (named_pass q parts.1 (λ n t e. all n t (not_and_right (names_only (others n) p) (names_only (others n) q) e)))
  named_pass (disjunction p q) h all =
      let parts = and_parts (names_only there p) (names_only there q) h in
      and_from (names_only test p) (names_only test q)
      (named_pass p parts.0 (λ n t e. all n t (not_and_left (names_only (others n) p) (names_only (others n) q) e)))
      (named_pass q parts.1 (λ n t e. all n t (not_and_right (names_only (others n) p) (names_only (others n) q) e)))
  named_pass (negation p) h all = named_pass p h all
  named_pass (truth_test negated tested p) h all = named_pass p h all
  named_pass (comparing comparison a b) h all =
      let parts = and_parts (operand_names there a) (operand_names there b) h in
      and_from (operand_names test a) (operand_names test b)
      (operand_passes a parts.0 (λ n t e. all n t (not_and_left (operand_names (others n) a) (operand_names (others n) b) e)))
      (operand_passes b parts.1 (λ n t e. all n t (not_and_right (operand_names (others n) a) (operand_names (others n) b) e)))
  named_pass (between negated o low high) h all =
      let parts = and_parts (operand_names there o) (operand_names there low && operand_names there high) h in
      let more = and_parts (operand_names there low) (operand_names there high) parts.1 in
      and_from (operand_names test o) (operand_names test low && operand_names test high)
      (operand_passes o parts.0 (λ n t e.
      all n t (not_and_left (operand_names (others n) o) (operand_names (others n) low && operand_names (others n) high) e)))
      (and_from (operand_names test low) (operand_names test high)
      (operand_passes low more.0 (λ n t e.
      all n t (not_and_right (operand_names (others n) o) (operand_names (others n) low && operand_names (others n) high)
      (not_and_left (operand_names (others n) low) (operand_names (others n) high) e))))
      (operand_passes high more.1 (λ n t e.
      all n t (not_and_right (operand_names (others n) o) (operand_names (others n) low && operand_names (others n) high)
      (not_and_right (operand_names (others n) low) (operand_names (others n) high) e)))))
  named_pass (membership negated o items) h all =
      let parts = and_parts (operand_names there o) (list_all (operand_names there) items) h in
      and_from (operand_names test o) (list_all (operand_names test) items)
      (operand_passes o parts.0 (λ n t e. all n t (not_and_left (operand_names (others n) o) (list_all (operand_names (others n)) items) e)))
      (items_pass items parts.1 (λ n t e. all n t (not_and_right (operand_names (others n) o) (list_all (operand_names (others n)) items) e)))
  named_pass (null_test negated o) h all = operand_passes o h all
  named_pass (constant truth) h all = refl
