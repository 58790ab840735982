-- Filters of a joined row are filters of its parts.
use Rattle.std.proofs.Common.{◌≡◌, ◌<◌, ◌≤◌, ℕ, ◌-◌, Bool, true, false, not, ◌&&◌, cond, List, [], ◌∷◌, ◌++◌, length, map, filter, nat_lt, Option, unwrap_or, refl, sym, ap, ◌∙◌, arith}
use Rattle.std.proofs.lemmas.Bool.{ltb-true, ltb-false, not-true}
use Rattle.arrays.proofs.Entries.{within_list, behind_list}
use Rattle.scan_base.specs.declared.value.Value.{Value}
use Rattle.scan_base.specs.declared.value.Value.TheVariants.{Null}
use Rattle.scan_base.specs.Predicate.{Pred, conjunction, disjunction, negation, truth_test, comparing, between, membership, null_test, constant, cell_in, truth_of}
use Rattle.scan_base.specs.declared.truth.Truth.{Truth}
use Rattle.scan_base.specs.declared.truth.Truth.TheVariants.{True, False, Unknown}
use Rattle.scan_base.specs.Truth.{keeps, truth_and}
use Rattle.rewrite.specs.Conjuncts.{conjuncts, is_sure, parts_of, all_of, all_true}
use Rattle.rewrite.specs.PushedFilters.{is_left, is_behind, is_right, is_both, moved}
use Rattle.table_versions.specs.Table.{Row}
use Rattle.typed_plan.specs.Plan.{is_true}
use Rattle.typed_plan.proofs.Numbered.{truth_of-map}
use Rattle.rewrite.proofs.Naming.{agrees}

-- ---- conjuncts

and_true : (b : Bool) → (b && true) ≡ b
and_true true = refl
and_true false = refl

and_assoc : (a b c : Bool) → ((a && b) && c) ≡ (a && (b && c))
and_assoc true b c = refl
and_assoc false b c = refl

pub all-append : (ps qs : List (Pred ℕ)) (row : Row) → all_true (ps ++ qs) row ≡ (all_true ps row && all_true qs row)
all-append [] qs row = refl
all-append (p ∷ ps) qs row =
    ap (λ b. is_true p row && b) (all-append ps qs row) ∙ sym (and_assoc (is_true p row) (all_true ps row) (all_true qs row))

keeps_both : (a b : Truth) → keeps (truth_and a b) ≡ (keeps a && keeps b)
keeps_both True True = refl
keeps_both True False = refl
keeps_both True Unknown = refl
keeps_both False True = refl
keeps_both False False = refl
keeps_both False Unknown = refl
keeps_both Unknown True = refl
keeps_both Unknown False = refl
keeps_both Unknown Unknown = refl

-- a predicate is true where all its conjuncts are
pub conjuncts_are : (p : Pred ℕ) (row : Row) → all_true (conjuncts p) row ≡ is_true p row
conjuncts_are (conjunction p q) row =
    let here = conjuncts_are p row in
    let there = conjuncts_are q row in
    all-append (conjuncts p) (conjuncts q) row
    ∙ (ap (λ b. b && all_true (conjuncts q) row) here ∙ ap (λ b. is_true p row && b) there)
    ∙ sym (keeps_both (truth_of (cell_in row) p) (truth_of (cell_in row) q))
conjuncts_are (disjunction p q) row = and_true (is_true (disjunction p q) row)
conjuncts_are (negation p) row = and_true (is_true (negation p) row)
conjuncts_are (truth_test negated tested p) row = and_true (is_true (truth_test negated tested p) row)
conjuncts_are (comparing comparison a b) row = and_true (is_true (comparing comparison a b) row)
conjuncts_are (between negated a low high) row = and_true (is_true (between negated a low high) row)
conjuncts_are (membership negated a items) row = and_true (is_true (membership negated a items) row)
conjuncts_are (null_test negated a) row = and_true (is_true (null_test negated a) row)
conjuncts_are (constant truth) row = and_true (is_true (constant truth) row)

-- the constant TRUE is true in every row
sure_is : (p : Pred ℕ) (row : Row) → is_sure p ≡ true → is_true p row ≡ true
sure_is (constant True) row e = refl
sure_is (constant False) row e = cc
sure_is (constant Unknown) row e = cc
sure_is (conjunction p q) row e = cc
sure_is (disjunction p q) row e = cc
sure_is (negation p) row e = cc
sure_is (truth_test negated tested p) row e = cc
sure_is (comparing comparison a b) row e = cc
sure_is (between negated a low high) row e = cc
sure_is (membership negated a items) row e = cc
sure_is (null_test negated a) row e = cc

not_sure_if : (p : Pred ℕ) (ps : List (Pred ℕ)) (row : Row) (b : Bool) → is_sure p ≡ b →
    all_true (cond (not b) (p ∷ ps) ps) row ≡ (is_true p row && all_true ps row)
not_sure_if p ps row true e = sym (ap (λ t. t && all_true ps row) (sure_is p row e))
not_sure_if p ps row false e = refl

-- so it may be left out
pub not_sure_are : (ps : List (Pred ℕ)) (row : Row) → all_true (filter (λ part. not (is_sure part)) ps) row ≡ all_true ps row
not_sure_are [] row = refl
not_sure_are (p ∷ ps) row =
    not_sure_if p (filter (λ part. not (is_sure part)) ps) row (is_sure p) refl ∙ ap (λ b. is_true p row && b) (not_sure_are ps row)

pub parts_are : (p : Pred ℕ) (row : Row) → all_true (parts_of p) row ≡ is_true p row
parts_are p row = not_sure_are (conjuncts p) row ∙ conjuncts_are p row

-- and these joined by ANDs
pub all_of_are : (p : Pred ℕ) (ps : List (Pred ℕ)) (row : Row) → is_true (all_of p ps) row ≡ all_true (p ∷ ps) row
all_of_are p [] row = sym (and_true (is_true p row))
all_of_are p (q ∷ ps) row =
    all_of_are (conjunction p q) ps row
    ∙ ap (λ b. b && all_true ps row) (keeps_both (truth_of (cell_in row) p) (truth_of (cell_in row) q))
    ∙ and_assoc (is_true p row) (is_true q row) (all_true ps row)

-- ---- cells of a joined row

cell_of_left : (left right : Row) (n : ℕ) → n < length left → cell_in (left ++ right) n ≡ cell_in left n
cell_of_left left right n h = ap (λ (found : Option Value). unwrap_or found Null) (within_list left right n h)

cell_of_right : (left right : Row) (n : ℕ) → length left ≤ n → cell_in (left ++ right) n ≡ cell_in right (n - length left)
cell_of_right left right n h = ap (λ (found : Option Value). unwrap_or found Null) (behind_list left right n h)

module _ (seam : ℕ) (left right : Row) (wide : length left ≡ seam) where
  pub of_left : (p : Pred ℕ) → is_left seam p ≡ true → is_true p (left ++ right) ≡ is_true p left
  of_left p h =
      ap keeps (agrees (λ c. nat_lt c seam) (cell_in (left ++ right)) (cell_in left)
      (λ c lt. cell_of_left left right c (let l = ltb-true c seam lt in omega (arith, l, wide))) p h)

  pub of_right : (p : Pred ℕ) → is_behind seam p ≡ true → is_true p (left ++ right) ≡ is_true (moved seam p) right
  of_right p h =
      ap keeps (agrees (λ c. not (nat_lt c seam)) (cell_in (left ++ right)) (λ c. cell_in right (c - seam))
      (λ c ge. cell_of_right left right c (let g = ltb-false c seam (not-true (nat_lt c seam) ge) in omega (arith, g, wide))
      ∙ ap (λ n. cell_in right (c - n)) wide) p h
      ∙ sym (truth_of-map (cell_in right) (λ c. c - seam) p))

  -- those of the left, those of the right, and those of both
  abbrev lefts : List (Pred ℕ) → Bool
  lefts ps = all_true (filter (is_left seam) ps) left

  abbrev rights : List (Pred ℕ) → Bool
  rights ps = all_true (map (moved seam) (filter (is_right seam) ps)) right

  abbrev others : List (Pred ℕ) → Bool
  others ps = all_true (filter (is_both seam) ps) (left ++ right)

  swap : (a b c : Bool) → (a && (b && c)) ≡ (b && (a && c))
  swap true true c = refl
  swap true false c = refl
  swap false true c = refl
  swap false false c = refl

  one : (p : Pred ℕ) (ps : List (Pred ℕ)) → all_true ps (left ++ right) ≡ (lefts ps && (rights ps && others ps)) → (a b : Bool) →
      is_left seam p ≡ a → is_behind seam p ≡ b →
      all_true (p ∷ ps) (left ++ right) ≡ (lefts (p ∷ ps) && (rights (p ∷ ps) && others (p ∷ ps)))
  one p ps h true b e f =
      let here = of_left p e in
      rw e (ap (λ x. x && all_true ps (left ++ right)) here ∙ ap (λ x. is_true p left && x) h
      ∙ sym (and_assoc (is_true p left) (lefts ps) (rights ps && others ps)))
  one p ps h false true e f =
      let here = of_right p f in
      rw (e, f) (ap (λ x. x && all_true ps (left ++ right)) here ∙ ap (λ x. is_true (moved seam p) right && x) h
      ∙ swap (is_true (moved seam p) right) (lefts ps) (rights ps && others ps)
      ∙ ap (λ x. lefts ps && x) (sym (and_assoc (is_true (moved seam p) right) (rights ps) (others ps))))
  one p ps h false false e f =
      let here = is_true p (left ++ right) in
      rw (e, f) (ap (λ x. here && x) h ∙ swap here (lefts ps) (rights ps && others ps)
      ∙ ap (λ x. lefts ps && x) (swap here (rights ps) (others ps)))

  -- all are true of the joined row where those of each part are, and those of both
  pub split : (ps : List (Pred ℕ)) → all_true ps (left ++ right) ≡ (lefts ps && (rights ps && others ps))
  split [] = refl
  split (p ∷ ps) = one p ps (split ps) (is_left seam p) (is_behind seam p) refl refl
