-- Filters of a pruned tree are folded, and stand as low, where they were and did.
use Rattle.std.proofs.Common.{◌≡◌, ℕ, zero, suc, ◌+◌, Bool, true, false, not, ◌&&◌, ◌||◌, List, [], ◌∷◌, ◌++◌, map, take, drop, nat_lt, nat_le, refl, sym, ap, ◌∙◌, arith, drop-drop}
use Rattle.std.specs.List.{list_all}
use Rattle.std.proofs.lemmas.Bool.{and_from, and_parts}
use Rattle.std.proofs.lemmas.List.{drop-take, map-append}
use Rattle.std.proofs.lemmas.List.Folds.{list_all-append}
use Rattle.std.proofs.Math.Seq.{take-length, take-add}
use Rattle.scan_base.specs.Predicate.{Pred, conjunction, disjunction, negation, truth_test, comparing, between, membership, null_test, constant, names_only}
use Rattle.typed_plan.specs.NumberedPredicates.{predicate_map}
use Rattle.typed_plan.specs.Plan.{Tree, scan, filtered, joined}
use Rattle.typed_plan.specs.TypedPlans.{is_place}
use Rattle.rewrite.specs.Conjuncts.{conjuncts, names_some, is_between, is_of_one, is_of_one_place, place_widths}
use Rattle.rewrite.specs.FoldedPredicates.{is_folded, is_folded_tree}
use Rattle.rewrite.specs.Places.{tree_width}
use Rattle.rewrite.specs.PrunedColumns.{is_used, used_number, pruned, AreUsed}
use Rattle.rewrite.specs.PushedFilters.{is_pushed}
use Rattle.rewrite.proofs.Below.{total, all_widths}
use Rattle.rewrite.proofs.FoldedPushed.{folded_map}
use Rattle.rewrite.proofs.NamedColumns.{names_only-map, names_agree}
use Rattle.rewrite.proofs.PrunedTrees.{pruned_width, pruned_place}
use Rattle.rewrite.proofs.UsedColumns.{count, number_lt, number_le}

-- ---- folded

pub pruned_folded : (uses : List Bool) (tree : Tree) → is_folded_tree (pruned uses tree) ≡ is_folded_tree tree
pruned_folded uses (scan table schema columns) = refl
pruned_folded uses (filtered predicate tree) =
    ap (λ b. b && is_folded_tree (pruned uses tree)) (folded_map (used_number uses) predicate) ∙ ap (λ b. is_folded predicate && b) (pruned_folded uses tree)
pruned_folded uses (joined left right on) =
    ap (λ b. b && is_folded_tree (pruned (drop (tree_width left) uses) right)) (pruned_folded (take (tree_width left) uses) left)
    ∙ ap (λ b. is_folded_tree left && b) (pruned_folded (drop (tree_width left) uses) right)

-- ---- the widths of places

count-append : (a b : List Bool) → count (a ++ b) ≡ count a + count b
count-append [] b = omega arith
count-append (true ∷ a) b = let h = count-append a b in omega (arith, h)
count-append (false ∷ a) b = count-append a b

-- how many of each place's columns are used
abbrev widths_in : List Bool → List ℕ → List ℕ
widths_in uses [] = []
widths_in uses (width ∷ widths) = count (take width uses) ∷ widths_in (drop width uses) widths

abbrev none : List Bool
none = []

take_none : (n k : ℕ) → take n (take k none) ≡ none
take_none zero k = refl
take_none (suc n) zero = refl
take_none (suc n) (suc k) = refl

take_front : (n m : ℕ) (uses : List Bool) → take n (take (n + m) uses) ≡ take n uses
take_front zero m uses = refl
take_front (suc n) m [] = take_none (suc n) (suc n + m)
take_front (suc n) m (used ∷ uses) =
    let s : suc n + m ≡ suc (n + m) = omega arith in
    ap (λ k. take (suc n) (take k (used ∷ uses))) s ∙ ap (λ some. used ∷ some) (take_front n m uses)

drop_both : (n m : ℕ) (uses : List Bool) → drop (n + m) uses ≡ drop m (drop n uses)
drop_both n m uses = ap (λ k. drop k uses) (omega arith) ∙ sym (drop-drop m n uses)

widths_in-append : (ws vs : List ℕ) (uses : List Bool) →
    widths_in uses (ws ++ vs) ≡ widths_in (take (total ws) uses) ws ++ widths_in (drop (total ws) uses) vs
widths_in-append [] vs uses = refl
widths_in-append (w ∷ ws) vs uses =
    let rest = total ws in
    ap (λ some. count (take w uses) ∷ some) (widths_in-append ws vs (drop w uses))
    ∙ ap (λ some. count some ∷ (widths_in (take rest (drop w uses)) ws ++ widths_in (drop rest (drop w uses)) vs)) (sym (take_front w rest uses))
    ∙ ap (λ some. count (take w (take (w + rest) uses)) ∷ (widths_in some ws ++ widths_in (drop rest (drop w uses)) vs)) (sym (drop-take w rest uses))
    ∙ ap (λ some. count (take w (take (w + rest) uses)) ∷ (widths_in (drop w (take (w + rest) uses)) ws ++ widths_in some vs)) (sym (drop_both w rest uses))

pruned_widths : (uses : List Bool) (tree : Tree) → AreUsed uses tree → place_widths (pruned uses tree) ≡ widths_in uses (place_widths tree)
pruned_widths uses (scan table schema columns) u =
    let old = scan table schema columns in
    ap (λ n. n ∷ []) (pruned_width uses old u ∙ ap count (sym (ap (λ n. take n uses) (sym u) ∙ take-length uses)))
pruned_widths uses (filtered predicate tree) u = pruned_widths uses tree u.1
pruned_widths uses (joined left right on) u =
    let seam = tree_width left in
    let ws = place_widths left in
    let vs = place_widths right in
    ap (λ some. some ++ place_widths (pruned (drop seam uses) right)) (pruned_widths (take seam uses) left u.1)
    ∙ ap (λ some. widths_in (take seam uses) ws ++ some) (pruned_widths (drop seam uses) right u.2)
    ∙ ap (λ n. widths_in (take n uses) ws ++ widths_in (drop n uses) vs) (sym (all_widths left))
    ∙ sym (widths_in-append ws vs uses)

-- ---- parts of one place

module _ (uses : List Bool) (p : Pred ℕ) (used : names_only (is_used uses) p ≡ true) where
  abbrev seen : Pred ℕ
  seen = predicate_map (used_number uses) p

  of_place : (first width : ℕ) →
      names_only (is_between (count (take first uses)) (count (take width (drop first uses)))) seen ≡ names_only (is_between first width) p
  of_place first width =
      let from = count (take first uses) in
      let more = count (take width (drop first uses)) in
      let to : from + more ≡ count (take (first + width) uses) = sym (ap count (take-add first width uses) ∙ count-append (take first uses) (take width (drop first uses))) in
      names_only-map (is_between from more) (used_number uses) p
      ∙ names_agree (is_used uses) (λ n. is_between from more (used_number uses n)) (is_between first width)
      (λ n u.
      ap (λ b. b && nat_lt (used_number uses n) (from + more)) (number_le uses first n u)
      ∙ ap (λ k. nat_le first n && nat_lt (used_number uses n) k) to
      ∙ ap (λ b. nat_le first n && b) (number_lt uses (first + width) n u)) p used

  of_one : (widths : List ℕ) (first : ℕ) → is_of_one (count (take first uses)) (widths_in (drop first uses) widths) seen ≡ is_of_one first widths p
  of_one [] first = refl
  of_one (width ∷ widths) first =
      let from = count (take first uses) in
      let more = count (take width (drop first uses)) in
      let to : from + more ≡ count (take (first + width) uses) = sym (ap count (take-add first width uses) ∙ count-append (take first uses) (take width (drop first uses))) in
      ap (λ b. b || is_of_one (from + more) (widths_in (drop width (drop first uses)) widths) seen) (of_place first width)
      ∙ ap (λ some. names_only (is_between first width) p || is_of_one (from + more) (widths_in some widths) seen) (sym (drop_both first width uses))
      ∙ ap (λ n. names_only (is_between first width) p || is_of_one n (widths_in (drop (first + width) uses) widths) seen) to
      ∙ ap (λ b. names_only (is_between first width) p || b) (of_one widths (first + width))

  of_one_place : (widths : List ℕ) → is_of_one_place (widths_in uses widths) seen ≡ is_of_one_place widths p
  of_one_place widths =
      ap (λ b. not b && is_of_one 0 (widths_in uses widths) seen) (names_only-map (λ column. false) (used_number uses) p)
      ∙ ap (λ b. names_some p && b) (of_one widths 0)

-- ---- conjuncts

conjuncts-map : (f : ℕ → ℕ) (p : Pred ℕ) → conjuncts (predicate_map f p) ≡ map (predicate_map f) (conjuncts p)
conjuncts-map f (conjunction p q) =
    ap (λ some. some ++ conjuncts (predicate_map f q)) (conjuncts-map f p) ∙ ap (λ some. map (predicate_map f) (conjuncts p) ++ some) (conjuncts-map f q)
    ∙ sym (map-append (predicate_map f) (conjuncts p) (conjuncts q))
conjuncts-map f (disjunction p q) = refl
conjuncts-map f (negation p) = refl
conjuncts-map f (truth_test negated tested p) = refl
conjuncts-map f (comparing comparison a b) = refl
conjuncts-map f (between negated a low high) = refl
conjuncts-map f (membership negated a items) = refl
conjuncts-map f (null_test negated a) = refl
conjuncts-map f (constant truth) = refl

module _ (test : ℕ → Bool) where
  conjuncts_name : (p : Pred ℕ) → names_only test p ≡ true → list_all (names_only test) (conjuncts p) ≡ true
  conjuncts_name (conjunction p q) h =
      let parts = and_parts (names_only test p) (names_only test q) h in
      list_all-append (names_only test) (conjuncts p) (conjuncts q)
      ∙ and_from (list_all (names_only test) (conjuncts p)) (list_all (names_only test) (conjuncts q)) (conjuncts_name p parts.0) (conjuncts_name q parts.1)
  conjuncts_name (disjunction p q) h = and_from (names_only test (disjunction p q)) true h refl
  conjuncts_name (negation p) h = and_from (names_only test (negation p)) true h refl
  conjuncts_name (truth_test negated tested p) h = and_from (names_only test (truth_test negated tested p)) true h refl
  conjuncts_name (comparing comparison a b) h = and_from (names_only test (comparing comparison a b)) true h refl
  conjuncts_name (between negated a low high) h = and_from (names_only test (between negated a low high)) true h refl
  conjuncts_name (membership negated a items) h = and_from (names_only test (membership negated a items)) true h refl
  conjuncts_name (null_test negated a) h = and_from (names_only test (null_test negated a)) true h refl
  conjuncts_name (constant truth) h = refl

stays_below : (uses : List Bool) (widths : List ℕ) (ps : List (Pred ℕ)) → list_all (names_only (is_used uses)) ps ≡ true →
    list_all (λ part. not (is_of_one_place (widths_in uses widths) part)) (map (predicate_map (used_number uses)) ps)
    ≡ list_all (λ part. not (is_of_one_place widths part)) ps
stays_below uses widths [] h = refl
stays_below uses widths (p ∷ ps) h =
    let parts = and_parts (names_only (is_used uses) p) (list_all (names_only (is_used uses)) ps) h in
    ap (λ b. not b && list_all (λ part. not (is_of_one_place (widths_in uses widths) part)) (map (predicate_map (used_number uses)) ps))
    (of_one_place uses p parts.0 widths)
    ∙ ap (λ b. not (is_of_one_place widths p) && b) (stays_below uses widths ps parts.1)

pub pruned_below : (uses : List Bool) (tree : Tree) → AreUsed uses tree → is_pushed (pruned uses tree) ≡ is_pushed tree
pruned_below uses (scan table schema columns) u = refl
pruned_below uses (filtered predicate tree) u =
    let new = pruned uses tree in
    let parts = conjuncts (predicate_map (used_number uses) predicate) in
    ap (λ b. (b || list_all (λ part. not (is_of_one_place (place_widths new) part)) parts) && is_pushed new) (pruned_place uses tree)
    ∙ ap (λ some. (is_place tree || list_all (λ part. not (is_of_one_place some part)) parts) && is_pushed new) (pruned_widths uses tree u.1)
    ∙ ap (λ some. (is_place tree || list_all (λ part. not (is_of_one_place (widths_in uses (place_widths tree)) part)) some) && is_pushed new) (conjuncts-map (used_number uses) predicate)
    ∙ ap (λ b. (is_place tree || b) && is_pushed new) (stays_below uses (place_widths tree) (conjuncts predicate) (conjuncts_name (is_used uses) predicate u.0))
    ∙ ap (λ b. (is_place tree || list_all (λ part. not (is_of_one_place (place_widths tree) part)) (conjuncts predicate)) && b) (pruned_below uses tree u.1)
pruned_below uses (joined left right on) u =
    ap (λ b. b && is_pushed (pruned (drop (tree_width left) uses) right)) (pruned_below (take (tree_width left) uses) left u.1)
    ∙ ap (λ b. is_pushed left && b) (pruned_below (drop (tree_width left) uses) right u.2)
