-- Pushed filters stand below the joins.
use Rattle.std.proofs.Common.{◌≡◌, ◌≤◌, ℕ, ◌+◌, ◌-◌, Bool, true, false, not, ◌&&◌, ◌||◌, cond, List, [], ◌∷◌, ◌++◌, map, filter, nat_lt, nat_le, refl, sym, ap, ◌∙◌, arith}
use Rattle.std.specs.List.{list_all}
use mathlib.Core.List.{append_assoc, append-nil}
use Rattle.std.proofs.lemmas.Bool.{and_from, and_parts, and_right, or_left, or_right, or_from, not-true, not_from_false, both_ways, false_from_ne_true, ltb-true, leb-true, lt-ltb, le-ltb}
use Rattle.scan_base.specs.Predicate.{Pred, conjunction, disjunction, negation, truth_test, comparing, between, membership, null_test, constant, names_only}
use Rattle.rewrite.specs.Conjuncts.{conjuncts, is_sure, parts_of, all_of, names_some, is_between, is_of_one, is_of_one_place, place_widths}
use Rattle.rewrite.specs.Laws.{PushedStandBelow}
use Rattle.rewrite.specs.PushedFilters.{is_left, is_behind, is_right, is_both, moved, above, pushed, is_pushed}
use Rattle.rewrite.specs.Places.{tree_width}
use Rattle.typed_plan.specs.NumberedPredicates.{predicate_map}
use Rattle.typed_plan.specs.Plan.{Tree, scan, filtered, joined}
use Rattle.std.proofs.lemmas.List.{length-append}
use Rattle.typed_plan.specs.TypedPlans.{is_place, tree_types}
use Rattle.rewrite.proofs.Naming.{weaker}

-- ---- parts that are no conjunctions

abbrev is_part : Pred ℕ → Bool
is_part (conjunction p q) = false
is_part p = true

alone : (p : Pred ℕ) → is_part p ≡ true → conjuncts p ≡ p ∷ []
alone (conjunction p q) e = cc
alone (disjunction p q) e = refl
alone (negation p) e = refl
alone (truth_test negated tested p) e = refl
alone (comparing comparison a b) e = refl
alone (between negated a low high) e = refl
alone (membership negated a items) e = refl
alone (null_test negated a) e = refl
alone (constant truth) e = refl

part_moved : (f : ℕ → ℕ) (p : Pred ℕ) → is_part (predicate_map f p) ≡ is_part p
part_moved f (conjunction p q) = refl
part_moved f (disjunction p q) = refl
part_moved f (negation p) = refl
part_moved f (truth_test negated tested p) = refl
part_moved f (comparing comparison a b) = refl
part_moved f (between negated a low high) = refl
part_moved f (membership negated a items) = refl
part_moved f (null_test negated a) = refl
part_moved f (constant truth) = refl

parts-append : (ps qs : List (Pred ℕ)) → list_all is_part ps ≡ true → list_all is_part qs ≡ true → list_all is_part (ps ++ qs) ≡ true
parts-append [] qs h k = k
parts-append (p ∷ ps) qs h k =
    let parts = and_parts (is_part p) (list_all is_part ps) h in
    and_from (is_part p) (list_all is_part (ps ++ qs)) parts.0 (parts-append ps qs parts.1 k)

conjuncts_are_parts : (p : Pred ℕ) → list_all is_part (conjuncts p) ≡ true
conjuncts_are_parts (conjunction p q) = parts-append (conjuncts p) (conjuncts q) (conjuncts_are_parts p) (conjuncts_are_parts q)
conjuncts_are_parts (disjunction p q) = refl
conjuncts_are_parts (negation p) = refl
conjuncts_are_parts (truth_test negated tested p) = refl
conjuncts_are_parts (comparing comparison a b) = refl
conjuncts_are_parts (between negated a low high) = refl
conjuncts_are_parts (membership negated a items) = refl
conjuncts_are_parts (null_test negated a) = refl
conjuncts_are_parts (constant truth) = refl

part_if : (b : Bool) (p : Pred ℕ) (ps : List (Pred ℕ)) → is_part p ≡ true → list_all is_part ps ≡ true → list_all is_part (cond b (p ∷ ps) ps) ≡ true
part_if true p ps h k = and_from (is_part p) (list_all is_part ps) h k
part_if false p ps h k = k

parts-filter : (test : Pred ℕ → Bool) (ps : List (Pred ℕ)) → list_all is_part ps ≡ true → list_all is_part (filter test ps) ≡ true
parts-filter test [] h = refl
parts-filter test (p ∷ ps) h =
    let parts = and_parts (is_part p) (list_all is_part ps) h in part_if (test p) p (filter test ps) parts.0 (parts-filter test ps parts.1)

parts-moved : (seam : ℕ) (ps : List (Pred ℕ)) → list_all is_part ps ≡ true → list_all is_part (map (moved seam) ps) ≡ true
parts-moved seam [] h = refl
parts-moved seam (p ∷ ps) h =
    let parts = and_parts (is_part p) (list_all is_part ps) h in
    and_from (is_part (moved seam p)) (list_all is_part (map (moved seam) ps)) (part_moved (λ c. c - seam) p ∙ parts.0) (parts-moved seam ps parts.1)

-- ---- the widths of places

abbrev pub total : List ℕ → ℕ
total [] = 0
total (width ∷ widths) = width + total widths

total-append : (ws vs : List ℕ) → total (ws ++ vs) ≡ total ws + total vs
total-append [] vs = omega arith
total-append (w ∷ ws) vs = let h = total-append ws vs in omega (arith, h)

pub all_widths : (tree : Tree) → total (place_widths tree) ≡ tree_width tree
all_widths (scan table schema columns) = omega arith
all_widths (filtered predicate tree) = all_widths tree
all_widths (joined left right on) =
    let l = all_widths left in
    let r = all_widths right in
    let both = total-append (place_widths left) (place_widths right) in
    let types = length-append (tree_types left) (tree_types right) in
    omega (arith, l, r, both, types)

above_widths : (ps : List (Pred ℕ)) (tree : Tree) → place_widths (above ps tree) ≡ place_widths tree
above_widths [] tree = refl
above_widths (p ∷ ps) tree = refl

pushed_widths : (ps : List (Pred ℕ)) (tree : Tree) → place_widths (pushed ps tree) ≡ place_widths tree
pushed_widths ps (scan table schema columns) = above_widths ps (scan table schema columns)
pushed_widths ps (filtered predicate tree) = pushed_widths (parts_of predicate ++ ps) tree
pushed_widths ps (joined left right on) =
    let seam = tree_width left in
    let ls = filter (is_left seam) ps in
    let rs = map (moved seam) (filter (is_right seam) ps) in
    above_widths (filter (is_both seam) ps) (joined (pushed ls left) (pushed rs right) on)
    ∙ (ap (λ w. w ++ place_widths (pushed rs right)) (pushed_widths ls left) ∙ ap (λ w. place_widths left ++ w) (pushed_widths rs right))

-- ---- a predicate of both sides is of no one place

module _ (seam : ℕ) (p : Pred ℕ) (not_left : is_left seam p ≡ false) (not_behind : is_behind seam p ≡ false) where
  in_front : (first width : ℕ) → first + width ≤ seam → names_only (is_between first width) p ≡ false
  in_front first width h = false_from_ne_true (names_only (is_between first width) p) (λ e.
      both_ways (is_left seam p) not_left (weaker (is_between first width) (λ c. nat_lt c seam)
      (λ c b. let parts = and_parts (nat_le first c) (nat_lt c (first + width)) b in let lt = ltb-true c (first + width) parts.1 in lt-ltb c seam (omega (arith, lt, h))) p e))

  at_back : (first width : ℕ) → seam ≤ first → names_only (is_between first width) p ≡ false
  at_back first width h = false_from_ne_true (names_only (is_between first width) p) (λ e.
      both_ways (is_behind seam p) not_behind (weaker (is_between first width) (λ c. not (nat_lt c seam))
      (λ c b. let parts = and_parts (nat_le first c) (nat_lt c (first + width)) b in let le = leb-true first c parts.0 in
      not_from_false (nat_lt c seam) (le-ltb c seam (omega (arith, le, h)))) p e))

  back : (widths : List ℕ) (first : ℕ) → seam ≤ first → is_of_one first widths p ≡ false
  back [] first h = refl
  back (width ∷ widths) first h =
      or_from (names_only (is_between first width) p) (is_of_one (first + width) widths p) (at_back first width h) (back widths (first + width) (omega (arith, h)))

  front : (widths more : List ℕ) (first : ℕ) → first + total widths ≡ seam → is_of_one first (widths ++ more) p ≡ false
  front [] more first h = back more first (omega (arith, h))
  front (width ∷ widths) more first h =
      or_from (names_only (is_between first width) p) (is_of_one (first + width) (widths ++ more) p)
      (in_front first width (omega (arith, h))) (front widths more (first + width) (omega (arith, h)))

-- whether a part may stand above a join of places of these widths
abbrev stays : List ℕ → Pred ℕ → Bool
stays widths p = is_part p && not (is_of_one_place widths p)

stay_if : (ws : List ℕ) (p : Pred ℕ) (ps : List (Pred ℕ)) (b : Bool) → (b ≡ true → stays ws p ≡ true) → list_all (stays ws) ps ≡ true →
    list_all (stays ws) (cond b (p ∷ ps) ps) ≡ true
stay_if ws p ps true h k = and_from (stays ws p) (list_all (stays ws) ps) (h refl) k
stay_if ws p ps false h k = k

all_stay : (seam : ℕ) (ws vs : List ℕ) → total ws ≡ seam → (ps : List (Pred ℕ)) → list_all is_part ps ≡ true →
    list_all (stays (ws ++ vs)) (filter (is_both seam) ps) ≡ true
all_stay seam ws vs h [] k = refl
all_stay seam ws vs h (p ∷ ps) k =
    let parts = and_parts (is_part p) (list_all is_part ps) k in
    stay_if (ws ++ vs) p (filter (is_both seam) ps) (is_both seam p)
    (λ e. let sides = and_parts (not (is_left seam p)) (not (is_behind seam p)) e in
    let one = front seam p (not-true (is_left seam p) sides.0) (not-true (is_behind seam p) sides.1) ws vs 0 (omega (arith, h)) in
    and_from (is_part p) (not (is_of_one_place (ws ++ vs) p)) parts.0
    (not_from_false (is_of_one_place (ws ++ vs) p) (and_right (names_some p) (is_of_one 0 (ws ++ vs) p) one)))
    (all_stay seam ws vs h ps parts.1)

-- ---- every tree

over_place : (ps : List (Pred ℕ)) (tree : Tree) → is_place tree ≡ true → is_pushed tree ≡ true → is_pushed (above ps tree) ≡ true
over_place [] tree h k = k
over_place (p ∷ ps) tree h k =
    let belows = list_all (λ part. not (is_of_one_place (place_widths tree) part)) (conjuncts (all_of p ps)) in
    and_from (is_place tree || belows) (is_pushed tree) (or_left (is_place tree) belows h) k

-- the parts of parts joined by ANDs are these
conjuncts_of_all : (p : Pred ℕ) (ps qs : List (Pred ℕ)) → conjuncts p ≡ qs → list_all is_part ps ≡ true → conjuncts (all_of p ps) ≡ qs ++ ps
conjuncts_of_all p [] qs e h = e ∙ sym (append-nil qs)
conjuncts_of_all p (q ∷ ps) qs e h =
    let parts = and_parts (is_part q) (list_all is_part ps) h in
    conjuncts_of_all (conjunction p q) ps (qs ++ q ∷ []) (ap (λ some. some ++ conjuncts q) e ∙ ap (λ some. qs ++ some) (alone q parts.0)) parts.1
    ∙ append_assoc qs (q ∷ []) ps

stays_weaker : (ws : List ℕ) (ps : List (Pred ℕ)) → list_all (stays ws) ps ≡ true →
    (list_all is_part ps ≡ true) × (list_all (λ part. not (is_of_one_place ws part)) ps ≡ true)
stays_weaker ws [] h = (refl, refl)
stays_weaker ws (p ∷ ps) h =
    let parts = and_parts (stays ws p) (list_all (stays ws) ps) h in
    let here = and_parts (is_part p) (not (is_of_one_place ws p)) parts.0 in
    let rest = stays_weaker ws ps parts.1 in (
      and_from (is_part p) (list_all is_part ps) here.0 rest.0,
      and_from (not (is_of_one_place ws p)) (list_all (λ part. not (is_of_one_place ws part)) ps) here.1 rest.1,
    )

over_join : (ws : List ℕ) (ps : List (Pred ℕ)) (tree : Tree) → place_widths tree ≡ ws → list_all (stays ws) ps ≡ true → is_pushed tree ≡ true →
    is_pushed (above ps tree) ≡ true
over_join ws [] tree e h k = k
over_join ws (p ∷ ps) tree e h k =
    let both = stays_weaker ws (p ∷ ps) h in
    let parts = and_parts (is_part p) (list_all is_part ps) both.0 in
    let belows = list_all (λ part. not (is_of_one_place (place_widths tree) part)) (conjuncts (all_of p ps)) in
    let one : belows ≡ true =
    ap (λ w. list_all (λ part. not (is_of_one_place w part)) (conjuncts (all_of p ps))) e
    ∙ ap (λ some. list_all (λ part. not (is_of_one_place ws part)) some) (conjuncts_of_all p ps (p ∷ []) (alone p parts.0) parts.1)
    ∙ both.1 in
    and_from (is_place tree || belows) (is_pushed tree) (or_right (is_place tree) belows one) k

pub stand_below : (ps : List (Pred ℕ)) (tree : Tree) → list_all is_part ps ≡ true → is_pushed (pushed ps tree) ≡ true
stand_below ps (scan table schema columns) h = over_place ps (scan table schema columns) refl refl
stand_below ps (filtered predicate tree) h =
    stand_below (parts_of predicate ++ ps) tree
    (parts-append (parts_of predicate) ps (parts-filter (λ part. not (is_sure part)) (conjuncts predicate) (conjuncts_are_parts predicate)) h)
stand_below ps (joined left right on) h =
    let seam = tree_width left in
    let ls = filter (is_left seam) ps in
    let rs = map (moved seam) (filter (is_right seam) ps) in
    let ws = place_widths left in
    let vs = place_widths right in
    let widths : place_widths (pushed ls left) ++ place_widths (pushed rs right) ≡ ws ++ vs =
    ap (λ w. w ++ place_widths (pushed rs right)) (pushed_widths ls left) ∙ ap (λ w. ws ++ w) (pushed_widths rs right) in
    over_join (ws ++ vs) (filter (is_both seam) ps) (joined (pushed ls left) (pushed rs right) on) widths
    (all_stay seam ws vs (all_widths left) ps h)
    (and_from (is_pushed (pushed ls left)) (is_pushed (pushed rs right))
    (stand_below ls left (parts-filter (is_left seam) ps h))
    (stand_below rs right (parts-moved seam (filter (is_right seam) ps) (parts-filter (is_right seam) ps h))))

pub pushed_stand_below : PushedStandBelow
pushed_stand_below tree = stand_below [] tree refl
