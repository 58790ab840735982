-- Pushing down keeps filters folded, and a plan that was rewritten twice stands for the first one.
use Rattle.std.proofs.Common.{◌≡◌, ℕ, ◌-◌, Bool, true, false, not, cond, List, [], ◌∷◌, ◌++◌, length, map, filter, drop, refl, sym, ap, ◌∙◌, subst}
use Rattle.std.specs.List.{list_all}
use Rattle.std.proofs.lemmas.Bool.{and_from, and_parts}
use Rattle.arrow_types.specs.declared.schema.Schema.{Schema}
use Rattle.scan_base.specs.declared.predicate.Operand.{Operand}
use Rattle.scan_base.specs.declared.predicate.Operand.TheVariants as operand
use Rattle.scan_base.specs.Predicate.{Pred, conjunction, disjunction, negation, truth_test, comparing, between, membership, null_test, constant, operand_names}
use Rattle.table_versions.specs.Database.{Database}
use Rattle.table_versions.specs.Table.{Row}
use Rattle.typed_plan.specs.HeldTables.{tree_schemas}
use Rattle.typed_plan.specs.NumberedPredicates.{operand_map, predicate_map}
use Rattle.typed_plan.specs.Plan.{Tree, scan, filtered, joined}
use Rattle.typed_plan.specs.TypedPlans.{IsOver}
use Rattle.typed_plan.specs.View.{BoundAt, tree_of}
use Rattle.rewrite.proofs.FoldedTrees.{folded_schemas}
use Rattle.rewrite.proofs.PushedRows.{pushed_schemas}
use Rattle.rewrite.specs.Conjuncts.{conjuncts, is_sure, parts_of, all_of}
use Rattle.rewrite.specs.FoldedPredicates.{is_folded, is_folded_tree, folded_tree}
use Rattle.rewrite.specs.Laws.{AreWide}
use Rattle.rewrite.specs.Places.{tree_width}
use Rattle.rewrite.specs.PushedFilters.{is_left, is_right, is_both, moved, above, pushed}
use Rattle.rewrite.specs.SameRows.{StandsFor}

-- ---- predicates with other numbers

module _ (f : ℕ → ℕ) where
  none_of_operand : (o : Operand ℕ) → operand_names (λ column. false) (operand_map f o) ≡ operand_names (λ column. false) o
  none_of_operand (operand.Column column) = refl
  none_of_operand (operand.Literal value) = refl

  none_of_items : (items : List (Operand ℕ)) → list_all (operand_names (λ column. false)) (map (operand_map f) items) ≡ list_all (operand_names (λ column. false)) items
  none_of_items [] = refl
  none_of_items (item ∷ items) = let here = none_of_operand item in let there = none_of_items items in cc

  pub folded_map : (p : Pred ℕ) → is_folded (predicate_map f p) ≡ is_folded p
  folded_map (conjunction p q) = let here = folded_map p in let there = folded_map q in cc
  folded_map (disjunction p q) = let here = folded_map p in let there = folded_map q in cc
  folded_map (negation p) = folded_map p
  folded_map (truth_test negated tested p) = folded_map p
  folded_map (constant truth) = refl
  folded_map (comparing comparison a b) = let here = none_of_operand a in let there = none_of_operand b in cc
  folded_map (between negated a low high) = let here = none_of_operand a in let l = none_of_operand low in let h = none_of_operand high in cc
  folded_map (membership negated a items) = let here = none_of_operand a in let there = none_of_items items in cc
  folded_map (null_test negated a) = ap not (none_of_operand a)

-- ---- parts

abbrev are_folded : List (Pred ℕ) → Bool
are_folded ps = list_all is_folded ps

folded-append : (ps qs : List (Pred ℕ)) → are_folded ps ≡ true → are_folded qs ≡ true → are_folded (ps ++ qs) ≡ true
folded-append [] qs h k = k
folded-append (p ∷ ps) qs h k =
    let parts = and_parts (is_folded p) (are_folded ps) h in
    and_from (is_folded p) (are_folded (ps ++ qs)) parts.0 (folded-append ps qs parts.1 k)

folded_if : (b : Bool) (p : Pred ℕ) (ps : List (Pred ℕ)) → is_folded p ≡ true → are_folded ps ≡ true → are_folded (cond b (p ∷ ps) ps) ≡ true
folded_if true p ps h k = and_from (is_folded p) (are_folded ps) h k
folded_if false p ps h k = k

folded-filter : (test : Pred ℕ → Bool) (ps : List (Pred ℕ)) → are_folded ps ≡ true → are_folded (filter test ps) ≡ true
folded-filter test [] h = refl
folded-filter test (p ∷ ps) h =
    let parts = and_parts (is_folded p) (are_folded ps) h in folded_if (test p) p (filter test ps) parts.0 (folded-filter test ps parts.1)

folded-moved : (seam : ℕ) (ps : List (Pred ℕ)) → are_folded ps ≡ true → are_folded (map (moved seam) ps) ≡ true
folded-moved seam [] h = refl
folded-moved seam (p ∷ ps) h =
    let parts = and_parts (is_folded p) (are_folded ps) h in
    and_from (is_folded (moved seam p)) (are_folded (map (moved seam) ps)) (folded_map (λ c. c - seam) p ∙ parts.0) (folded-moved seam ps parts.1)

folded_conjuncts : (p : Pred ℕ) → is_folded p ≡ true → are_folded (conjuncts p) ≡ true
folded_conjuncts (conjunction p q) h =
    let parts = and_parts (is_folded p) (is_folded q) h in
    folded-append (conjuncts p) (conjuncts q) (folded_conjuncts p parts.0) (folded_conjuncts q parts.1)
folded_conjuncts (disjunction p q) h = and_from (is_folded (disjunction p q)) true h refl
folded_conjuncts (negation p) h = and_from (is_folded (negation p)) true h refl
folded_conjuncts (truth_test negated tested p) h = and_from (is_folded (truth_test negated tested p)) true h refl
folded_conjuncts (comparing comparison a b) h = and_from (is_folded (comparing comparison a b)) true h refl
folded_conjuncts (between negated a low high) h = and_from (is_folded (between negated a low high)) true h refl
folded_conjuncts (membership negated a items) h = and_from (is_folded (membership negated a items)) true h refl
folded_conjuncts (null_test negated a) h = and_from (is_folded (null_test negated a)) true h refl
folded_conjuncts (constant truth) h = refl

folded_all : (p : Pred ℕ) (ps : List (Pred ℕ)) → is_folded p ≡ true → are_folded ps ≡ true → is_folded (all_of p ps) ≡ true
folded_all p [] h k = h
folded_all p (q ∷ ps) h k =
    let parts = and_parts (is_folded q) (are_folded ps) k in
    folded_all (conjunction p q) ps (and_from (is_folded p) (is_folded q) h parts.0) parts.1

-- ---- trees

folded_above : (ps : List (Pred ℕ)) (tree : Tree) → are_folded ps ≡ true → is_folded_tree tree ≡ true → is_folded_tree (above ps tree) ≡ true
folded_above [] tree h k = k
folded_above (p ∷ ps) tree h k =
    let parts = and_parts (is_folded p) (are_folded ps) h in
    and_from (is_folded (all_of p ps)) (is_folded_tree tree) (folded_all p ps parts.0 parts.1) k

pub folded_pushed : (ps : List (Pred ℕ)) (tree : Tree) → are_folded ps ≡ true → is_folded_tree tree ≡ true → is_folded_tree (pushed ps tree) ≡ true
folded_pushed ps (scan table schema columns) h k = folded_above ps (scan table schema columns) h k
folded_pushed ps (filtered predicate tree) h k =
    let parts = and_parts (is_folded predicate) (is_folded_tree tree) k in
    folded_pushed (parts_of predicate ++ ps) tree
    (folded-append (parts_of predicate) ps (folded-filter (λ part. not (is_sure part)) (conjuncts predicate) (folded_conjuncts predicate parts.0)) h) parts.1
folded_pushed ps (joined left right on) h k =
    let seam = tree_width left in
    let ls = filter (is_left seam) ps in
    let rs = map (moved seam) (filter (is_right seam) ps) in
    let parts = and_parts (is_folded_tree left) (is_folded_tree right) k in
    folded_above (filter (is_both seam) ps) (joined (pushed ls left) (pushed rs right) on) (folded-filter (is_both seam) ps h)
    (and_from (is_folded_tree (pushed ls left)) (is_folded_tree (pushed rs right))
    (folded_pushed ls left (folded-filter (is_left seam) ps h) parts.0)
    (folded_pushed rs right (folded-moved seam (filter (is_right seam) ps) (folded-filter (is_right seam) ps h)) parts.1))

-- ---- a folded tree reads what the tree reads

folded_over : (tree : Tree) (database : Database) → IsOver tree database → IsOver (folded_tree tree) database
folded_over (scan table schema columns) database h = h
folded_over (filtered predicate tree) database h = folded_over tree database h
folded_over (joined left right on) database h = (folded_over left database h.0, folded_over right database h.1)

folded_wide : (tree : Tree) (places : List (List Row)) → AreWide tree places → AreWide (folded_tree tree) places
folded_wide (scan table schema columns) places h = h
folded_wide (filtered predicate tree) places h = folded_wide tree places h
folded_wide (joined left right on) places h = (
  folded_wide left places h.0,
  subst (λ (s : List Schema). AreWide (folded_tree right) (drop (length s) places)) (sym (folded_schemas left))
      (folded_wide right (drop (length (tree_schemas left)) places) h.1),
)

-- ---- and a pushed tree too

above_over : (ps : List (Pred ℕ)) (tree : Tree) (database : Database) → IsOver tree database → IsOver (above ps tree) database
above_over [] tree database h = h
above_over (p ∷ ps) tree database h = h

above_wide : (ps : List (Pred ℕ)) (tree : Tree) (places : List (List Row)) → AreWide tree places → AreWide (above ps tree) places
above_wide [] tree places h = h
above_wide (p ∷ ps) tree places h = h

pushed_over : (ps : List (Pred ℕ)) (tree : Tree) (database : Database) → IsOver tree database → IsOver (pushed ps tree) database
pushed_over ps (scan table schema columns) database h = above_over ps (scan table schema columns) database h
pushed_over ps (filtered predicate tree) database h = pushed_over (parts_of predicate ++ ps) tree database h
pushed_over ps (joined left right on) database h =
    let seam = tree_width left in
    let ls = filter (is_left seam) ps in
    let rs = map (moved seam) (filter (is_right seam) ps) in
    above_over (filter (is_both seam) ps) (joined (pushed ls left) (pushed rs right) on) database
    (pushed_over ls left database h.0, pushed_over rs right database h.1)

pushed_wide : (ps : List (Pred ℕ)) (tree : Tree) (places : List (List Row)) → AreWide tree places → AreWide (pushed ps tree) places
pushed_wide ps (scan table schema columns) places h = above_wide ps (scan table schema columns) places h
pushed_wide ps (filtered predicate tree) places h = pushed_wide (parts_of predicate ++ ps) tree places h
pushed_wide ps (joined left right on) places h =
    let seam = tree_width left in
    let ls = filter (is_left seam) ps in
    let rs = map (moved seam) (filter (is_right seam) ps) in
    above_wide (filter (is_both seam) ps) (joined (pushed ls left) (pushed rs right) on) places (
      pushed_wide ls left places h.0,
      subst (λ (s : List Schema). AreWide (pushed rs right) (drop (length s) places)) (sym (pushed_schemas ls left))
          (pushed_wide rs right (drop (length (tree_schemas left)) places) h.1),
    )

-- ---- plans

-- one that stands for another stands for what that one stands for, where the middle one reads what the old one reads
pub stands_through : (new middle old : BoundAt) → ((database : Database) → IsOver (tree_of old.plan) database → IsOver (tree_of middle.plan) database) →
    ((places : List (List Row)) → AreWide (tree_of old.plan) places → AreWide (tree_of middle.plan) places) →
    StandsFor new middle → StandsFor middle old → StandsFor new old
stands_through new middle old reads wider one other = record {
  rows = λ database a b is over. one.rows database a b is (reads database over) ∙ other.rows database a b is over;
  places = λ places wide. one.places places (wider places wide) ∙ other.places places wide;
  grouping = one.grouping ∙ other.grouping;
  tables = one.tables ∙ other.tables;
  schema = one.schema ∙ other.schema;
}

pub stands_after : (new middle old : BoundAt) → tree_of middle.plan ≡ folded_tree (tree_of old.plan) → StandsFor new middle → StandsFor middle old → StandsFor new old
stands_after new middle old tree one other =
    stands_through new middle old
    (λ database over. subst (λ (t : Tree). IsOver t database) (sym tree) (folded_over (tree_of old.plan) database over))
    (λ places wide. subst (λ (t : Tree). AreWide t places) (sym tree) (folded_wide (tree_of old.plan) places wide)) one other

pub stands_behind : (new middle old : BoundAt) → tree_of middle.plan ≡ pushed [] (tree_of old.plan) → StandsFor new middle → StandsFor middle old → StandsFor new old
stands_behind new middle old tree one other =
    stands_through new middle old
    (λ database over. subst (λ (t : Tree). IsOver t database) (sym tree) (pushed_over [] (tree_of old.plan) database over))
    (λ places wide. subst (λ (t : Tree). AreWide t places) (sym tree) (pushed_wide [] (tree_of old.plan) places wide)) one other
