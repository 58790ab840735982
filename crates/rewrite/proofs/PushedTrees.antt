-- A pushed tree is well typed, and a plan with it stands for the one that it was made of.
use Rattle.std.proofs.Common.{◌≡◌, ℕ, Bool, true, false, not, cond, List, [], ◌∷◌, ◌++◌, length, map, filter, None, IsTrue, refl, sym, ap, ◌∙◌, subst}
use Rattle.std.specs.List.{list_all, AllByRecursion}
use Rattle.std.proofs.lemmas.Bool.{and_parts}
use Rattle.arrow_types.specs.declared.data_type.DataType.{DataType}
use Rattle.scan_base.specs.Predicate.{Pred, conjunction, disjunction, negation, truth_test, comparing, between, membership, null_test, constant}
use Rattle.table_versions.specs.Table.{Name}
use Rattle.typed_plan.proofs.TypedNames.{then_none}
use Rattle.typed_plan.specs.declared.plan.JoinKey.{JoinKey}
use Rattle.typed_plan.specs.Faults.{◌then◌, predicate_fault, first_in}
use Rattle.typed_plan.specs.HeldTables.{tree_tables}
use Rattle.typed_plan.specs.Plan.{Tree, scan, filtered, joined, output_rows}
use Rattle.typed_plan.specs.TypedPlans.{class_of_number, tree_types, is_grouping, is_place, IsTypedTree, key_fault, spans}
use Rattle.rewrite.proofs.Databases.{same_of_places}
use Rattle.rewrite.proofs.PushedRows.{pushing_keeps_rows}
use Rattle.rewrite.proofs.WellTyped.{fault_of_left, fault_of_right}
use Rattle.rewrite.specs.Conjuncts.{conjuncts, is_sure, parts_of, all_of}
use Rattle.rewrite.specs.Places.{rows_over, tree_width}
use Rattle.rewrite.specs.SameRows.{SameOverPlaces, StandsFor}
use Rattle.typed_plan.specs.View.{BoundAt, tree_of, plan_of}
use Rattle.rewrite.specs.PushedFilters.{is_left, is_behind, is_right, is_both, moved, above, pushed}

-- predicates that are well typed over columns of these types
abbrev AreTyped : List DataType → List (Pred ℕ) → Type 0
AreTyped types ps = AllByRecursion (λ (p : Pred ℕ). predicate_fault (class_of_number types) p ≡ None) ps

module _ (types : List DataType) where
  typed-append : (ps qs : List (Pred ℕ)) → AreTyped types ps → AreTyped types qs → AreTyped types (ps ++ qs)
  typed-append [] qs h k = k
  typed-append (p ∷ ps) qs h k = (h.0, typed-append ps qs h.1 k)

  typed_if : (b : Bool) (p : Pred ℕ) (ps : List (Pred ℕ)) → predicate_fault (class_of_number types) p ≡ None → AreTyped types ps → AreTyped types (cond b (p ∷ ps) ps)
  typed_if true p ps h k = (h, k)
  typed_if false p ps h k = k

  typed-filter : (test : Pred ℕ → Bool) (ps : List (Pred ℕ)) → AreTyped types ps → AreTyped types (filter test ps)
  typed-filter test [] h = h
  typed-filter test (p ∷ ps) h = typed_if (test p) p (filter test ps) h.0 (typed-filter test ps h.1)

  conjuncts_typed : (p : Pred ℕ) → predicate_fault (class_of_number types) p ≡ None → AreTyped types (conjuncts p)
  conjuncts_typed (conjunction p q) e =
      let f = class_of_number types in
      let parts = then_none (predicate_fault f p) (predicate_fault f q) e in
      typed-append (conjuncts p) (conjuncts q) (conjuncts_typed p parts.0) (conjuncts_typed q parts.1)
  conjuncts_typed (disjunction p q) e = (e, tt)
  conjuncts_typed (negation p) e = (e, tt)
  conjuncts_typed (truth_test negated tested p) e = (e, tt)
  conjuncts_typed (comparing comparison a b) e = (e, tt)
  conjuncts_typed (between negated a low high) e = (e, tt)
  conjuncts_typed (membership negated a items) e = (e, tt)
  conjuncts_typed (null_test negated a) e = (e, tt)
  conjuncts_typed (constant truth) e = (e, tt)

  parts_typed : (p : Pred ℕ) → predicate_fault (class_of_number types) p ≡ None → AreTyped types (parts_of p)
  parts_typed p e = typed-filter (λ part. not (is_sure part)) (conjuncts p) (conjuncts_typed p e)

  all_typed : (p : Pred ℕ) (ps : List (Pred ℕ)) → predicate_fault (class_of_number types) p ≡ None → AreTyped types ps →
      predicate_fault (class_of_number types) (all_of p ps) ≡ None
  all_typed p [] h k = h
  all_typed p (q ∷ ps) h k =
      let f = class_of_number types in
      all_typed (conjunction p q) ps (ap (λ first. first then predicate_fault f q) h ∙ k.0) k.1

above_types : (ps : List (Pred ℕ)) (tree : Tree) → tree_types (above ps tree) ≡ tree_types tree
above_types [] tree = refl
above_types (p ∷ ps) tree = refl

above_place : (ps : List (Pred ℕ)) (tree : Tree) → is_place (above ps tree) ≡ is_place tree
above_place [] tree = refl
above_place (p ∷ ps) tree = refl

above_tables : (ps : List (Pred ℕ)) (tree : Tree) → tree_tables (above ps tree) ≡ tree_tables tree
above_tables [] tree = refl
above_tables (p ∷ ps) tree = refl

above_typed : (ps : List (Pred ℕ)) (tree : Tree) → AreTyped (tree_types tree) ps → IsTypedTree tree → IsTypedTree (above ps tree)
above_typed [] tree h k = k
above_typed (p ∷ ps) tree h k = (all_typed (tree_types tree) p ps h.0 h.1, k)

-- what is of one side is well typed over its columns
module _ (ls rs : List DataType) where
  left_if : (p : Pred ℕ) (ps : List (Pred ℕ)) (b : Bool) → is_left (length ls) p ≡ b → predicate_fault (class_of_number (ls ++ rs)) p ≡ None →
      AreTyped ls ps → AreTyped ls (cond b (p ∷ ps) ps)
  left_if p ps true e h k = (fault_of_left ls rs p e h, k)
  left_if p ps false e h k = k

  lefts_typed : (ps : List (Pred ℕ)) → AreTyped (ls ++ rs) ps → AreTyped ls (filter (is_left (length ls)) ps)
  lefts_typed [] h = tt
  lefts_typed (p ∷ ps) h = left_if p (filter (is_left (length ls)) ps) (is_left (length ls) p) refl h.0 (lefts_typed ps h.1)

  right_if : (p : Pred ℕ) (ps : List (Pred ℕ)) (b : Bool) → is_right (length ls) p ≡ b → predicate_fault (class_of_number (ls ++ rs)) p ≡ None →
      AreTyped rs (map (moved (length ls)) ps) → AreTyped rs (map (moved (length ls)) (cond b (p ∷ ps) ps))
  right_if p ps true e h k =
      (fault_of_right ls rs p (and_parts (not (is_left (length ls) p)) (is_behind (length ls) p) e).1 h, k)
  right_if p ps false e h k = k

  rights_typed : (ps : List (Pred ℕ)) → AreTyped (ls ++ rs) ps → AreTyped rs (map (moved (length ls)) (filter (is_right (length ls)) ps))
  rights_typed [] h = tt
  rights_typed (p ∷ ps) h = right_if p (filter (is_right (length ls)) ps) (is_right (length ls) p) refl h.0 (rights_typed ps h.1)

-- ---- every tree

pub pushed_types : (ps : List (Pred ℕ)) (tree : Tree) → tree_types (pushed ps tree) ≡ tree_types tree
pushed_types ps (scan table schema columns) = above_types ps (scan table schema columns)
pushed_types ps (filtered predicate tree) = pushed_types (parts_of predicate ++ ps) tree
pushed_types ps (joined left right on) =
    let seam = tree_width left in
    let l = pushed (filter (is_left seam) ps) left in
    let r = pushed (map (moved seam) (filter (is_right seam) ps)) right in
    above_types (filter (is_both seam) ps) (joined l r on)
    ∙ (ap (λ (types : List DataType). types ++ tree_types r) (pushed_types (filter (is_left seam) ps) left)
    ∙ ap (λ (types : List DataType). tree_types left ++ types) (pushed_types (map (moved seam) (filter (is_right seam) ps)) right))

pub pushed_place : (ps : List (Pred ℕ)) (tree : Tree) → is_place (pushed ps tree) ≡ is_place tree
pushed_place ps (scan table schema columns) = above_place ps (scan table schema columns)
pushed_place ps (filtered predicate tree) = pushed_place (parts_of predicate ++ ps) tree
pushed_place ps (joined left right on) =
    let seam = tree_width left in
    above_place (filter (is_both seam) ps)
    (joined (pushed (filter (is_left seam) ps) left) (pushed (map (moved seam) (filter (is_right seam) ps)) right) on)

pub pushed_tables : (ps : List (Pred ℕ)) (tree : Tree) → tree_tables (pushed ps tree) ≡ tree_tables tree
pushed_tables ps (scan table schema columns) = above_tables ps (scan table schema columns)
pushed_tables ps (filtered predicate tree) = pushed_tables (parts_of predicate ++ ps) tree
pushed_tables ps (joined left right on) =
    let seam = tree_width left in
    let l = pushed (filter (is_left seam) ps) left in
    let r = pushed (map (moved seam) (filter (is_right seam) ps)) right in
    above_tables (filter (is_both seam) ps) (joined l r on)
    ∙ (ap (λ (names : List Name). names ++ tree_tables r) (pushed_tables (filter (is_left seam) ps) left)
    ∙ ap (λ (names : List Name). tree_tables left ++ names) (pushed_tables (map (moved seam) (filter (is_right seam) ps)) right))

joined_typed : (left right l r : Tree) (on : List JoinKey) → tree_types l ≡ tree_types left → tree_types r ≡ tree_types right → is_place r ≡ is_place right →
    IsTypedTree l → IsTypedTree r → IsTypedTree (joined left right on) → IsTypedTree (joined l r on)
joined_typed left right l r on e f place typed_l typed_r h = (
  typed_l,
  typed_r,
  place ∙ h.2,
  ap (λ (types : List DataType). first_in (key_fault (types ++ tree_types r)) on) e
      ∙ ap (λ (types : List DataType). first_in (key_fault (tree_types left ++ types)) on) f ∙ h.3,
  subst (λ (types : List DataType). IsTrue (list_all (spans (length types)) on)) (sym e) h.4,
)

pub pushed_typed : (ps : List (Pred ℕ)) (tree : Tree) → AreTyped (tree_types tree) ps → IsTypedTree tree → IsTypedTree (pushed ps tree)
pushed_typed ps (scan table schema columns) k h = above_typed ps (scan table schema columns) k h
pushed_typed ps (filtered predicate tree) k h =
    pushed_typed (parts_of predicate ++ ps) tree
    (typed-append (tree_types tree) (parts_of predicate) ps (parts_typed (tree_types tree) predicate h.0) k) h.1
pushed_typed ps (joined left right on) k h =
    let seam = tree_width left in
    let ls = filter (is_left seam) ps in
    let rs = map (moved seam) (filter (is_right seam) ps) in
    let bs = filter (is_both seam) ps in
    let types : tree_types (pushed ls left) ++ tree_types (pushed rs right) ≡ tree_types left ++ tree_types right =
    ap (λ (some : List DataType). some ++ tree_types (pushed rs right)) (pushed_types ls left)
    ∙ ap (λ (some : List DataType). tree_types left ++ some) (pushed_types rs right) in
    above_typed bs (joined (pushed ls left) (pushed rs right) on)
    (subst (λ (some : List DataType). AreTyped some bs) (sym types) (typed-filter (tree_types left ++ tree_types right) (is_both seam) ps k))
    (joined_typed left right (pushed ls left) (pushed rs right) on (pushed_types ls left) (pushed_types rs right) (pushed_place rs right)
    (pushed_typed ls left (lefts_typed (tree_types left) (tree_types right) ps k) h.0)
    (pushed_typed rs right (rights_typed (tree_types left) (tree_types right) ps k) h.1) h)

-- a plan with a pushed tree stands for it
pub pushed_stands : (new old : BoundAt) → tree_of new.plan ≡ pushed [] (tree_of old.plan) → new.output ≡ old.output → new.tables ≡ old.tables →
    new.schema ≡ old.schema → StandsFor new old
pushed_stands new old tree output tables schema =
    let same : SameOverPlaces (plan_of new) (plan_of old) =
    λ places wide.
    ap (λ (some : Tree). output_rows new.output (rows_over some places)) tree
    ∙ ap (output_rows new.output) (pushing_keeps_rows (tree_of old.plan) places wide)
    ∙ ap (λ o. output_rows o (rows_over (tree_of old.plan) places)) output in
    record {
      rows = same_of_places (plan_of new) (plan_of old) (ap tree_tables tree ∙ pushed_tables [] (tree_of old.plan)) same;
      places = same;
      grouping = ap is_grouping output;
      tables = tables;
      schema = schema;
    }
