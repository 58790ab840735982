-- A tree in whose ONs each key stands once is well typed, and gives the same rows.
use Rattle.std.proofs.Common.{◌≡◌, ℕ, ◌==◌, Bool, true, false, ◌&&◌, ◌||◌, if◌then◌else◌, List, [], ◌∷◌, ◌++◌, length, map, filter, drop, Option, None, IsTrue, refl, sym, ap, ◌∙◌, subst}
use Rattle.std.specs.List.{list_all, list_any, fold}
use Rattle.std.proofs.lemmas.Bool.{and_parts, eqb-true}
use Rattle.std.proofs.lemmas.List.Elements.{filter_agree}
use Rattle.std.proofs.lemmas.List.Folds.{list_all-append}
use Rattle.arrow_types.specs.declared.data_type.DataType.{DataType}
use Rattle.arrow_types.specs.declared.schema.Schema.{Schema}
use Rattle.scan_base.specs.declared.comparison.Comparison.TheVariants.{Equal}
use Rattle.scan_base.specs.declared.fault.Fault.{Fault}
use Rattle.scan_base.specs.Comparison.{compared}
use Rattle.scan_base.specs.Predicate.{cell_in}
use Rattle.scan_base.specs.Truth.{keeps}
use Rattle.table_versions.specs.Database.{Database}
use Rattle.table_versions.specs.Table.{Row}
use Rattle.typed_plan.proofs.TypedNames.{then_none}
use Rattle.typed_plan.specs.declared.plan.JoinKey.{JoinKey}
use Rattle.typed_plan.specs.Faults.{◌then◌, first_in, predicate_fault}
use Rattle.typed_plan.specs.HeldTables.{tree_schemas}
use Rattle.typed_plan.specs.JoinedRows.{rows_between}
use Rattle.typed_plan.specs.Plan.{Tree, scan, filtered, joined, is_true, fits, joined_rows, tree_rows, output_rows}
use Rattle.typed_plan.specs.TypedPlans.{class_of_number, tree_types, is_grouping, is_place, IsTypedTree, IsOver, key_fault, spans}
use Rattle.typed_plan.specs.View.{BoundAt, tree_of}
use Rattle.rewrite.proofs.FoldedPushed.{stands_through}
use Rattle.rewrite.specs.Laws.{AreWide}
use Rattle.rewrite.specs.Places.{rows_over}
use Rattle.rewrite.specs.SameRows.{StandsFor}
use Rattle.rewrite.specs.SingleKeys.{same_columns, with_key, single_keys, single_tree}

-- ---- keys

same_is : (key other : JoinKey) → same_columns key other ≡ true → key ≡ other
same_is key other h =
    let parts = and_parts (key.left == other.left) (key.right == other.right) h in
    let left = eqb-true key.left other.left parts.0 in
    let right = eqb-true key.right other.right parts.1 in
    ap (λ (n : ℕ). record { left = n; right = key.right }) left ∙ ap (λ (n : ℕ). record { left = other.left; right = n }) right

and_again : (a b : Bool) → (a && b) ≡ ((a && b) && a)
and_again true true = refl
and_again true false = refl
and_again false b = refl

and_under : (a b c : Bool) → b ≡ (b && c) → (a && b) ≡ ((a && b) && c)
and_under true b c h = h
and_under false b c h = refl

and_moved : (a b c : Bool) → ((a && b) && c) ≡ (a && (b && c))
and_moved true b c = refl
and_moved false b c = refl

and_none : (a : Bool) → (a && true) ≡ a
and_none true = refl
and_none false = refl

module _ (holds : JoinKey → Bool) where
  -- what holds of all keys holds of one that is among them
  among_all : (keys : List JoinKey) (key : JoinKey) → list_any (same_columns key) keys ≡ true → list_all holds keys ≡ (list_all holds keys && holds key)
  among_all [] key h = cc
  among_all (first ∷ keys) key h = by (same_columns key first) refl h (among_all keys key)
    where
      by : (b : Bool) → same_columns key first ≡ b → (b || list_any (same_columns key) keys) ≡ true
          → (list_any (same_columns key) keys ≡ true → list_all holds keys ≡ (list_all holds keys && holds key))
          → list_all holds (first ∷ keys) ≡ (list_all holds (first ∷ keys) && holds key)
      by true same h rest =
          subst (λ (k : JoinKey). list_all holds (first ∷ keys) ≡ (list_all holds (first ∷ keys) && holds k)) (sym (same_is key first same))
          (and_again (holds first) (list_all holds keys))
      by false other h rest = and_under (holds first) (list_all holds keys) (holds key) (rest h)

  all_with_key : (keys : List JoinKey) (key : JoinKey) → list_all holds (with_key keys key) ≡ (list_all holds keys && holds key)
  all_with_key keys key = by (list_any (same_columns key) keys) refl
    where
      by : (b : Bool) → list_any (same_columns key) keys ≡ b → list_all holds (if b then keys else keys ++ key ∷ []) ≡ (list_all holds keys && holds key)
      by true h = among_all keys key h
      by false h = list_all-append holds keys (key ∷ []) ∙ ap (λ b. list_all holds keys && b) (and_none (holds key))

  all_from : (keys on : List JoinKey) → list_all holds (fold with_key keys on) ≡ (list_all holds keys && list_all holds on)
  all_from keys [] = sym (and_none (list_all holds keys))
  all_from keys (key ∷ on) =
      all_from (with_key keys key) on ∙ ap (λ b. b && list_all holds on) (all_with_key keys key)
      ∙ and_moved (list_all holds keys) (holds key) (list_all holds on)

  -- each of the single keys passes a test where each key does
  pub all_single : (on : List JoinKey) → list_all holds (single_keys on) ≡ list_all holds on
  all_single on = all_from [] on

module _ (check : JoinKey → Option Fault) where
  none_more : (keys : List JoinKey) (key : JoinKey) → first_in check keys ≡ None → check key ≡ None → first_in check (keys ++ key ∷ []) ≡ None
  none_more [] key h k = ap (λ first. first then None) k
  none_more (first ∷ keys) key h k =
      let parts = then_none (check first) (first_in check keys) h in
      ap (λ one. one then first_in check (keys ++ key ∷ [])) parts.0 ∙ none_more keys key parts.1 k

  none_with_key : (keys : List JoinKey) (key : JoinKey) → first_in check keys ≡ None → check key ≡ None → first_in check (with_key keys key) ≡ None
  none_with_key keys key h k = by (list_any (same_columns key) keys)
    where
      by : (b : Bool) → first_in check (if b then keys else keys ++ key ∷ []) ≡ None
      by true = h
      by false = none_more keys key h k

  none_from : (keys on : List JoinKey) → first_in check keys ≡ None → first_in check on ≡ None → first_in check (fold with_key keys on) ≡ None
  none_from keys [] h k = h
  none_from keys (key ∷ on) h k =
      let parts = then_none (check key) (first_in check on) k in
      none_from (with_key keys key) on (none_with_key keys key h parts.0) parts.1

  pub none_single : (on : List JoinKey) → first_in check on ≡ None → first_in check (single_keys on) ≡ None
  none_single on h = none_from [] on refl h

-- ---- joined rows

single_fits : (on : List JoinKey) (row : Row) → fits (single_keys on) row ≡ fits on row
single_fits on row = all_single (λ (key : JoinKey). keeps (compared Equal (cell_in row key.left) (cell_in row key.right))) on

single_joined : (on : List JoinKey) (lefts rights : List Row) → joined_rows (single_keys on) lefts rights ≡ joined_rows on lefts rights
single_joined on [] rights = refl
single_joined on (left ∷ lefts) rights =
    ap (λ rows. rows ++ joined_rows (single_keys on) lefts rights)
    (filter_agree (fits (single_keys on)) (fits on) (single_fits on) (map (λ right. left ++ right) rights))
    ∙ ap (λ rows. filter (fits on) (map (λ right. left ++ right) rights) ++ rows) (single_joined on lefts rights)

-- ---- trees

pub single_types : (tree : Tree) → tree_types (single_tree tree) ≡ tree_types tree
single_types (scan table schema columns) = refl
single_types (filtered predicate tree) = single_types tree
single_types (joined left right on) = ap (λ ls. ls ++ tree_types (single_tree right)) (single_types left) ∙ ap (λ rs. tree_types left ++ rs) (single_types right)

pub single_schemas : (tree : Tree) → tree_schemas (single_tree tree) ≡ tree_schemas tree
single_schemas (scan table schema columns) = refl
single_schemas (filtered predicate tree) = single_schemas tree
single_schemas (joined left right on) = ap (λ (ls : List Schema). ls ++ tree_schemas (single_tree right)) (single_schemas left) ∙ ap (λ (rs : List Schema). tree_schemas left ++ rs) (single_schemas right)

pub single_place : (tree : Tree) → is_place (single_tree tree) ≡ is_place tree
single_place (scan table schema columns) = refl
single_place (filtered predicate tree) = single_place tree
single_place (joined left right on) = refl

pub single_typed : (tree : Tree) → IsTypedTree tree → IsTypedTree (single_tree tree)
single_typed (scan table schema columns) h = h
single_typed (filtered predicate tree) h = (
  ap (λ types. predicate_fault (class_of_number types) predicate) (single_types tree) ∙ h.0,
  single_typed tree h.1,
)
single_typed (joined left right on) h = (
  single_typed left h.0,
  single_typed right h.1,
  single_place right ∙ h.2,
  ap (λ types. first_in (key_fault types) (single_keys on)) (single_types (joined left right on))
      ∙ none_single (key_fault (tree_types left ++ tree_types right)) on h.3,
  subst (λ (types : List DataType). IsTrue (list_all (spans (length types)) (single_keys on))) (sym (single_types left))
      (subst IsTrue (sym (all_single (spans (length (tree_types left))) on)) h.4),
)

single_rows : (tree : Tree) (places : List (List Row)) → rows_over (single_tree tree) places ≡ rows_over tree places
single_rows (scan table schema columns) places = refl
single_rows (filtered predicate tree) places = ap (filter (is_true predicate)) (single_rows tree places)
single_rows (joined left right on) places =
    ap (λ rows. joined_rows (single_keys on) rows (rows_over (single_tree right) (drop (length (tree_schemas (single_tree left))) places))) (single_rows left places)
    ∙ ap (λ rows. joined_rows (single_keys on) (rows_over left places) rows) (single_rows right (drop (length (tree_schemas (single_tree left))) places))
    ∙ ap (λ (s : List Schema). joined_rows (single_keys on) (rows_over left places) (rows_over right (drop (length s) places))) (single_schemas left)
    ∙ single_joined on (rows_over left places) (rows_over right (drop (length (tree_schemas left)) places))

single_tree_rows : (tree : Tree) (database : Database) (cut : List Row → List Row) → tree_rows (single_tree tree) database cut ≡ tree_rows tree database cut
single_tree_rows (scan table schema columns) database cut = refl
single_tree_rows (filtered predicate tree) database cut = ap (filter (is_true predicate)) (single_tree_rows tree database cut)
single_tree_rows (joined left right on) database cut =
    ap (λ rows. joined_rows (single_keys on) rows (tree_rows (single_tree right) database (λ rows. rows))) (single_tree_rows left database cut)
    ∙ ap (λ rows. joined_rows (single_keys on) (tree_rows left database cut) rows) (single_tree_rows right database (λ rows. rows))
    ∙ single_joined on (tree_rows left database cut) (tree_rows right database (λ rows. rows))

single_over : (tree : Tree) (database : Database) → IsOver tree database → IsOver (single_tree tree) database
single_over (scan table schema columns) database h = h
single_over (filtered predicate tree) database h = single_over tree database h
single_over (joined left right on) database h = (single_over left database h.0, single_over right database h.1)

single_wide : (tree : Tree) (places : List (List Row)) → AreWide tree places → AreWide (single_tree tree) places
single_wide (scan table schema columns) places h = h
single_wide (filtered predicate tree) places h = single_wide tree places h
single_wide (joined left right on) places h = (
  single_wide left places h.0,
  subst (λ (s : List Schema). AreWide (single_tree right) (drop (length s) places)) (sym (single_schemas left))
      (single_wide right (drop (length (tree_schemas left)) places) h.1),
)

-- ---- plans

-- a plan with such a tree stands for it
pub single_stands : (new old : BoundAt) → tree_of new.plan ≡ single_tree (tree_of old.plan) → new.output ≡ old.output → new.tables ≡ old.tables →
    new.schema ≡ old.schema → StandsFor new old
single_stands new old tree output tables schema = record {
  rows = λ database a b is over.
      ap (λ (some : Tree). output_rows new.output (tree_rows some database (rows_between a b))) tree
      ∙ ap (output_rows new.output) (single_tree_rows (tree_of old.plan) database (rows_between a b))
      ∙ ap (λ o. output_rows o (tree_rows (tree_of old.plan) database (rows_between a b))) output;
  places = λ places wide.
      ap (λ (some : Tree). output_rows new.output (rows_over some places)) tree
      ∙ ap (output_rows new.output) (single_rows (tree_of old.plan) places)
      ∙ ap (λ o. output_rows o (rows_over (tree_of old.plan) places)) output;
  grouping = ap is_grouping output;
  tables = tables;
  schema = schema;
}

-- and what stands for that one stands for the old one
pub stands_for_single : (new middle old : BoundAt) → tree_of middle.plan ≡ single_tree (tree_of old.plan) → StandsFor new middle → StandsFor middle old → StandsFor new old
stands_for_single new middle old tree one other =
    stands_through new middle old
    (λ database over. subst (λ (t : Tree). IsOver t database) (sym tree) (single_over (tree_of old.plan) database over))
    (λ places wide. subst (λ (t : Tree). AreWide t places) (sym tree) (single_wide (tree_of old.plan) places wide)) one other
