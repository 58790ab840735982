-- A tree whose filters are folded is well typed, and gives the same rows.
use Rattle.std.proofs.Common.{◌≡◌, ℕ, Bool, true, false, cond, List, ◌++◌, length, filter, drop, Option, None, Result, IsTrue, refl, sym, ap, ◌∙◌, subst}
use Rattle.std.specs.List.{list_all}
use Rattle.std.proofs.lemmas.Bool.{and_from}
use Rattle.std.proofs.lemmas.List.Elements.{filter_agree}
use Rattle.arrow_types.specs.declared.data_type.DataType.{DataType}
use Rattle.arrow_types.specs.declared.schema.Schema.{Schema}
use Rattle.scan_base.specs.declared.fault.Fault.{Fault}
use Rattle.scan_base.specs.declared.value.Value.TheVariants.{Null}
use Rattle.scan_base.specs.Predicate.{Pred, conjunction, disjunction, negation, truth_test, comparing, between, membership, null_test, constant, cell_in, truth_of}
use Rattle.scan_base.specs.Truth.{keeps}
use Rattle.table_versions.specs.Database.{Database}
use Rattle.table_versions.specs.Table.{Row}
use Rattle.typed_plan.proofs.TypedNames.{then_none}
use Rattle.typed_plan.specs.declared.class.Class.{Class}
use Rattle.typed_plan.specs.Faults.{◌then◌, predicate_fault, first_in}
use Rattle.typed_plan.specs.HeldTables.{tree_schemas}
use Rattle.typed_plan.specs.JoinedRows.{rows_between}
use Rattle.typed_plan.specs.Plan.{Tree, scan, filtered, joined, is_true, joined_rows, tree_rows, output_rows}
use Rattle.typed_plan.specs.TypedPlans.{class_of_number, tree_types, is_grouping, is_place, IsTypedTree, key_fault, spans}
use Rattle.typed_plan.specs.View.{BoundAt, tree_of}
use Rattle.rewrite.proofs.Folding.{folded_keeps, folded_names}
use Rattle.rewrite.specs.FoldedPredicates.{names_none, folded_atom, folded, folded_tree, is_folded, is_folded_tree}
use Rattle.rewrite.specs.Places.{rows_over}
use Rattle.rewrite.specs.SameRows.{StandsFor}

pub folded_types : (tree : Tree) → tree_types (folded_tree tree) ≡ tree_types tree
folded_types (scan table schema columns) = refl
folded_types (filtered predicate tree) = folded_types tree
folded_types (joined left right on) = ap (λ ls. ls ++ tree_types (folded_tree right)) (folded_types left) ∙ ap (λ rs. tree_types left ++ rs) (folded_types right)

pub folded_schemas : (tree : Tree) → tree_schemas (folded_tree tree) ≡ tree_schemas tree
folded_schemas (scan table schema columns) = refl
folded_schemas (filtered predicate tree) = folded_schemas tree
folded_schemas (joined left right on) = ap (λ (ls : List Schema). ls ++ tree_schemas (folded_tree right)) (folded_schemas left) ∙ ap (λ (rs : List Schema). tree_schemas left ++ rs) (folded_schemas right)

pub folded_place : (tree : Tree) → is_place (folded_tree tree) ≡ is_place tree
folded_place (scan table schema columns) = refl
folded_place (filtered predicate tree) = folded_place tree
folded_place (joined left right on) = refl

module _ {C : Type 0} (f : C → Result Class Fault) where
  atom_typed : (p : Pred C) → predicate_fault f p ≡ None → predicate_fault f (folded_atom p) ≡ None
  atom_typed p e = by (names_none p)
    where
      by : (b : Bool) → predicate_fault f (cond b (constant (truth_of (λ column. Null) p)) p) ≡ None
      by true = refl
      by false = e

  both_none : (a b : Option Fault) → a ≡ None → b ≡ None → (a then b) ≡ None
  both_none a b h k = ap (λ first. first then b) h ∙ k

  folded_fault : (p : Pred C) → predicate_fault f p ≡ None → predicate_fault f (folded p) ≡ None
  folded_fault (conjunction p q) e =
      let parts = then_none (predicate_fault f p) (predicate_fault f q) e in
      both_none (predicate_fault f (folded p)) (predicate_fault f (folded q)) (folded_fault p parts.0) (folded_fault q parts.1)
  folded_fault (disjunction p q) e =
      let parts = then_none (predicate_fault f p) (predicate_fault f q) e in
      both_none (predicate_fault f (folded p)) (predicate_fault f (folded q)) (folded_fault p parts.0) (folded_fault q parts.1)
  folded_fault (negation p) e = folded_fault p e
  folded_fault (truth_test negated tested p) e = folded_fault p e
  folded_fault (constant truth) e = refl
  folded_fault (comparing comparison a b) e = atom_typed (comparing comparison a b) e
  folded_fault (between negated a low high) e = atom_typed (between negated a low high) e
  folded_fault (membership negated a items) e = atom_typed (membership negated a items) e
  folded_fault (null_test negated a) e = atom_typed (null_test negated a) e

pub folded_typed : (tree : Tree) → IsTypedTree tree → IsTypedTree (folded_tree tree)
folded_typed (scan table schema columns) h = h
folded_typed (filtered predicate tree) h = (
  ap (λ types. predicate_fault (class_of_number types) (folded predicate)) (folded_types tree)
      ∙ folded_fault (class_of_number (tree_types tree)) predicate h.0,
  folded_typed tree h.1,
)
folded_typed (joined left right on) h = (
  folded_typed left h.0,
  folded_typed right h.1,
  folded_place right ∙ h.2,
  ap (λ types. first_in (key_fault types) on) (folded_types (joined left right on)) ∙ h.3,
  subst (λ (types : List DataType). IsTrue (list_all (spans (length types)) on)) (sym (folded_types left)) h.4,
)

folded_sees : (p : Pred ℕ) (row : Row) → is_true (folded p) row ≡ is_true p row
folded_sees p row = ap keeps (folded_keeps (cell_in row) p)

pub folded_rows : (tree : Tree) (places : List (List Row)) → rows_over (folded_tree tree) places ≡ rows_over tree places
folded_rows (scan table schema columns) places = refl
folded_rows (filtered predicate tree) places =
    ap (filter (is_true (folded predicate))) (folded_rows tree places)
    ∙ filter_agree (is_true (folded predicate)) (is_true predicate) (folded_sees predicate) (rows_over tree places)
folded_rows (joined left right on) places =
    ap (λ rows. joined_rows on rows (rows_over (folded_tree right) (drop (length (tree_schemas (folded_tree left))) places))) (folded_rows left places)
    ∙ ap (λ rows. joined_rows on (rows_over left places) rows) (folded_rows right (drop (length (tree_schemas (folded_tree left))) places))
    ∙ ap (λ (s : List Schema). joined_rows on (rows_over left places) (rows_over right (drop (length s) places))) (folded_schemas left)

folded_tree_rows : (tree : Tree) (database : Database) (cut : List Row → List Row) → tree_rows (folded_tree tree) database cut ≡ tree_rows tree database cut
folded_tree_rows (scan table schema columns) database cut = refl
folded_tree_rows (filtered predicate tree) database cut =
    ap (filter (is_true (folded predicate))) (folded_tree_rows tree database cut)
    ∙ filter_agree (is_true (folded predicate)) (is_true predicate) (folded_sees predicate) (tree_rows tree database cut)
folded_tree_rows (joined left right on) database cut =
    ap (λ rows. joined_rows on rows (tree_rows (folded_tree right) database (λ rows. rows))) (folded_tree_rows left database cut)
    ∙ ap (λ rows. joined_rows on (tree_rows left database cut) rows) (folded_tree_rows right database (λ rows. rows))

pub tree_folded : (tree : Tree) → is_folded_tree (folded_tree tree) ≡ true
tree_folded (scan table schema columns) = refl
tree_folded (filtered predicate tree) = and_from (is_folded (folded predicate)) (is_folded_tree (folded_tree tree)) (folded_names predicate) (tree_folded tree)
tree_folded (joined left right on) = and_from (is_folded_tree (folded_tree left)) (is_folded_tree (folded_tree right)) (tree_folded left) (tree_folded right)

-- a plan with a folded tree stands for it
pub folded_stands : (new old : BoundAt) → tree_of new.plan ≡ folded_tree (tree_of old.plan) → new.output ≡ old.output → new.tables ≡ old.tables →
    new.schema ≡ old.schema → StandsFor new old
folded_stands new old tree output tables schema = record {
  rows = λ database a b is over.
      ap (λ (some : Tree). output_rows new.output (tree_rows some database (rows_between a b))) tree
      ∙ ap (output_rows new.output) (folded_tree_rows (tree_of old.plan) database (rows_between a b))
      ∙ ap (λ o. output_rows o (tree_rows (tree_of old.plan) database (rows_between a b))) output;
  places = λ places wide.
      ap (λ (some : Tree). output_rows new.output (rows_over some places)) tree
      ∙ ap (output_rows new.output) (folded_rows (tree_of old.plan) places)
      ∙ ap (λ o. output_rows o (rows_over (tree_of old.plan) places)) output;
  grouping = ap is_grouping output;
  tables = tables;
  schema = schema;
}
