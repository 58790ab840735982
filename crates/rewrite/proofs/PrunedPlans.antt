-- A plan with a pruned tree is well typed, and stands for the one that it was made of.
use Rattle.std.proofs.Common.{◌≡◌, ◌≤◌, ℕ, Bool, true, List, length, map, refl, sym, ap, ◌∙◌, subst, arith}
use Rattle.std.specs.List.{AllByRecursion}
use Rattle.arrow_types.specs.Answer.{answered_from}
use Rattle.arrow_types.specs.declared.data_type.DataType.{DataType}
use Rattle.arrow_types.specs.declared.schema.Schema.{Schema}
use Rattle.scan_base.specs.Predicate.{Pred, names_only}
use Rattle.table_versions.specs.Table.{Name}
use Rattle.typed_plan.specs.declared.plan.Columns.{Columns}
use Rattle.typed_plan.specs.declared.plan.JoinKey.{JoinKey}
use Rattle.typed_plan.specs.declared.plan.Output.{Output}
use Rattle.typed_plan.specs.HeldTables.{tree_tables}
use Rattle.typed_plan.specs.Plan.{Tree, scan, filtered, joined, output_rows}
use Rattle.typed_plan.specs.TypedPlans.{tree_types, IsTyped, HasOutput, output_types, is_grouping}
use Rattle.typed_plan.specs.View.{BoundAt, tree_of, plan_of}
use Rattle.rewrite.specs.Places.{rows_over, tree_width}
use Rattle.rewrite.specs.PrunedColumns.{used_of, is_used, numbers_of, output_in, pruned, uses_output, AreUsed, IsPruned}
use Rattle.rewrite.specs.SameRows.{SameOverPlaces, StandsFor}
use Rattle.rewrite.specs.Uses.{uses_of}
use Rattle.rewrite.proofs.Databases.{same_of_places}
use Rattle.rewrite.proofs.Marks.{plan_used}
use Rattle.rewrite.proofs.PrunedNames.{all_named}
use Rattle.rewrite.proofs.PrunedResults.{result_kept}
use Rattle.rewrite.proofs.PrunedTrees.{pruned_types, pruned_place, pruned_tables, pruned_typed, output_there, output_types_kept, output_grouping}
use Rattle.rewrite.proofs.PrunedRows.{pruning_keeps_rows, used_width}
use Rattle.rewrite.proofs.PushedRows.{IsWide, wide_rows}
use Rattle.rewrite.proofs.TreeWidths.{scan_width, joined_width}
use Rattle.rewrite.proofs.WellTyped.{typed_as}

-- the pruned tree and the renumbered result of a plan are well typed
pub pruned_plan_typed : (tree : Tree) (output : Output) (schema : Schema) → IsTyped (record { tree = tree; output = output; schema = schema }) →
    IsTyped (record { tree = pruned (uses_of tree output) tree; output = output_in (uses_of tree output) output; schema = schema })
pruned_plan_typed tree output schema was =
    let uses = uses_of tree output in
    let used = plan_used tree output was.tree was.output in
    let wide : length (tree_types tree) ≡ length uses = sym (used_width uses tree used.0) in record {
      tree = pruned_typed uses tree used.0 was.tree;
      output = subst (λ (types : List DataType). HasOutput (output_in uses output) types) (sym (pruned_types uses tree))
          (output_there uses (tree_types tree) wide output used.1 was.output);
      types = was.types
          ∙ ap (answered_from 0) (sym (ap (output_types (output_in uses output)) (pruned_types uses tree)
          ∙ output_types_kept uses (tree_types tree) wide output used.1 was.output));
      alone = λ grouping. pruned_place uses tree ∙ was.alone (sym (output_grouping uses output) ∙ grouping);
    }

-- a plan with these stands for it
pub pruned_stands : (new old : BoundAt) → IsTyped (plan_of old) → tree_of new.plan ≡ pruned (uses_of (tree_of old.plan) old.output) (tree_of old.plan) →
    new.output ≡ output_in (uses_of (tree_of old.plan) old.output) old.output → new.tables ≡ old.tables → new.schema ≡ old.schema → StandsFor new old
pruned_stands new old was tree output tables schema =
    let uses = uses_of (tree_of old.plan) old.output in
    let used = plan_used (tree_of old.plan) old.output was.tree was.output in
    let same : SameOverPlaces (plan_of new) (plan_of old) =
    λ places wide.
    let rows = rows_over (tree_of old.plan) places in
    ap (λ (some : Tree). output_rows new.output (rows_over some places)) tree
    ∙ ap (output_rows new.output) (pruning_keeps_rows uses (tree_of old.plan) places used.0 wide)
    ∙ ap (λ (o : Output). output_rows o (map (used_of uses) rows)) output
    ∙ result_kept uses old.output used.1 rows
    (subst (λ n. AllByRecursion (IsWide n) rows) (sym (used_width uses (tree_of old.plan) used.0)) (wide_rows (tree_of old.plan) places wide)) in
    record {
      rows = same_of_places (plan_of new) (plan_of old) (ap tree_tables tree ∙ pruned_tables uses (tree_of old.plan)) same;
      places = same;
      grouping = ap is_grouping output ∙ output_grouping uses old.output;
      tables = tables;
      schema = schema;
    }

-- and reads what it names alone
pub pruned_plan : (new old : BoundAt) → tree_of new.plan ≡ pruned (uses_of (tree_of old.plan) old.output) (tree_of old.plan) →
    new.output ≡ output_in (uses_of (tree_of old.plan) old.output) old.output → IsPruned (plan_of new)
pruned_plan new old tree output =
    let uses = uses_of (tree_of old.plan) old.output in
    subst (λ (t : Tree). IsPruned (record { tree = t; output = new.output; schema = new.schema })) (sym tree)
    (subst (λ (o : Output). IsPruned (record { tree = pruned uses (tree_of old.plan); output = o; schema = new.schema })) (sym output)
    (all_named (tree_of old.plan) old.output))

-- ---- the same, said of other values that are equal

pub pruned_as : (tree new : Tree) (output made : Output) (schema : Schema) (uses : List Bool) →
    IsTyped (record { tree = tree; output = output; schema = schema }) → uses ≡ uses_of tree output → new ≡ pruned uses tree → made ≡ output_in uses output →
    IsTyped (record { tree = new; output = made; schema = schema })
pruned_as tree new output made schema uses was same e f =
    typed_as new (pruned (uses_of tree output) tree) made (output_in (uses_of tree output) output) schema schema
    (e ∙ ap (λ (some : List Bool). pruned some tree) same) (f ∙ ap (λ (some : List Bool). output_in some output) same) refl
    (pruned_plan_typed tree output schema was)

pub used_as : (tree : Tree) (output : Output) (schema : Schema) (uses : List Bool) →
    IsTyped (record { tree = tree; output = output; schema = schema }) → uses ≡ uses_of tree output →
    AreUsed uses tree × (uses_output uses output ≡ true)
used_as tree output schema uses was same =
    subst (λ (some : List Bool). AreUsed some tree × (uses_output some output ≡ true)) (sym same) (plan_used tree output was.tree was.output)

pub tree_as : (tree old : Tree) (output before : Output) (uses : List Bool) → uses ≡ uses_of tree output → tree ≡ old → output ≡ before →
    pruned uses tree ≡ pruned (uses_of old before) old
tree_as tree old output before uses same e f =
    ap (λ (some : List Bool). pruned some tree) same ∙ ap (λ (t : Tree). pruned (uses_of t output) t) e ∙ ap (λ (o : Output). pruned (uses_of old o) old) f

pub output_as : (tree old : Tree) (output before : Output) (uses : List Bool) → uses ≡ uses_of tree output → tree ≡ old → output ≡ before →
    output_in uses output ≡ output_in (uses_of old before) before
output_as tree old output before uses same e f =
    ap (λ (some : List Bool). output_in some output) same ∙ ap (λ (t : Tree). output_in (uses_of t output) output) e ∙ ap (λ (o : Output). output_in (uses_of old o) o) f

-- ---- what a node of a tree needs

pub scan_used : (uses : List Bool) (whole : Tree) (table : Name) (schema : Schema) (columns : Columns) (width : ℕ) → AreUsed uses whole →
    whole ≡ scan table schema columns → width ≡ length schema.fields → length (numbers_of columns width) ≡ length uses
scan_used uses whole table schema columns width u e w =
    ap (λ n. length (numbers_of columns n)) w ∙ scan_width table schema columns ∙ sym (subst (AreUsed uses) e u)

pub filter_used : (uses among : List Bool) (whole : Tree) (p : Pred ℕ) (tree : Tree) → AreUsed uses whole → whole ≡ filtered p tree → among ≡ uses →
    names_only (is_used among) p ≡ true
filter_used uses among whole p tree u e same =
    ap (λ (some : List Bool). names_only (is_used some) p) same ∙ (subst (AreUsed uses) e u).0

pub join_used : (uses : List Bool) (whole left right : Tree) (on : List JoinKey) (seam : ℕ) → AreUsed uses whole → whole ≡ joined left right on →
    seam ≡ tree_width left → seam ≤ length uses
join_used uses whole left right on seam u e s =
    let w = used_width uses (joined left right on) (subst (AreUsed uses) e u) in
    let both = joined_width left right on in
    omega (arith, w, both, s)
