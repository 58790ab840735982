use Rattle.std.proofs.Common.{List, Bool, map, refl, ap, sym, ◌∙◌}
use Rattle.table_versions.specs.StoredTables.{TableAt}
use Rattle.typed_plan.specs.declared.plan.Plan.{Plan}
use Rattle.typed_plan.specs.HeldTables.{tree_schemas}
use Rattle.typed_plan.specs.View.{BoundAt, tree_of}
use Rattle.rewrite.specs.FoldedPredicates.{is_folded_tree}
use Rattle.rewrite.specs.PrunedColumns.{output_in, pruned}
use Rattle.rewrite.specs.PushedFilters.{is_pushed}
use Rattle.rewrite.proofs.PrunedPlans.{pruned_as, pruned_plan, pruned_stands, used_as, tree_as, output_as}
use Rattle.rewrite.proofs.PrunedShapes.{pruned_below, pruned_folded}
use Rattle.rewrite.proofs.PrunedRows.{pruned_schemas}
use Rattle.rewrite.proofs.WellTyped.{typed_as}
use Rattle.rewrite.proofs.pruning.prune.Goals as goal

pub prune_tree-requires : goal.prune_tree-requires
prune_tree-requires c =
    let old = c.args.plan in
    let parts = c.into_parts-tables.ensures in
    let plan = c.into_parts-tables.result.1 in
    let output = c.into_parts-tables.result.2 in
    (used_as (tree_of plan) output old.schema c.as_slice.result.now
    (typed_as (tree_of plan) (tree_of old.plan) output old.output old.schema old.schema (ap tree_of parts.plan) parts.output refl parts.typed)
    (c.as_slice.ensures.value ∙ c.in_ok-uses.ensures)).0

pub output-requires : goal.output-requires
output-requires c =
    let old = c.args.plan in
    let parts = c.into_parts-tables.ensures in
    let plan = c.into_parts-tables.result.1 in
    let output = c.into_parts-tables.result.2 in
    (used_as (tree_of plan) output old.schema c.in_ok-among.among.uses.now
    (typed_as (tree_of plan) (tree_of old.plan) output old.output old.schema old.schema (ap tree_of parts.plan) parts.output refl parts.typed)
    (c.in_ok-among.ensures ∙ c.as_slice-2.ensures.value ∙ c.in_ok-uses.ensures)).1

pub new-requires-clause-typed : goal.new-requires-clause-typed
new-requires-clause-typed c =
    let old = c.args.plan in
    let parts = c.into_parts-tables.ensures in
    let plan = c.into_parts-tables.result.1 in
    let output = c.into_parts-tables.result.2 in
    let schema = c.into_parts-tables.result.3 in
    let uses = c.in_ok-uses.uses.items in
    pruned_as (tree_of plan) (tree_of c.prune_tree.new.plan) output c.in_ok-renumbered.renumbered schema uses
    (typed_as (tree_of plan) (tree_of old.plan) output old.output schema old.schema (ap tree_of parts.plan) parts.output parts.schema parts.typed)
    c.in_ok-uses.ensures
    (c.in_ok-prune_tree.ensures ∙ ap (λ (some : List Bool). pruned some (tree_of plan)) c.as_slice.ensures.value)
    (c.in_ok-renumbered.ensures ∙ ap (λ (some : List Bool). output_in some output) (c.in_ok-among.ensures ∙ c.as_slice-2.ensures.value))

pub new-requires-clause-columns : goal.new-requires-clause-columns
new-requires-clause-columns c =
    let parts = c.into_parts-tables.ensures in
    let plan = c.into_parts-tables.result.1 in
    ap tree_schemas c.in_ok-prune_tree.ensures ∙ pruned_schemas c.as_slice.result.now (tree_of plan)
    ∙ ap (λ (p : Plan). tree_schemas (tree_of p)) parts.plan ∙ parts.columns
    ∙ sym (ap (map (λ (table : TableAt). table.schema)) parts.tables)

pub returns-clause-same : goal.returns-clause-same
returns-clause-same c =
    let old = c.args.plan in
    let parts = c.into_parts-tables.ensures in
    let plan = c.into_parts-tables.result.1 in
    let output = c.into_parts-tables.result.2 in
    let uses = c.in_ok-uses.uses.items in
    pruned_stands c.new.result old parts.typed
    (ap (λ (bound : BoundAt). tree_of bound.plan) c.new.ensures ∙ c.in_ok-prune_tree.ensures
    ∙ ap (λ (some : List Bool). pruned some (tree_of plan)) c.as_slice.ensures.value
    ∙ tree_as (tree_of plan) (tree_of old.plan) output old.output uses c.in_ok-uses.ensures (ap tree_of parts.plan) parts.output)
    (ap (λ (bound : BoundAt). bound.output) c.new.ensures ∙ c.in_ok-renumbered.ensures
    ∙ ap (λ (some : List Bool). output_in some output) (c.in_ok-among.ensures ∙ c.as_slice-2.ensures.value)
    ∙ output_as (tree_of plan) (tree_of old.plan) output old.output uses c.in_ok-uses.ensures (ap tree_of parts.plan) parts.output)
    (ap (λ (bound : BoundAt). bound.tables) c.new.ensures ∙ parts.tables)
    (ap (λ (bound : BoundAt). bound.schema) c.new.ensures ∙ parts.schema)

pub returns-clause-pruned : goal.returns-clause-pruned
returns-clause-pruned c =
    let old = c.args.plan in
    let parts = c.into_parts-tables.ensures in
    let plan = c.into_parts-tables.result.1 in
    let output = c.into_parts-tables.result.2 in
    let uses = c.in_ok-uses.uses.items in
    pruned_plan c.new.result old
    (ap (λ (bound : BoundAt). tree_of bound.plan) c.new.ensures ∙ c.in_ok-prune_tree.ensures
    ∙ ap (λ (some : List Bool). pruned some (tree_of plan)) c.as_slice.ensures.value
    ∙ tree_as (tree_of plan) (tree_of old.plan) output old.output uses c.in_ok-uses.ensures (ap tree_of parts.plan) parts.output)
    (ap (λ (bound : BoundAt). bound.output) c.new.ensures ∙ c.in_ok-renumbered.ensures
    ∙ ap (λ (some : List Bool). output_in some output) (c.in_ok-among.ensures ∙ c.as_slice-2.ensures.value)
    ∙ output_as (tree_of plan) (tree_of old.plan) output old.output uses c.in_ok-uses.ensures (ap tree_of parts.plan) parts.output)

pub returns-clause-folded : goal.returns-clause-folded
returns-clause-folded c =
    let parts = c.into_parts-tables.ensures in
    ap (λ (bound : BoundAt). is_folded_tree (tree_of bound.plan)) c.new.ensures ∙ ap is_folded_tree c.in_ok-prune_tree.ensures
    ∙ pruned_folded c.as_slice.result.now (tree_of c.into_parts-tables.result.1) ∙ ap (λ (plan : Plan). is_folded_tree (tree_of plan)) parts.plan

pub returns-clause-below : goal.returns-clause-below
returns-clause-below c =
    let old = c.args.plan in
    let parts = c.into_parts-tables.ensures in
    let plan = c.into_parts-tables.result.1 in
    let output = c.into_parts-tables.result.2 in
    ap (λ (bound : BoundAt). is_pushed (tree_of bound.plan)) c.new.ensures ∙ ap is_pushed c.in_ok-prune_tree.ensures
    ∙ pruned_below c.as_slice.result.now (tree_of plan)
    (used_as (tree_of plan) output old.schema c.as_slice.result.now
    (typed_as (tree_of plan) (tree_of old.plan) output old.output old.schema old.schema (ap tree_of parts.plan) parts.output refl parts.typed)
    (c.as_slice.ensures.value ∙ c.in_ok-uses.ensures)).0
    ∙ ap (λ (p : Plan). is_pushed (tree_of p)) parts.plan
