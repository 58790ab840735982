use Rattle.std.proofs.Common.{map, ap, sym, ◌∙◌}
use Rattle.table_versions.specs.StoredTables.{TableAt}
use Rattle.typed_plan.specs.declared.plan.Plan.{Plan}
use Rattle.typed_plan.specs.HeldTables.{tree_schemas}
use Rattle.typed_plan.specs.View.{BoundAt, tree_of}
use Rattle.rewrite.specs.FoldedPredicates.{folded_tree, is_folded_tree}
use Rattle.rewrite.proofs.FoldedTrees.{folded_types, folded_schemas, folded_place, folded_typed, folded_stands, tree_folded}
use Rattle.rewrite.proofs.WellTyped.{typed_again, typed_as}
use Rattle.rewrite.proofs.literals.fold.Goals as goal

pub new-requires-clause-typed : goal.new-requires-clause-typed
new-requires-clause-typed c =
    let old = c.args.plan in
    let tree = tree_of old.plan in
    let parts = c.into_parts-tables.ensures in
    typed_as (tree_of c.fold_filters.new.plan) (folded_tree tree) c.into_parts-tables.result.2 old.output c.into_parts-tables.result.3 old.schema
    (c.fold_filters.ensures ∙ ap (λ (plan : Plan). folded_tree (tree_of plan)) parts.plan) parts.output parts.schema
    (typed_again (folded_tree tree) tree old.output old.schema (folded_typed tree parts.typed.tree) (folded_types tree) (folded_place tree) parts.typed)

pub new-requires-clause-columns : goal.new-requires-clause-columns
new-requires-clause-columns c =
    let parts = c.into_parts-tables.ensures in
    ap tree_schemas (c.fold_filters.ensures ∙ ap (λ (plan : Plan). folded_tree (tree_of plan)) parts.plan)
    ∙ folded_schemas (tree_of c.args.plan.plan) ∙ parts.columns
    ∙ sym (ap (map (λ (table : TableAt). table.schema)) parts.tables)

pub returns-clause-same : goal.returns-clause-same
returns-clause-same c =
    let parts = c.into_parts-tables.ensures in
    folded_stands c.new.result c.args.plan
    (ap (λ (bound : BoundAt). tree_of bound.plan) c.new.ensures ∙ c.fold_filters.ensures ∙ ap (λ (plan : Plan). folded_tree (tree_of plan)) parts.plan)
    (ap (λ (bound : BoundAt). bound.output) c.new.ensures ∙ parts.output)
    (ap (λ (bound : BoundAt). bound.tables) c.new.ensures ∙ parts.tables)
    (ap (λ (bound : BoundAt). bound.schema) c.new.ensures ∙ parts.schema)

pub returns-clause-folded : goal.returns-clause-folded
returns-clause-folded c =
    let parts = c.into_parts-tables.ensures in
    ap (λ (bound : BoundAt). is_folded_tree (tree_of bound.plan)) c.new.ensures
    ∙ ap is_folded_tree (c.fold_filters.ensures ∙ ap (λ (plan : Plan). folded_tree (tree_of plan)) parts.plan)
    ∙ tree_folded (tree_of c.args.plan.plan)
