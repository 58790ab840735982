use Rattle.std.proofs.Common.{map, ap, sym, ◌∙◌}
use Rattle.table_versions.specs.StoredTables.{TableAt}
use Rattle.typed_plan.specs.declared.plan.Plan.{Plan}
use Rattle.typed_plan.specs.HeldTables.{tree_schemas}
use Rattle.typed_plan.specs.View.{BoundAt, tree_of}
use Rattle.rewrite.specs.SingleKeys.{single_tree}
use Rattle.rewrite.proofs.SingleKeys.{single_types, single_schemas, single_place, single_typed, single_stands}
use Rattle.rewrite.proofs.WellTyped.{typed_again, typed_as}
use Rattle.rewrite.proofs.single_keys.merge_keys.Goals as goal

pub new-requires-clause-typed : goal.new-requires-clause-typed
new-requires-clause-typed c =
    let old = c.args.plan in
    let tree = tree_of old.plan in
    let parts = c.into_parts-tables.ensures in
    typed_as (tree_of c.single_in.new.plan) (single_tree tree) c.into_parts-tables.result.2 old.output c.into_parts-tables.result.3 old.schema
    (c.in_ok-single_in.ensures ∙ ap (λ (plan : Plan). single_tree (tree_of plan)) parts.plan) parts.output parts.schema
    (typed_again (single_tree tree) tree old.output old.schema (single_typed tree parts.typed.tree) (single_types tree) (single_place tree) parts.typed)

pub new-requires-clause-columns : goal.new-requires-clause-columns
new-requires-clause-columns c =
    let parts = c.into_parts-tables.ensures in
    ap tree_schemas (c.in_ok-single_in.ensures ∙ ap (λ (plan : Plan). single_tree (tree_of plan)) parts.plan)
    ∙ single_schemas (tree_of c.args.plan.plan) ∙ parts.columns
    ∙ sym (ap (map (λ (table : TableAt). table.schema)) parts.tables)

pub returns-clause-same : goal.returns-clause-same
returns-clause-same c =
    let parts = c.into_parts-tables.ensures in
    single_stands c.new.result c.args.plan
    (ap (λ (bound : BoundAt). tree_of bound.plan) c.new.ensures ∙ c.in_ok-single_in.ensures ∙ ap (λ (plan : Plan). single_tree (tree_of plan)) parts.plan)
    (ap (λ (bound : BoundAt). bound.output) c.new.ensures ∙ parts.output)
    (ap (λ (bound : BoundAt). bound.tables) c.new.ensures ∙ parts.tables)
    (ap (λ (bound : BoundAt). bound.schema) c.new.ensures ∙ parts.schema)
