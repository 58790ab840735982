use Rattle.std.proofs.Common.{ℕ, List, [], map, ap, sym, ◌∙◌}
use Rattle.scan_base.specs.declared.predicate.Predicate.{Predicate}
use Rattle.scan_base.specs.View.{pred_of}
use Rattle.table_versions.specs.StoredTables.{TableAt}
use Rattle.typed_plan.specs.declared.plan.Plan.{Plan}
use Rattle.typed_plan.specs.HeldTables.{tree_schemas}
use Rattle.typed_plan.specs.View.{BoundAt, tree_of}
use Rattle.rewrite.specs.PushedFilters.{pushed, is_pushed}
use Rattle.rewrite.proofs.Below.{pushed_stand_below}
use Rattle.rewrite.proofs.PushedRows.{pushed_schemas}
use Rattle.rewrite.proofs.PushedTrees.{pushed_types, pushed_place, pushed_typed, pushed_stands}
use Rattle.rewrite.proofs.WellTyped.{typed_again, typed_as}
use Rattle.rewrite.proofs.pushdown.push_down.Goals as goal

pub new-requires-2-clause-typed : goal.new-requires-2-clause-typed
new-requires-2-clause-typed c =
    let old = c.args.plan in
    let tree = tree_of old.plan in
    let parts = c.into_parts-tables.ensures in
    typed_as (tree_of c.in_ok-plan.plan) (pushed [] tree) c.into_parts-tables.result.2 old.output c.into_parts-tables.result.3 old.schema
    (c.in_ok-plan.ensures
    ∙ ap (λ (items : List (Predicate ℕ)). pushed (map pred_of items) (tree_of c.into_parts-tables.result.1)) c.new.ensures.items
    ∙ ap (λ (plan : Plan). pushed [] (tree_of plan)) parts.plan) parts.output parts.schema
    (typed_again (pushed [] tree) tree old.output old.schema (pushed_typed [] tree tt parts.typed.tree) (pushed_types [] tree) (pushed_place [] tree) parts.typed)

pub new-requires-2-clause-columns : goal.new-requires-2-clause-columns
new-requires-2-clause-columns c =
    let parts = c.into_parts-tables.ensures in
    ap tree_schemas (c.in_ok-plan.ensures
    ∙ ap (λ (items : List (Predicate ℕ)). pushed (map pred_of items) (tree_of c.into_parts-tables.result.1)) c.new.ensures.items
    ∙ ap (λ (plan : Plan). pushed [] (tree_of plan)) parts.plan)
    ∙ pushed_schemas [] (tree_of c.args.plan.plan) ∙ parts.columns
    ∙ sym (ap (map (λ (table : TableAt). table.schema)) parts.tables)

pub returns-clause-same : goal.returns-clause-same
returns-clause-same c =
    let parts = c.into_parts-tables.ensures in
    pushed_stands c.new-2.result c.args.plan
    (ap (λ (bound : BoundAt). tree_of bound.plan) c.new-2.ensures ∙ c.in_ok-plan.ensures
    ∙ ap (λ (items : List (Predicate ℕ)). pushed (map pred_of items) (tree_of c.into_parts-tables.result.1)) c.new.ensures.items
    ∙ ap (λ (plan : Plan). pushed [] (tree_of plan)) parts.plan)
    (ap (λ (bound : BoundAt). bound.output) c.new-2.ensures ∙ parts.output)
    (ap (λ (bound : BoundAt). bound.tables) c.new-2.ensures ∙ parts.tables)
    (ap (λ (bound : BoundAt). bound.schema) c.new-2.ensures ∙ parts.schema)

pub returns-clause-below : goal.returns-clause-below
returns-clause-below c =
    let parts = c.into_parts-tables.ensures in
    ap (λ (bound : BoundAt). is_pushed (tree_of bound.plan)) c.new-2.ensures
    ∙ ap is_pushed (c.in_ok-plan.ensures
    ∙ ap (λ (items : List (Predicate ℕ)). pushed (map pred_of items) (tree_of c.into_parts-tables.result.1)) c.new.ensures.items
    ∙ ap (λ (plan : Plan). pushed [] (tree_of plan)) parts.plan)
    ∙ pushed_stand_below (tree_of c.args.plan.plan)
