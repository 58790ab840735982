use Rattle.std.proofs.Common.{ap, ◌∙◌}
use Rattle.scan_base.specs.View.{pred_of}
use Rattle.typed_plan.specs.declared.plan.Plan.{Plan}
use Rattle.typed_plan.specs.View.{tree_of}
use Rattle.rewrite.specs.Places.{tree_width}
use Rattle.rewrite.proofs.PrunedPlans.{filter_used, join_used, scan_used}
use Rattle.rewrite.proofs.pruning.+prune_tree.Goals as goal

pub kept_columns-requires : goal.kept_columns-requires
kept_columns-requires t c =
    scan_used c.args.uses.now (tree_of c.args.plan.now) c.in-Scan.table c.in-Scan.schema c.in-Scan.columns c.len.result c.requires (ap tree_of c.in-Scan.is) c.len.ensures

pub renumber-requires : goal.renumber-requires
renumber-requires t c =
    filter_used c.args.uses.now c.in_ok-of-in-Filter.field-0.uses.now (tree_of c.args.plan.now) (pred_of c.in-Filter.predicate) _ c.requires
    (ap tree_of c.in-Filter.is) c.in_ok-of-in-Filter.ensures

pub split_at-requires : goal.split_at-requires
split_at-requires t c =
    join_used c.args.uses.now (tree_of c.args.plan.now) _ _ _ c.in_ok-width-in-Join.field-0 c.requires (ap tree_of c.in-Join.is)
    (c.in_ok-width-in-Join.ensures ∙ ap (λ (plan : Plan). tree_width (tree_of plan)) c.deref.ensures)
