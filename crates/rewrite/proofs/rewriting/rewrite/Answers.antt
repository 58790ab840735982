use Rattle.std.proofs.Common.{◌≡◌, true, [], ap, ◌∙◌, refl}
use Rattle.std.proofs.lemmas.Result.{IfOk-weaker}
use Rattle.typed_plan.specs.View.{BoundAt, tree_of}
use Rattle.rewrite.specs.FoldedPredicates.{is_folded_tree}
use Rattle.rewrite.specs.PushedFilters.{is_pushed}
use Rattle.rewrite.specs.SameRows.{StandsFor}
use Rattle.rewrite.proofs.FoldedPushed.{folded_pushed, stands_after, stands_behind}
use Rattle.rewrite.proofs.SingleKeys.{stands_for_single}
use Rattle.rewrite.proofs.rewriting.rewrite.Goals as goal

pub returns-clause-same : goal.returns-clause-same
returns-clause-same c =
    let folded = c.fold-folded.result in
    let pushed = c.in_ok-pushed.pushed in
    let merged = c.in_ok-merged.merged in
    IfOk-weaker c.prune.result (λ (made : BoundAt). StandsFor made pushed) (λ (made : BoundAt). StandsFor made c.args.plan)
    (λ made one.
    stands_for_single made merged c.args.plan c.in_ok-merged.ensures.tree
    (stands_after made folded merged c.fold-folded.ensures.tree
    (stands_behind made pushed folded c.in_ok-pushed.ensures.tree one c.in_ok-pushed.ensures.same) c.fold-folded.ensures.same)
    c.in_ok-merged.ensures.same)
    c.prune.ensures.same

pub returns-clause-folded : goal.returns-clause-folded
returns-clause-folded c =
    IfOk-weaker c.prune.result (λ (made : BoundAt). is_folded_tree (tree_of made.plan) ≡ is_folded_tree (tree_of c.in_ok-pushed.pushed.plan))
    (λ (made : BoundAt). is_folded_tree (tree_of made.plan) ≡ true)
    (λ made kept. kept ∙ ap is_folded_tree c.in_ok-pushed.ensures.tree ∙ folded_pushed [] (tree_of c.fold-folded.result.plan) refl c.fold-folded.ensures.folded)
    c.prune.ensures.folded

pub returns-clause-below : goal.returns-clause-below
returns-clause-below c =
    IfOk-weaker c.prune.result (λ (made : BoundAt). is_pushed (tree_of made.plan) ≡ is_pushed (tree_of c.in_ok-pushed.pushed.plan))
    (λ (made : BoundAt). is_pushed (tree_of made.plan) ≡ true) (λ made kept. kept ∙ c.in_ok-pushed.ensures.below) c.prune.ensures.below
