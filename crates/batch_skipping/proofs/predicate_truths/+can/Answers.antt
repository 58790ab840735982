use Rattle.std.proofs.Common.{ap, ◌∙◌, sym}
use Rattle.scan_base.specs.Truth.{negated_if, truth_is}
use Rattle.scan_base.specs.View.{pred_of}
use Rattle.batch_skipping.specs.PredicateTruths.{can}
use Rattle.batch_skipping.specs.PossibleTruths.{over}
use Rattle.batch_skipping.proofs.predicate_truths.+can.Goals as goal

pub returns-in-Is : goal.returns-in-Is
returns-in-Is g t c =
    let part = ap (λ p. can (g.M.ColumnStats.stats c.args.batch.now) (pred_of p)) c.deref-in-Is.ensures in
    let test = c.is.ensures ∙ ap (over (λ x. truth_is x c.in-Is.tested)) (c.can-in-Is.ensures ∙ part) in
    c.not_if.ensures ∙ ap (over (negated_if c.in-Is.negated)) test ∙ sym (ap (λ p. can (g.M.ColumnStats.stats c.args.batch.now) (pred_of p)) c.in-Is.is)
