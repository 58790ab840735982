use Rattle.std.proofs.Common.{◌∙◌, ap₂}
use Rattle.clap.specs.Words.{with_rule}
use Rattle.command_line.proofs.Adding.{has_two_more, stays_local}
use Rattle.command_line.proofs.commands.serve.Goals as goal

pub returns-clause-shape : goal.returns-clause-shape
returns-clause-shape c =
    let at = c.in_ok-at_port.ensures.shape ∙ ap₂ with_rule c.command.ensures.shape c.port.ensures.rule in
    let seated = c.in_ok-seated.ensures.shape ∙ ap₂ with_rule (ap₂ with_rule at c.number_option.ensures.rule) c.number_option-2.ensures.rule in
    let kept = c.in_ok-kept.ensures.shape ∙ ap₂ with_rule (ap₂ with_rule seated c.number_option-3.ensures.rule) c.number_option-4.ensures.rule in
    has_two_more _ _ c.parts.result c.workers.result _ _ _ kept c.parts.ensures.rule c.workers.ensures.rule c.with_two-3.ensures.shape

pub returns-clause-local : goal.returns-clause-local
returns-clause-local c =
    stays_local _ _ (c.in_ok-kept.ensures.local (c.in_ok-seated.ensures.local (c.in_ok-at_port.ensures.local c.command.ensures.local)))
    c.with_two-3.ensures.local
