use Rattle.std.proofs.Common.{◌∙◌, ap₂}
use Rattle.clap.specs.Words.{with_rule}
use Rattle.command_line.proofs.Adding.{has_one_more, stays_local}
use Rattle.command_line.proofs.commands.query.Goals as goal

pub returns-clause-shape : goal.returns-clause-shape
returns-clause-shape c =
    let at = c.in_ok-formatted.ensures.shape ∙ ap₂ with_rule (ap₂ with_rule c.command-bare.ensures.shape c.port.ensures.rule) c.format.ensures.rule in
    let fetched = c.in_ok-fetched.ensures.shape ∙ ap₂ with_rule (ap₂ with_rule at c.number_option-streams.ensures.rule) c.progress.ensures.rule in
    has_one_more _ _ c.sql.result _ _ fetched c.sql.ensures.rule c.with_one.ensures.shape

pub returns-clause-local : goal.returns-clause-local
returns-clause-local c =
    stays_local _ _ (c.in_ok-fetched.ensures.local (c.in_ok-formatted.ensures.local c.command-bare.ensures.local)) c.with_one.ensures.local
