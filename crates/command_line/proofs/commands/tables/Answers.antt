use Rattle.command_line.proofs.Adding.{has_one_more, stays_local}
use Rattle.command_line.proofs.commands.tables.Goals as goal

pub returns-clause-shape : goal.returns-clause-shape
returns-clause-shape c = has_one_more _ _ c.port.result _ _ c.command.ensures.shape c.port.ensures.rule c.with_one.ensures.shape

pub returns-clause-local : goal.returns-clause-local
returns-clause-local c = stays_local _ _ c.command.ensures.local c.with_one.ensures.local
