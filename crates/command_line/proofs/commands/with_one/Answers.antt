use Rattle.command_line.proofs.Adding.{local_with_one, shape_with_one}
use Rattle.command_line.proofs.commands.with_one.Goals as goal

pub returns-clause-shape : goal.returns-clause-shape
returns-clause-shape c = shape_with_one _ _ _ c.requires c.arg.ensures

pub returns-clause-local : goal.returns-clause-local
returns-clause-local c = local_with_one _ _ _ c.requires c.arg.ensures
