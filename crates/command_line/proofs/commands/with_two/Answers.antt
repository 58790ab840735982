use Rattle.command_line.proofs.Adding.{local_with_two, shape_with_two}
use Rattle.command_line.proofs.commands.with_two.Goals as goal

pub returns-clause-shape : goal.returns-clause-shape
returns-clause-shape c = shape_with_two _ _ _ _ _ c.requires.first c.requires.second c.in_ok-arg.ensures c.arg-2.ensures

pub returns-clause-local : goal.returns-clause-local
returns-clause-local c = local_with_two _ _ _ _ _ c.requires.first c.requires.second c.in_ok-arg.ensures c.arg-2.ensures
