use Rattle.command_ends.proofs.Saying.{printed}
use Rattle.command_ends.proofs.ending.end_by_answer.Goals as goal

pub returns-clause-line : goal.returns-clause-line
returns-clause-line g c = printed _ _ _ _ c.write_fault.ensures.bytes c.write_fault.ensures.counted
