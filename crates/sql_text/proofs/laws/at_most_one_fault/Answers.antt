use Rattle.sql_text.proofs.Cutting.{at_most_one_fault}
use Rattle.sql_text.proofs.laws.at_most_one_fault.Goals as goal

pub returns : goal.returns
returns c = at_most_one_fault
