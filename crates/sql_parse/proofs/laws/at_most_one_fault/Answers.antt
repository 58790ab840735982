use Rattle.sql_parse.proofs.OneAnswer.{one_fault}
use Rattle.sql_parse.proofs.laws.at_most_one_fault.Goals as goal

pub returns : goal.returns
returns c = one_fault
