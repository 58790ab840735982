use Rattle.sql_text.proofs.Cutting.{at_most_one_list}
use Rattle.sql_text.proofs.laws.at_most_one_list.Goals as goal

pub returns : goal.returns
returns c = at_most_one_list
