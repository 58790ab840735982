use Rattle.sql_parse.proofs.OneAnswer.{past_stays}
use Rattle.sql_parse.proofs.laws.passed_for_good.Goals as goal

pub returns : goal.returns
returns c = past_stays
