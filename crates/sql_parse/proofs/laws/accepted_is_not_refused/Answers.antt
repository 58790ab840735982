use Rattle.sql_parse.proofs.OneAnswer.{not_both}
use Rattle.sql_parse.proofs.laws.accepted_is_not_refused.Goals as goal

pub returns : goal.returns
returns c = not_both
