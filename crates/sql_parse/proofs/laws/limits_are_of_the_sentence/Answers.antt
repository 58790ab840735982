use Rattle.sql_parse.proofs.Limited.{limited}
use Rattle.sql_parse.proofs.laws.limits_are_of_the_sentence.Goals as goal

pub returns : goal.returns
returns c = limited
