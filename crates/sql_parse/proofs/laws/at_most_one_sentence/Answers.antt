use Rattle.sql_parse.proofs.OneAnswer.{one_sentence}
use Rattle.sql_parse.proofs.laws.at_most_one_sentence.Goals as goal

pub returns : goal.returns
returns c = one_sentence
