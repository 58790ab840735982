use Rattle.number_words.proofs.Signs.{unsigned}
use Rattle.number_words.proofs.whole_number.digits_in.Goals as goal

pub returns-clause-sign : goal.returns-clause-sign
returns-clause-sign c = unsigned c.args.text.now c.number.result c.number.ensures
