use Rattle.number_words.proofs.Texts.{texts_are_dates}
use Rattle.number_words.proofs.laws.texts_are_dates.Goals as goal

pub returns : goal.returns
returns c = texts_are_dates
