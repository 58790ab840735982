use Rattle.dictionary_answers.proofs.Parts.{alone_is}
use Rattle.dictionary_answers.proofs.index_columns.dictionary_of.Goals as goal

pub returns-in-Ok : goal.returns-in-Ok
returns-in-Ok c = alone_is c.new.result c.in-Ok.dictionary c.args.part c.new.ensures c.in-Ok.ensures.value
