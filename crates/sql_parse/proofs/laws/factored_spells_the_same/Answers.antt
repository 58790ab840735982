use Rattle.sql_parse.proofs.Printed.{read_sentence, printed_sentence, read_shallow, printed_shallow}
use Rattle.sql_parse.proofs.laws.factored_spells_the_same.Goals as goal

pub returns : goal.returns
returns c ts s = ((read_sentence ts s, printed_sentence ts s), (read_shallow ts s, printed_shallow ts s))
