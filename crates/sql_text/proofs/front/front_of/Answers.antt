use Rattle.sql_text.proofs.Boundaries.{given_cut, given_some}
use Rattle.sql_text.proofs.front.front_of.Goals as goal

pub returns-clause-cut : goal.returns-clause-cut
returns-clause-cut c = given_cut c.args.text.now c.read_front.result c.utf8.text c.read_front.ensures

pub returns-clause-some : goal.returns-clause-some
returns-clause-some c = given_some c.args.text.now c.read_front.result c.read_front.ensures
