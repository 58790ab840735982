use Rattle.row_sources.proofs.Stepping.{placed_first}
use Rattle.row_sources.proofs.cursor.Cursor.new.Goals as goal

pub returns-clause-placed : goal.returns-clause-placed
returns-clause-placed c = placed_first c.args.table.now c.args.from c.args.to c.requires.ordered c.requires.within c.requires.first c.requires.each
