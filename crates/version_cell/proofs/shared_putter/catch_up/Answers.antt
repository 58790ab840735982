use Rattle.version_cell.proofs.Logs.{caught_up}
use Rattle.version_cell.proofs.shared_putter.catch_up.Goals as goal

pub returns-clause-asked : goal.returns-clause-asked
returns-clause-asked g c = caught_up c.args.maker.now c.ask.new.self c.args.publisher.now c.requires.within (rw c.history.ensures.log at c.ask.ensures.learns)
