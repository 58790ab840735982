use Rattle.commands.specs.Serve.{AcceptsThenCloses}
use Rattle.commands.proofs.Telling.{workers_make}
use Rattle.commands.proofs.laws.workers_make_what_is_told.Goals as goal

pub returns : goal.returns
returns g c = workers_make (AcceptsThenCloses g.L.Listen.accepts g.L.Listen.closes)
