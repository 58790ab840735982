use Rattle.commands.specs.Serve.{AcceptsThenCloses}
use Rattle.commands.proofs.Telling.{history_is_marked}
use Rattle.commands.proofs.laws.history_is_marked.Goals as goal

pub returns : goal.returns
returns g c = history_is_marked (AcceptsThenCloses g.L.Listen.accepts g.L.Listen.closes)
