use Rattle.commands.specs.Serve.{AcceptsThenCloses}
use Rattle.commands.proofs.Telling.{puts_are_told}
use Rattle.commands.proofs.laws.puts_are_told.Goals as goal

pub returns : goal.returns
returns g c = puts_are_told (AcceptsThenCloses g.L.Listen.accepts g.L.Listen.closes)
