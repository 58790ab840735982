use Rattle.commands.proofs.New.{taken_whole}
use Rattle.commands.proofs.laws.taken_connections_are_whole.Goals as goal

pub returns : goal.returns
returns g c = taken_whole g.L.Listen.accepts g.L.Listen.closes
