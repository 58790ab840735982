use Rattle.commands.specs.Serve.{AcceptsThenCloses}
use Rattle.commands.proofs.Together.{server_meets_headline}
use Rattle.commands.proofs.laws.server_meets_headline.Goals as goal

pub returns : goal.returns
returns g c = server_meets_headline (AcceptsThenCloses g.L.Listen.accepts g.L.Listen.closes) c.joined.ensures
