use Rattle.commands.specs.Port.{options_of}
use Rattle.flightscan.proofs.runner.run_serve.Goals as goal

pub serve-requires-clause-owed : goal.serve-requires-clause-owed
serve-requires-clause-owed g c κs lives = c.requires.owed (options_of c.args.serving)
