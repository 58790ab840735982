use Rattle.commands.proofs.Crews.{Gathered}
use Rattle.commands.proofs.crew.first_of.Given as goal

abbrev pub invariant-loop-worker : goal.invariant-loop-worker
invariant-loop-worker g l = Gathered l.initial.workers.items l.workers.items l.seats l.first l.turns.name l.drawer

abbrev pub decreases-loop-worker : goal.decreases-loop-worker
decreases-loop-worker g l = goal.left-loop-worker g l
