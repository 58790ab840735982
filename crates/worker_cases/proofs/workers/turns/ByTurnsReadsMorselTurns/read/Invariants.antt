use Rattle.worker_cases.proofs.workers.turns.ByTurnsReadsMorselTurns.read.Given as goal

abbrev pub invariant-loop : goal.invariant-loop
invariant-loop g l = g.P.Answers.ready l.answers
