use Rattle.std.proofs.Common.{◌-◌, ◌≤◌}
use Rattle.worker_cases.proofs.workers.stopped_reader.UpToRefusalReadsResultVecUsizeAllocError.read.Given as goal

abbrev pub invariant-loop-answer : goal.invariant-loop-answer
invariant-loop-answer g l = g.P.Answers.ready l.answers × (g.P.Answers.given l.answers ≤ g.P.Answers.count l.answers)

abbrev pub decreases-loop-answer : goal.decreases-loop-answer
decreases-loop-answer g l = g.P.Answers.count l.answers - g.P.Answers.given l.answers
