use Rattle.std.proofs.Common.{◌-◌, ◌≤◌}
use Rattle.worker_cases.proofs.workers.window.SlowWorkReadsBool.read.Given as goal

abbrev pub invariant-loop-made : goal.invariant-loop-made
invariant-loop-made g l = g.P.Answers.ready l.answers × (g.P.Answers.given l.answers ≤ g.P.Answers.count l.answers)

abbrev pub decreases-loop-made : goal.decreases-loop-made
decreases-loop-made g l = g.P.Answers.count l.answers - g.P.Answers.given l.answers
