use Rattle.std.proofs.Common.{◌≡◌, ◌≤◌, ◌+◌, ◌-◌, [], length}
use Rattle.scan_workers.specs.Right.{AllRight}
use Rattle.scan_workers.proofs.collect.AnswerCollectorReads.read.Given as goal

abbrev pub invariant-loop-answer : goal.invariant-loop-answer
invariant-loop-answer g l =
    (length l.self.answers.items ≡ length l.initial.self.answers.items + g.P.Answers.given l.answers)
    × (l.initial.self.answers.items ≡ [] → AllRight g.P.Answers.right 0 l.self.answers.items)
    × g.P.Answers.ready l.answers
    × (g.P.Answers.given l.answers ≤ g.P.Answers.count l.answers)
    × (g.P.Answers.count l.answers ≡ g.P.Answers.count l.initial.answers)

abbrev pub decreases-loop-answer : goal.decreases-loop-answer
decreases-loop-answer g l = g.P.Answers.count l.answers - g.P.Answers.given l.answers
