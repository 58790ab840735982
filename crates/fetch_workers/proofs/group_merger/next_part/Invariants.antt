use Rattle.std.proofs.Common.{◌≡◌}
use Rattle.fetch_workers.proofs.group_merger.next_part.Given as goal

-- no part is given yet
abbrev pub invariant-loop-turns : goal.invariant-loop-turns
invariant-loop-turns g l = record {
  ready : g.P.Answers.ready l.answers;
  count : g.P.Answers.count l.answers ≡ g.P.Answers.count l.fn.answers;
  given : g.P.Answers.given l.answers ≡ g.P.Answers.given l.fn.answers;
  watch : g.L.Watches.ready l.watch;
  watched : g.L.Watches.watched l.fn.watch l.watch;
}

abbrev pub decreases-loop-turns : goal.decreases-loop-turns
decreases-loop-turns g l = l.turns
