use Rattle.std.proofs.Common.{◌≡◌, ◌-◌, None, option_map}
use Rattle.fetch_stream.specs.Morsels.{MorselsAt}
use Rattle.fetch_workers.specs.inside.JoinedMorsels.{AnswersMorsels}
use Rattle.fetch_workers.proofs.Joining.{StoodSo}
use Rattle.fetch_workers.proofs.joined_morsels.turn_of_later.Given as goal

abbrev pub invariant-loop-part : goal.invariant-loop-part
invariant-loop-part g l = record {
  ready : g.P.Answers.ready l.answers;
  count : g.P.Answers.count l.answers ≡ g.P.Answers.count l.initial.answers;
  none : option_map g.A.Part.stream l.present ≡ None;
  stood : (morsels : MorselsAt) → AnswersMorsels g.A.Part.stream morsels g.P.Answers.right (g.P.Answers.count l.initial.answers) → StoodSo morsels l.done (g.P.Answers.given l.initial.answers) (g.P.Answers.given l.answers);
}

abbrev pub decreases-loop-part : goal.decreases-loop-part
decreases-loop-part g l = g.P.Answers.count l.answers - g.P.Answers.given l.answers
