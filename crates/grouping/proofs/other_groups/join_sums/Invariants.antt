use Rattle.grouping.proofs.JoiningAll.{IsJoining}
use Rattle.grouping.proofs.other_groups.join_sums.Given as goal

abbrev pub invariant-loop-k : goal.invariant-loop-k
invariant-loop-k l = IsJoining l.groups l.others l.initial.tallies l.k l.tallies
