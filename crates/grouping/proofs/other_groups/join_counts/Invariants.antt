use Rattle.group_slots.specs.HeldTallies.{count_tallies}
use Rattle.grouping.proofs.JoiningAll.{IsJoining}
use Rattle.grouping.proofs.other_groups.join_counts.Given as goal

abbrev pub invariant-loop-k : goal.invariant-loop-k
invariant-loop-k l = IsJoining l.groups (count_tallies l.others) (count_tallies l.initial.counts) l.k (count_tallies l.counts)
