use Rattle.std.proofs.Common.{◌≡◌, ◌≤◌, length}
use Rattle.grouping.specs.inside.Knowing.{GoOn}
use Rattle.grouping.proofs.known_keys.push_known.Given as goal

abbrev pub invariant-loop-k : goal.invariant-loop-k
invariant-loop-k g l = record {
  at : length l.groups.items ≡ l.k;
  more : length l.initial.groups.items ≤ length l.groups.items;
  found : GoOn (g.T.Tags.meaning l.tags) l.known l.chosen l.initial.groups.items l.groups.items;
}
