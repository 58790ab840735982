use Rattle.std.proofs.Common.{◌≡◌}
use Rattle.endpoint_split.specs.Split.{first_ranges}
use Rattle.endpoint_split.proofs.ranges.split.Given as goal

abbrev pub invariant-loop-i : goal.invariant-loop-i
invariant-loop-i l = l.all.items ≡ first_ranges l.rows l.count l.i
