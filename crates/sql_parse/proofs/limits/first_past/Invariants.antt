use Rattle.std.proofs.Common.{◌≤◌}
use Rattle.sql_parse.specs.Calls.{tally_seen}
use Rattle.sql_parse.proofs.Past.{TellsFronts}
use Rattle.sql_parse.proofs.limits.first_past.Given as goal

abbrev pub invariant-loop-index : goal.invariant-loop-index
invariant-loop-index l = record {
  left : TellsFronts (tally_seen l.tally) l.index l.tokens;
  most : l.tally.most ≤ 256;
}
