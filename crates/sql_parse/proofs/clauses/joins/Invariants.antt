use Rattle.std.proofs.Common.{◌≡◌, ◌≤◌, []}
use Rattle.sql_parse.specs.ClauseSteps as steps
use Rattle.sql_parse.specs.Calls.{unread, remaining}
use Rattle.sql_parse.proofs.clauses.joins.Given as goal

abbrev pub invariant-loop-rest : goal.invariant-loop-rest
invariant-loop-rest l = record {
  left : steps.joins_at l.joins (unread l.rest) ≡ steps.joins_at [] (unread l.tokens);
  within : remaining l.rest ≤ remaining l.tokens;
}

abbrev pub decreases-loop-rest : goal.decreases-loop-rest
decreases-loop-rest l = remaining l.rest
