use Rattle.std.proofs.Common.{◌≡◌, ◌≤◌, [], ◌∷◌}
use Rattle.sql_parse.specs.PredicateSteps as predicates
use Rattle.sql_parse.specs.Calls.{unread, remaining}
use Rattle.sql_parse.proofs.predicates.operands.Given as goal

abbrev pub invariant-loop-alloc : goal.invariant-loop-alloc
invariant-loop-alloc l = record {
  left : predicates.operands_at l.items (unread l.rest) ≡ predicates.operands_at (l.fn.first ∷ []) (unread l.tokens);
  within : remaining l.rest ≤ remaining l.tokens;
}

abbrev pub decreases-loop-alloc : goal.decreases-loop-alloc
decreases-loop-alloc l = remaining l.rest
