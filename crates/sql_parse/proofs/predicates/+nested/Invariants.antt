use Rattle.std.proofs.Common.{◌≡◌, ◌+◌, ◌*◌, ◌<◌}
use Rattle.scan_base.specs.View.{pred_of}
use Rattle.sql_parse.specs.PredicateSteps as predicates
use Rattle.sql_parse.specs.Calls.{unread, remaining}
use Rattle.sql_parse.proofs.predicates.+nested.Given as goal

abbrev pub decreases-parenthesized : goal.decreases-parenthesized
decreases-parenthesized l = 8 * l.depth

abbrev pub decreases-primary : goal.decreases-primary
decreases-primary l = 8 * l.depth + 1

abbrev pub decreases-test : goal.decreases-test
decreases-test l = 8 * l.depth + 2

abbrev pub decreases-negation : goal.decreases-negation
decreases-negation l = 8 * l.depth + 3

abbrev pub decreases-factor : goal.decreases-factor
decreases-factor l = 8 * l.depth + 4

abbrev pub decreases-conjunction : goal.decreases-conjunction
decreases-conjunction l = 8 * l.depth + 5

abbrev pub decreases-predicate : goal.decreases-predicate
decreases-predicate l = 8 * l.depth + 6

abbrev pub invariant-conjunction-loop-alloc : goal.invariant-conjunction-loop-alloc
invariant-conjunction-loop-alloc l = record {
  left : predicates.ands_at l.depth (pred_of l.left.value) (unread l.rest) ≡ predicates.conj_at l.depth (unread l.tokens);
  within : remaining l.rest < remaining l.tokens;
}

abbrev pub decreases-conjunction-loop-alloc : goal.decreases-conjunction-loop-alloc
decreases-conjunction-loop-alloc l = remaining l.rest

abbrev pub invariant-predicate-loop-alloc : goal.invariant-predicate-loop-alloc
invariant-predicate-loop-alloc l = record {
  left : predicates.ors_at l.depth (pred_of l.left.value) (unread l.rest) ≡ predicates.pred_at l.depth (unread l.tokens);
  within : remaining l.rest < remaining l.tokens;
}

abbrev pub decreases-predicate-loop-alloc : goal.decreases-predicate-loop-alloc
decreases-predicate-loop-alloc l = remaining l.rest
