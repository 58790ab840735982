-- What a row costs that a predicate looks at.
use Rattle.std.specs.Prelude.{ℕ, ◌+◌, length}
use Rattle.scan_base.specs.Predicate.{Pred, conjunction, disjunction, negation, truth_test}
use Rattle.scan_base.specs.Predicate.{comparing, between, membership, null_test, constant}

-- How many comparisons a predicate makes for a row at most: BETWEEN makes two, IN one for each of
-- its items, and a truth that is known makes none.
abbrev pub comparisons : {C : Type 0} → Pred C → ℕ
comparisons (conjunction p q) = comparisons p + comparisons q
comparisons (disjunction p q) = comparisons p + comparisons q
comparisons (negation p) = comparisons p
comparisons (truth_test negated tested p) = comparisons p
comparisons (comparing comparison a b) = 1
comparisons (between negated a low high) = 2
comparisons (membership negated a items) = length items
comparisons (null_test negated a) = 1
comparisons (constant truth) = 0
