use Rattle.std.proofs.Common.{IsTrue, nat_lt}
use Rattle.scan_base.specs.Predicate.{names_only}
use Rattle.scan_base.specs.View.{pred_of}
use Rattle.format_cases.proofs.values.chain_truths.Given as goal

abbrev pub invariant-loop : goal.invariant-loop
invariant-loop l = record {
  all : IsTrue (names_only (λ column. nat_lt column 1) (pred_of l.all));
  any : IsTrue (names_only (λ column. nat_lt column 1) (pred_of l.any));
}
