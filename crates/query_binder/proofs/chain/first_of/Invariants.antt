use Rattle.std.proofs.Common.{◌≡◌, ◌++◌, map}
use Rattle.scan_base.specs.View.{pred_of}
use Rattle.query_binder.specs.Chain.{first_predicate, link_of, links_of}
use Rattle.query_binder.proofs.chain.first_of.Given as goal

abbrev pub invariant-loop-first : goal.invariant-loop-first
invariant-loop-first l = record {
  same_first : first_predicate (pred_of l.first) ≡ first_predicate (pred_of l.chain);
  behind : map link_of l.sides.items ++ links_of (pred_of l.first)
      ≡ map link_of l.initial.sides.items ++ links_of (pred_of l.chain);
}
