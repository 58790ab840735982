use Rattle.std.proofs.Common.{◌≡◌, ◌++◌, map}
use Rattle.scan_base.specs.View.{pred_of}
use Rattle.rewrite.specs.Conjuncts.{parts_of}
use Rattle.rewrite.proofs.TakenApart.{parts_behind, weights}
use Rattle.rewrite.proofs.filter_parts.parts_of.Given as goal

abbrev pub invariant-loop-next : goal.invariant-loop-next
invariant-loop-next l = map pred_of l.parts.items ++ parts_behind l.rest.items ≡ parts_of (pred_of l.fn.predicate)

abbrev pub decreases-loop-next : goal.decreases-loop-next
decreases-loop-next l = weights l.rest.items
