use Rattle.std.proofs.Common.{◌≡◌, ◌++◌, map}
use Rattle.scan_base.specs.View.{pred_of}
use Rattle.rewrite.specs.Conjuncts.{parts_of}
use Rattle.rewrite.proofs.pushdown.with_parts.Given as goal

abbrev pub invariant-loop-part : goal.invariant-loop-part
invariant-loop-part l =
    map pred_of l.all.items ++ map pred_of l.part-iterator.rest.items
    ≡ parts_of (pred_of l.fn.predicate) ++ map pred_of l.fn.parts.items
