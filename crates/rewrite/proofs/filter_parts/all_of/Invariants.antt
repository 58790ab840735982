use Rattle.std.proofs.Common.{◌≡◌, map}
use Rattle.scan_base.specs.View.{pred_of}
use Rattle.rewrite.specs.Conjuncts.{all_of}
use Rattle.rewrite.proofs.filter_parts.all_of.Given as goal

abbrev pub invariant-loop-part : goal.invariant-loop-part
invariant-loop-part l = all_of (pred_of l.whole) (map pred_of l.part-iterator.rest.items) ≡ all_of (pred_of l.fn.first) (map pred_of l.fn.parts.items)
