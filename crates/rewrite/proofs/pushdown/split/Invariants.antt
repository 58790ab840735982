use Rattle.std.proofs.Common.{◌≡◌, ◌++◌, map}
use Rattle.std.specs.List.{filter}
use Rattle.scan_base.specs.View.{pred_of}
use Rattle.rewrite.specs.PushedFilters.{is_both, is_left, is_right, moved}
use Rattle.rewrite.proofs.pushdown.split.Given as goal

-- what is on a side, with what is still to go there
abbrev pub invariant-loop-part : goal.invariant-loop-part
invariant-loop-part l =
    let rest = map pred_of l.part-iterator.rest.items in
    let parts = map pred_of l.fn.parts.items in
    (map pred_of l.left.items ++ filter (is_left l.fn.seam) rest ≡ filter (is_left l.fn.seam) parts)
    × (map pred_of l.right.items ++ map (moved l.fn.seam) (filter (is_right l.fn.seam) rest) ≡ map (moved l.fn.seam) (filter (is_right l.fn.seam) parts))
    × (map pred_of l.both.items ++ filter (is_both l.fn.seam) rest ≡ filter (is_both l.fn.seam) parts)
