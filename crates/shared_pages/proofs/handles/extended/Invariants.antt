use Rattle.std.proofs.Common.{◌≡◌, ◌++◌, map, take}
use Rattle.std.specs.Arc.{arc_value}
use Rattle.shared_pages.proofs.handles.extended.Given as goal

abbrev pub invariant-loop-handle : goal.invariant-loop-handle
invariant-loop-handle g l =
    map arc_value l.all.items ≡ map arc_value l.fn.list.items ++ map arc_value (take l.handle-index l.handles)
