use Rattle.scan_exec.specs.GroupWork.{IsSamePart}
use Rattle.scan_exec.proofs.group_work.FedPart.feed_turn.Given as goal

abbrev pub invariant-loop-part : goal.invariant-loop-part
invariant-loop-part l = IsSamePart l.fn.self l.part

abbrev pub decreases-loop-part : goal.decreases-loop-part
decreases-loop-part l = l.part.left
