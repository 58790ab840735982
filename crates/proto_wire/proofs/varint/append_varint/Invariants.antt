use Rattle.proto_wire.proofs.Written.{Filled}
use Rattle.proto_wire.proofs.varint.append_varint.Given as goal

abbrev pub invariant-loop-left : goal.invariant-loop-left
invariant-loop-left l = Filled l.fn.number l.end l.left l.buffer

abbrev pub decreases-loop-left : goal.decreases-loop-left
decreases-loop-left l = l.left
