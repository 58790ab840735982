use Rattle.std.proofs.Common.{◌≡◌, ◌+◌, ◌≤◌, length}
use Rattle.flight_proto.specs.Cursor.{left_of}
use Rattle.flight_proto.proofs.message.Cursor.next.Given as goal

-- the same fields are left, of no more bytes
abbrev pub invariant-loop-self : goal.invariant-loop-self
invariant-loop-self l = record {
  left : left_of l.self ≡ left_of l.fn.self;
  fewer : length l.self.part + length l.self.later ≤ length l.fn.self.part + length l.fn.self.later;
}

abbrev pub decreases-loop-self : goal.decreases-loop-self
decreases-loop-self l = length l.self.later
