use Rattle.std.proofs.Common.{◌≡◌, ◌+◌, ◌++◌, length, List, Ok}
use Rattle.proto_wire.specs.Standard.{Entry}
use Rattle.flight_proto.specs.Lookup.{joined}
use Rattle.flight_proto.specs.Cursor.{left_of}
use Rattle.flight_proto.proofs.message.Message.joined.Given as goal

-- the bytes so far, and those that are left
abbrev pub invariant-loop-field : goal.invariant-loop-field
invariant-loop-field l =
    (left : List Entry) × (left_of l.fields ≡ Ok left) × (joined l.number l.self ≡ l.bytes.items ++ joined l.number left)

abbrev pub decreases-loop-field : goal.decreases-loop-field
decreases-loop-field l = length l.fields.part + length l.fields.later
