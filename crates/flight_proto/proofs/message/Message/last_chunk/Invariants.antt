use Rattle.std.proofs.Common.{◌≡◌, ◌+◌, length, List, None, Ok, option_map}
use Rattle.std.specs.List.{last_or}
use Rattle.proto_wire.specs.Standard.{Entry}
use Rattle.flight_proto.specs.Lookup.{chunks}
use Rattle.flight_proto.specs.Cursor.{left_of}
use Rattle.flight_proto.proofs.message.Message.last_chunk.Given as goal

-- the last of those so far, and then of those that are left, is the last of all
abbrev pub invariant-loop-field : goal.invariant-loop-field
invariant-loop-field l =
    (left : List Entry) × (left_of l.fields ≡ Ok left)
    × (last_or None (chunks l.number l.self) ≡ last_or (option_map (λ chunk. chunk.now) l.last) (chunks l.number left))

abbrev pub decreases-loop-field : goal.decreases-loop-field
decreases-loop-field l = length l.fields.part + length l.fields.later
