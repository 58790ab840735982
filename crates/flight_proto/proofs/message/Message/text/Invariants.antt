use Rattle.std.proofs.Common.{◌≡◌, ◌+◌, length, List, None, Ok, option_map}
use Rattle.std.specs.List.{last_or}
use Rattle.proto_wire.specs.Standard.{Entry}
use Rattle.flight_proto.specs.Lookup.{chunks, are_texts}
use Rattle.flight_proto.specs.Cursor.{left_of}
use Rattle.flight_proto.proofs.message.Message.text.Given as goal

-- those so far are texts, and the last of those that are left counts before them
abbrev pub invariant-loop-field : goal.invariant-loop-field
invariant-loop-field l =
    (left : List Entry) × (left_of l.fields ≡ Ok left)
    × (are_texts l.number l.self ≡ are_texts l.number left)
    × (last_or None (chunks l.number l.self) ≡ last_or (option_map (λ text. text.now) l.last) (chunks l.number left))

abbrev pub decreases-loop-field : goal.decreases-loop-field
decreases-loop-field l = length l.fields.part + length l.fields.later
