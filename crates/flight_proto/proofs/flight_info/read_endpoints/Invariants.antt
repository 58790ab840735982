use Rattle.std.proofs.Common.{◌≡◌, ◌+◌, length, map, List, Ok}
use Rattle.scan_base.specs.Lists.{each}
use Rattle.scan_base.proofs.ReadingLaws.{behind}
use Rattle.proto_wire.specs.Standard.{Entry}
use Rattle.flight_proto.specs.Lookup.{chunks}
use Rattle.flight_proto.specs.Cursor.{left_of}
use Rattle.flight_proto.specs.FlightInfo.{endpoint_said, endpoint_of}
use Rattle.flight_proto.proofs.flight_info.read_endpoints.Given as goal

-- the endpoints so far, and then those that are left
abbrev pub invariant-loop-field : goal.invariant-loop-field
invariant-loop-field l =
    (left : List Entry) × (left_of l.fields ≡ Ok left)
    × (each endpoint_of (chunks 3 l.message) ≡ behind (map endpoint_said l.endpoints.items) (each endpoint_of (chunks 3 left)))

abbrev pub decreases-loop-field : goal.decreases-loop-field
decreases-loop-field l = length l.fields.part + length l.fields.later
