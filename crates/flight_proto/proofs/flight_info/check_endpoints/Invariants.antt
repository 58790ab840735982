use Rattle.std.proofs.Common.{◌≡◌, ◌+◌, length, List, Result, Ok}
use Rattle.scan_base.specs.declared.fault.Fault.{Fault}
use Rattle.scan_base.specs.Lists.{each}
use Rattle.proto_wire.specs.Standard.{Entry}
use Rattle.flight_proto.specs.Lookup.{chunks}
use Rattle.flight_proto.specs.Cursor.{left_of, Reads}
use Rattle.flight_proto.specs.FlightInfo.{endpoint_of}
use Rattle.flight_proto.proofs.flight_info.check_endpoints.Given as goal

-- the endpoints that are left read or not, as all do
abbrev pub invariant-loop-field : goal.invariant-loop-field
invariant-loop-field l =
    (left : List Entry) × (left_of l.fields ≡ Ok left)
    × ((result : Result (Unit {0}) Fault) → Reads result (each endpoint_of (chunks 3 left)) → Reads result (each endpoint_of (chunks 3 l.message)))

abbrev pub decreases-loop-field : goal.decreases-loop-field
decreases-loop-field l = length l.fields.part + length l.fields.later
