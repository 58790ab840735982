use Rattle.std.proofs.Common.{◌+◌, length, Result}
use Rattle.scan_base.specs.declared.fault.Fault.{Fault}
use Rattle.flight_proto.specs.Cursor.{left_of, Reads}
use Rattle.flight_proto.proofs.message.Cursor.check.Given as goal

-- what is left reads or not, as all does
abbrev pub invariant-loop : goal.invariant-loop
invariant-loop l = (result : Result (Unit {0}) Fault) → Reads result (left_of l.cursor) → Reads result (left_of l.fn.self)

abbrev pub decreases-loop : goal.decreases-loop
decreases-loop l = length l.cursor.part + length l.cursor.later
