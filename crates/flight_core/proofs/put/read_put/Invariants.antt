use Rattle.std.proofs.Common.{take}
use Rattle.flight_core.specs.Arriving.{HasRead}
use Rattle.flight_core.proofs.put.read_put.Given as goal

abbrev pub invariant-loop-payload : goal.invariant-loop-payload
invariant-loop-payload l = HasRead (take l.payload-index l.payloads) l.reader
