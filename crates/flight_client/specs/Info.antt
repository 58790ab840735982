-- The info that answers GetFlightInfo.
use Rattle.std.specs.Prelude.{ℕ, ◌==◌, not, List, length, Result, Ok}
use Rattle.scan_base.specs.declared.fault.Fault.{Fault}
use Rattle.scan_base.specs.declared.fault.Fault.TheVariants.{BadProto}
use Rattle.scan_base.specs.Reading.{◌>>=◌, demand}
use Rattle.flight_proto.specs.FlightInfo.{InfoSaid, info_of}

-- the info in a message, of one endpoint or more
abbrev pub info_answered : List ℕ → Result InfoSaid Fault
info_answered message = do
  info ← info_of message
  _ ← demand (not (length info.endpoints == 0)) BadProto
  Ok info
