-- What a fetch shows before any memory is taken.
use Rattle.std.specs.Prelude.{ℕ, nat_le, Result, Ok}
use Rattle.scan_base.specs.declared.fault.Fault.{Fault}
use Rattle.scan_base.specs.declared.fault.Fault.TheVariants.{BadTicket, VersionUnknown}
use Rattle.scan_base.specs.declared.fault.Fault.TheVariants.{VersionExpired}
use Rattle.scan_base.specs.Reading.{◌>>=◌, demand}
use Rattle.endpoint_split.specs.Handle.{HandleAt}
use Rattle.fetch_stream.specs.Fetches.{version_of, may_mean}
use Rattle.flight_info.specs.Infos.{handle_asked}
use Rattle.flight_info.specs.Payloads.{Payload}

-- What a fetch shows before any memory is taken, where versions below a floor are expired and so
-- many puts were accepted: its handle, whose version was reached and is not expired, whose text is
-- short enough, and whose range is in order. The first fault in this order.
abbrev pub handle_shown : ℕ → ℕ → Payload → Result HandleAt Fault
handle_shown floor accepted ticket = do
  handle ← handle_asked ticket
  _ ← demand (nat_le (version_of handle) accepted) VersionUnknown
  _ ← demand (nat_le floor (version_of handle)) VersionExpired
  _ ← demand (may_mean handle) BadTicket
  Ok handle
