-- What answers a call.
use Rattle.std.specs.Prelude.{List, [], Option, Some, None}
use Rattle.scan_base.specs.declared.fault.Fault.{Fault}
use Rattle.flight_info.specs.Payloads.{Payload}

-- the payloads of an answer's messages, and a fault where its status is not 0
pub record ReplyAt : Type 0 where
  pub payloads : List Payload
  pub fault : Option Fault

-- the reply that refuses for this fault, and has no payload
abbrev pub refusal : Fault → ReplyAt
refusal fault = record { payloads = []; fault = Some fault }

-- the reply of these payloads and status 0
abbrev pub whole : List Payload → ReplyAt
whole payloads = record { payloads = payloads; fault = None }
