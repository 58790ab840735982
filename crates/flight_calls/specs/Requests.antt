-- Inside: what is held of a call while its messages come.
use Rattle.std.specs.Prelude.{◌≡◌, List, [], ◌∷◌, ◌++◌, Some, Ok, Err}
use Rattle.scan_base.specs.declared.fault.Fault.{Fault}
use Rattle.flight_info.specs.Payloads.{Payload}
use Rattle.flight_core.specs.Arriving.{HasRead}
use Rattle.flight_info.specs.Replies.{refusal}
use Rattle.version_log.specs.Log.{Log}
use Rattle.flight_calls.specs.declared.setting.Options.{Options}
use Rattle.flight_calls.specs.declared.request.Method.TheVariants as method
use Rattle.flight_calls.specs.declared.request.Single.{Single}
use Rattle.flight_calls.specs.declared.request.Request.{Request}
use Rattle.flight_calls.specs.declared.request.Request.TheVariants as request
use Rattle.flight_core.specs.Reacts.{Asks, Looks}
use Rattle.flight_core.specs.Machine.{StepOn}
use Rattle.flight_calls.specs.Calls.{Call, method_at, asked_with, asked_by}

-- the call with more messages after its own
abbrev pub with_messages : Call → List Payload → Call
with_messages call more = record { path = call.path; messages = call.messages ++ more }

-- a message is answered by this fault, however the server is set and whatever the log is, without a
-- look or an ask
abbrev pub IsRefused : Single → Payload → Fault → Type 0
IsRefused one message fault =
    ((options : Options) (log : Log) →
    StepOn log (asked_with options one message) (refusal fault) log)
    × ((options : Options) → Looks (Ok (asked_with options one message)) → ⊥)
    × ((options : Options) (log : Log) → Asks (Ok (asked_with options one message)) log → ⊥)

-- the one message of the call came, and it is answered by this fault
pub record HasRefused (call : Call) (fault : Fault) : Type 0 where
  pub one : Single
  pub message : Payload
  pub at : method_at call.path ≡ Some (method.Single one)
  pub alone : call.messages ≡ message ∷ []
  pub refused : IsRefused one message fault

-- A request holds what a call asks as far as it came: a put's reader has read its messages; of
-- another method there is no message or one, which is not held where its fault is known; and any
-- other is answered by its fault whatever comes.
abbrev pub Holds : Request → Call → Type 0
Holds (request.Put reader) call =
    (method_at call.path ≡ Some method.DoPut) × HasRead call.messages reader
Holds (request.Awaits one) call =
    (method_at call.path ≡ Some (method.Single one)) × (call.messages ≡ [])
Holds (request.Asks one message) call =
    (method_at call.path ≡ Some (method.Single one)) × (call.messages ≡ message ∷ [])
Holds (request.Settled fault) call = HasRefused call fault
Holds (request.Refused fault) call =
    (options : Options) (more : List Payload) →
    asked_by options (with_messages call more) ≡ Err fault
