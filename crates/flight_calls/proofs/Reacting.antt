-- Messages that are refused before they are read.
use Rattle.std.proofs.Common.{Ok}
use Rattle.scan_base.specs.declared.fault.Fault.{Fault}
use Rattle.flight_info.specs.Payloads.{Payload}
use Rattle.flight_info.specs.Replies.{refusal}
use Rattle.flight_core.specs.declared.answer.Answer.TheVariants.{Whole}
use Rattle.flight_core.specs.StepAnswer.{ReactsBy}
use Rattle.flight_core.specs.Seats.{Seat, Moves}
use Rattle.flight_core.proofs.Reacting.{reacts_unseen}
use Rattle.flight_calls.specs.declared.request.Single.{Single}
use Rattle.flight_calls.specs.declared.setting.Options.{Options}
use Rattle.flight_calls.specs.Calls.{asked_with}
use Rattle.flight_calls.specs.Requests.{IsRefused}

-- they come to no backend
pub settled : (moves : Moves) → ((s : Seat) → moves s s.log s.log s) → (s : Seat) (options : Options) (one : Single) (message : Payload) (fault : Fault) → IsRefused one message fault
    → ReactsBy moves (Ok (asked_with options one message)) s (Whole (refusal fault)) s
settled moves stays s options one message fault is =
    reacts_unseen moves stays (Ok (asked_with options one message)) s (refusal fault) (is.0 options s.log) (is.1 options) (λ other asks. is.2 options s.log asks)
