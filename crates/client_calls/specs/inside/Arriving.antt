-- Inside: what one record of an answer gives.
use Rattle.std.specs.Prelude.{◌≡◌, ℕ, List, [], ◌∷◌, Result, Ok, Err}
use Rattle.scan_base.specs.declared.fault.Fault.{Fault}
use Rattle.grpc_frame.specs.declared.record.Record.TheVariants.{Message, Status}
use Rattle.grpc_frame.specs.Records.{Received}
use Rattle.flight_client.specs.Status.{StatusSays}
use Rattle.client_calls.specs.declared.answer.Arrival.{Arrival}
use Rattle.client_calls.specs.declared.answer.Arrival.TheVariants as arrival
use Rattle.client_calls.specs.Answers.{Incoming, Fronts, Quiet, Halts}

-- a message came, or a status and what it stands for; or why neither did, and nothing is taken then
abbrev pub ArrivesAs : Result Arrival Fault → Incoming → Incoming → Received → Received → Type 0
ArrivesAs (Ok (arrival.Message message)) old new all left =
    Fronts (Message message ∷ []) all left × Quiet old new
ArrivesAs (Ok (arrival.End end)) old new all left =
    (code : ℕ) × (text : List ℕ) × StatusSays code text end
    × Fronts (Status code text ∷ []) all left × Quiet old new
ArrivesAs (Err fault) old new all left = (left ≡ all) × Halts fault left old new
