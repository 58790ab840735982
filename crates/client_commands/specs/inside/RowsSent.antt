-- Inside: the rows of a text that were sent so far.
use Rattle.std.specs.Prelude.{ℕ, List, ◌∷◌}
use Rattle.ipc_stream.specs.declared.message.IpcMessage.{IpcMessage}
use Rattle.csv_input.specs.Rows.{SaysRecords}
use Rattle.csv_input.specs.Input.{TextAt}
use Rattle.client_calls.specs.declared.put_call.Target.{Target}
use Rattle.client_calls.specs.Commands.{put_payloads}
use Rattle.client_calls.specs.Outcome.{Line}
use Rattle.client_calls.specs.Sending.{IsPutWriter, PutAt}

-- messages that say the rows of these records of a text were sent
pub record HaveSent (target : Target) (text : TextAt) (done : List (List (List ℕ))) (begun : Line)
    (now : PutAt) : Type 0 where
  pub first : IpcMessage
  pub others : List IpcMessage
  pub says : SaysRecords text.schema done (first ∷ others)
  pub putting : IsPutWriter (put_payloads target (first ∷ others)) begun now
