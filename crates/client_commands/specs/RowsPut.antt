-- The rows of a text of CSV, as they are put, batch by batch.
use Rattle.std.specs.Prelude.{◌≡◌, ◌⊎◌, ℕ, List, [], ◌++◌, Result, Err}
use Rattle.scan_base.specs.declared.fault.Fault.{Fault}
use Rattle.ipc_stream.specs.declared.message.IpcMessage.{IpcMessage}
use Rattle.csv_input.specs.Long.{WhyNoMessage}
use Rattle.csv_input.specs.Rows.{SaysRecords}
use Rattle.csv_input.specs.Input.{TextAt}
use Rattle.client_calls.specs.declared.call.Method.TheVariants.{DoPut}
use Rattle.client_calls.specs.declared.failure.Failure.{Failure}
use Rattle.client_calls.specs.declared.failure.Failure.TheVariants.{Found}
use Rattle.client_calls.specs.declared.put_call.Target.{Target}
use Rattle.client_calls.specs.Answers.{AnswersOne}
use Rattle.client_calls.specs.Commands.{put_payloads, ReadsCount}
use Rattle.client_calls.specs.Outcome.{Calls, Line}
use Rattle.client_calls.specs.Sending.{IsCutShort, WhyCut}

-- messages that say the rows of all records of a text were put, and this came of it
abbrev pub PutsAll : Target → TextAt → Result ℕ Failure → Line → Line → Type 0
PutsAll target text result old new =
    (messages : List IpcMessage) × SaysRecords text.schema text.records messages
    × Calls DoPut (put_payloads target messages) (AnswersOne ReadsCount) result old new

-- no message is made of the next records: memory is refused (F21), or they are too long (F12)
abbrev pub IsUnmade : TextAt → List (List (List ℕ)) → Fault → Type 0
IsUnmade text others fault =
    (rest : List (List (List ℕ))) × WhyNoMessage text.schema.fields others rest fault

-- A put was cut short, after messages that say the rows of some records of a text, from the first
-- one on, or after none. What is written has no End. Why: a message was not sent, or the next one
-- was not made.
pub record PutsSome (target : Target) (text : TextAt) (fault : Fault)
    (old new : Line) : Type 0 where
  pub some : List (List (List ℕ))
  pub others : List (List (List ℕ))
  pub splits : text.records ≡ some ++ others
  pub messages : List IpcMessage
  pub says : (messages ≡ []) ⊎ SaysRecords text.schema some messages
  pub cut : IsCutShort fault (put_payloads target messages) old new
  pub why : WhyCut fault (put_payloads target messages) old new
      ⊎ (IsUnmade text others fault × (new.outgoing.failed ≡ old.outgoing.failed))

-- a put was cut short by a fault of this end
abbrev pub FailsRows : Target → TextAt → Failure → Line → Line → Type 0
FailsRows target text failure old new =
    (fault : Fault) × (failure ≡ Found fault) × PutsSome target text fault old new

-- the rows of all records of a text were put, and this came of it; or the put was cut short, and
-- its fault is the result
abbrev pub PutsRows : Target → TextAt → Result ℕ Failure → Line → Line → Type 0
PutsRows target text result old new =
    PutsAll target text result old new
    ⊎ ((failure : Failure) × (result ≡ Err failure) × FailsRows target text failure old new)
