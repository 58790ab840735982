-- The rows that are left after a message.
use Rattle.std.proofs.Common.{◌≢◌, ◌<◌, ℕ, List, [], ◌∷◌, length, Option, None, Some, Result, Ok, Err, refl, ap, arith}
use Rattle.std.specs.Prelude.{IfOk, IfSome}
use Rattle.std.proofs.lemmas.List.{length-append}
use Rattle.arrow_types.specs.declared.schema.Schema.{Schema}
use Rattle.ipc_stream.specs.declared.message.IpcMessage.{IpcMessage}
use Rattle.scan_base.specs.declared.fault.Fault.{Fault}
use Rattle.csv_input.specs.Rows.{TakesMessage}

some_records : (taken : List (List (List ℕ))) → taken ≢ [] → 0 < length taken
some_records [] some = absurd (some refl)
some_records (one ∷ taken) some = omega arith

-- a message leaves fewer
pub fewer : (result : Result (Option IpcMessage) Fault) (schema : Schema) (old new : List (List (List ℕ))) → IfOk result (λ found. TakesMessage schema found old new) →
    IfOk result (λ found. IfSome found (λ _. length new < length old))
fewer (Ok None) schema old new takes = tt
fewer (Ok (Some message)) schema old new takes = omega (arith, some_records takes.taken takes.some, ap length takes.splits, length-append takes.taken new)
fewer (Err fault) schema old new takes = tt
