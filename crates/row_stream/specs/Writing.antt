-- An Arrow IPC stream while it is written, batch by batch.
use Rattle.std.specs.Prelude.{◌≡◌, ℕ, List, [], ◌++◌, All, map, Option, Result, Ok, Err}
use Rattle.std.specs.List.{flat_map}
use Rattle.scan_base.specs.declared.fault.Fault.{Fault}
use Rattle.scan_base.specs.declared.fault.Fault.TheVariants.{Transport}
use Rattle.arrow_types.specs.declared.schema.Schema.{Schema}
use Rattle.arrays.specs.Batch.{BatchAt, rows_of}
use Rattle.ipc_batch.specs.SaidRows.{Rows, Says}
use Rattle.ipc_stream.specs.declared.message.IpcMessage.{IpcMessage}
use Rattle.ipc_stream.specs.Stream.{frame, IsMessage}
use Rattle.grpc_frame.specs.Sending.{Sent as Outgone}
use Rattle.row_stream.specs.Stream.{sent_in, AreDressedBehind, BreaksOff, HasShortBody}
use Rattle.row_stream.specs.Stream.{WritesBeginning}

-- who writes a stream: the schema that was sent, and the bytes that wait for the next write
pub record WriterAt : Type 0 where
  pub schema : Schema
  pub waiting : List ℕ

-- messages that say these rows were sent: what is written of them, and after it the bytes that wait
-- for the next write
pub record SoFar (schema : Schema) (rows : Rows) (a b : Option (List ℕ))
    (waiting : List ℕ) : Type 0 where
  pub messages : List IpcMessage
  pub each : All IsMessage messages
  pub said : Says (map sent_in messages) schema rows
  pub dressed : AreDressedBehind schema (map sent_in messages) rows
  pub short : All (HasShortBody schema) messages
  pub sent : Outgone a b [] waiting (flat_map frame messages)

-- after a stream of some rows, these rows were sent
abbrev pub SentBehind : Schema → Rows → Option (List ℕ) → Option (List ℕ) → List ℕ → List ℕ → Type 0
SentBehind schema more old new before after =
    (rows : Rows) (start : Option (List ℕ)) → SoFar schema rows start old before →
    SoFar schema (rows ++ more) start new after

-- after a stream of some rows, all rows of a batch were sent; or a write of them failed; or for
-- another fault the stream breaks off
abbrev pub SendsBatch : {A : Type 0} → Result A Fault → Schema → BatchAt → Option (List ℕ) →
    Option (List ℕ) → List ℕ → List ℕ → ℕ → ℕ → Type 0
SendsBatch (Ok done) schema batch old new before after failed failed' =
    SentBehind schema (rows_of batch) old new before after
SendsBatch (Err Transport) schema batch old new before after failed failed' =
    (rows : Rows) (start : Option (List ℕ)) → SoFar schema rows start old before →
    WritesBeginning schema (rows ++ rows_of batch) start new
SendsBatch (Err fault) schema batch old new before after failed failed' =
    (rows : Rows) (start : Option (List ℕ)) → SoFar schema rows start old before →
    BreaksOff schema (rows ++ rows_of batch) start new failed failed'

-- a stream was begun: its schema was written, and no row; or a write of it failed; or for another
-- fault nothing was written
abbrev pub Begins : {A : Type 0} → (A → WriterAt) → Result A Fault → Schema → Option (List ℕ) →
    Option (List ℕ) → Type 0
Begins view (Ok writer) schema old new = ((view writer).schema ≡ schema)
    × SoFar schema [] old new (view writer).waiting × ((view writer).waiting ≡ [])
Begins view (Err Transport) schema old new = WritesBeginning schema [] old new
Begins view (Err fault) schema old new = new ≡ old
