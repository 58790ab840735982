-- Inside: a batch that is cut into messages.
use Rattle.std.specs.Prelude.{◌≡◌, ◌≤◌, ◌<◌, ℕ, ◌+◌, List, [], ◌∷◌, ◌++◌, All, length, map}
use Rattle.scan_base.specs.declared.fault.Fault.{Fault}
use Rattle.scan_base.specs.declared.fault.Fault.TheVariants.{LimitReached, OutOfMemory}
use Rattle.arrow_types.specs.declared.schema.Schema.{Schema}
use Rattle.arrays.specs.Batch.{BatchAt, cut_batch, rows_of}
use Rattle.ipc_batch.specs.DressedBatches.{IsDressed}
use Rattle.ipc_batch.specs.WrittenMessages.{SaysBatch}
use Rattle.dictionary_answers.specs.Lengths.{bodies_length}
use Rattle.ipc_stream.specs.declared.message.IpcMessage.{IpcMessage}
use Rattle.ipc_stream.specs.Stream.{IsMessage}
use Rattle.row_stream.specs.Stream.{sent_in, HasShortBody, HasShortRows}
use Rattle.row_stream.specs.declared.batch_cuts.CutMessages.{CutMessages}

-- messages of dictionaries, and one that says a batch after them, in bodies that together have no
-- more bytes than there is room for
pub record AreBehind (dictionaries : List IpcMessage) (batch : BatchAt) (room : ℕ)
    (messages : List IpcMessage) : Type 0 where
  pub last : IpcMessage
  pub are : messages ≡ dictionaries ++ last ∷ []
  pub fits : IsMessage last
  pub says : SaysBatch (sent_in last) batch
  pub short : bodies_length (map sent_in dictionaries) + length last.body ≤ room

-- messages of the dictionaries of a batch's texts, and after them one that says its rows; each of
-- them is short
pub record SayBatch (IsShort : IpcMessage → Type 0) (schema : Schema) (batch : BatchAt)
    (messages : List IpcMessage) : Type 0 where
  pub dictionaries : List IpcMessage
  pub last : IpcMessage
  pub are : messages ≡ dictionaries ++ last ∷ []
  pub each : All IsMessage messages
  pub dressed : IsDressed schema (record {
    dictionaries = map sent_in dictionaries;
    batch = sent_in last;
    rows = rows_of batch;
  })
  pub short : All IsShort messages

-- no body is longer than there is room for
abbrev pub HasBodyWithin : ℕ → IpcMessage → Type 0
HasBodyWithin room message = length message.body ≤ room

-- the messages of the rows of a batch from one on, of one or more of them and at most so many
pub record IsCut (schema : Schema) (batch : BatchAt) (at most : ℕ)
    (cut : CutMessages) : Type 0 where
  pub forth : at < cut.end
  pub few : cut.end ≤ at + most
  pub within : cut.end ≤ batch.rows
  pub says : SayBatch (HasShortBody schema) schema (cut_batch batch at cut.end) cut.parcel

-- why no more rows of a batch were cut: memory was refused, or one row and its dictionaries have
-- bodies of 2 to the 31 bytes or more
abbrev pub IsUncut : Schema → BatchAt → Fault → Type 0
IsUncut schema batch OutOfMemory = Unit {0}
IsUncut schema batch LimitReached = ¬ HasShortRows schema batch
IsUncut schema batch _ = ⊥
