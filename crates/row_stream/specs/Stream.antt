-- What is written of rows as an Arrow IPC stream.
use Rattle.std.specs.Prelude.{◌≡◌, ◌⊎◌, ◌≤◌, ◌<◌, ◌^◌, ℕ, ◌+◌, List, [], ◌∷◌, ◌++◌, All, length}
use Rattle.std.specs.Prelude.{map, Option, Result, Ok, Err}
use Rattle.std.specs.Io.KnownBytes.{Appends}
use Rattle.scan_base.specs.declared.fault.Fault.{Fault}
use Rattle.scan_base.specs.declared.fault.Fault.TheVariants.{LimitReached, OutOfMemory, Transport}
use Rattle.scan_base.specs.declared.value.Value.{Value}
use Rattle.arrow_types.specs.declared.schema.Field.{Field}
use Rattle.arrow_types.specs.declared.schema.Schema.{Schema}
use Rattle.arrow_types.specs.Answer.{answered_field}
use Rattle.arrays.specs.Batch.{BatchAt, cut_batch}
use Rattle.ipc_batch.specs.SaidRows.{Sent, Rows, Says}
use Rattle.ipc_batch.specs.DressedBatches.{SaysWhole, AddsRows, AreDressed}
use Rattle.dictionary_answers.specs.Lengths.{dressed_length}
use Rattle.ipc_stream.specs.declared.message.IpcMessage.{IpcMessage}
use Rattle.ipc_stream.specs.Stream.{announced, Framed, IsStream, end_marker}
use Rattle.grpc_frame.specs.Ends.{AppendsBeginning}

-- the columns of a stream, of which the first has this number: each dictionary of texts is the one
-- of its column's number, with indices of 32 bits
abbrev pub numbered_from : ℕ → List Field → List Field
numbered_from number [] = []
numbered_from number (field ∷ fields) =
    answered_field number field ∷ numbered_from (number + 1) fields

-- the schema that is written of these columns
abbrev pub numbered_schema : Schema → Schema
numbered_schema schema = record { fields = numbered_from 0 schema.fields }

-- a message of a stream, as a reader of messages takes it
abbrev pub sent_in : IpcMessage → Sent
sent_in message = record { header = message.header; body = message.body }

-- as many bytes as the body of a message of two rows or more has
abbrev pub most_body_bytes : ℕ
most_body_bytes = 8388608

-- a message says a dictionary of one text at most
pub record SaysOneText (schema : Schema) (sent : Sent) : Type 0 where
  pub id : ℕ
  pub texts : List (List ℕ)
  pub one : length texts ≤ 1
  pub says : SaysWhole schema id texts sent

-- a message says one row, to whoever has the dictionaries of its texts
pub record SaysOneRow (schema : Schema) (sent : Sent) : Type 0 where
  pub row : List Value
  pub adds : AddsRows schema (row ∷ []) sent

-- the body of a message after a schema is not too long, or it is that of one row, or of the one
-- text of a column of it
abbrev pub HasShortBody : Schema → IpcMessage → Type 0
HasShortBody schema message =
    (length message.body ≤ most_body_bytes)
    ⊎ (SaysOneText schema (sent_in message) ⊎ SaysOneRow schema (sent_in message))

-- after the first message each batch stands right after the dictionaries of its own texts, and the
-- batches say these rows
abbrev pub AreDressedBehind : Schema → List Sent → Rows → Type 0
AreDressedBehind schema [] rows = ⊥
AreDressedBehind schema (first ∷ behind) rows = AreDressed schema behind rows

-- the bytes are an Arrow IPC stream, which this rest ends, and its messages say this schema and
-- these rows
pub record StreamSays (stream rest : List ℕ) (schema : Schema) (rows : Rows) : Type 0 where
  pub messages : List IpcMessage
  pub framed : Framed stream messages rest
  pub said : Says (map sent_in messages) schema rows
  pub dressed : AreDressedBehind schema (map sent_in messages) rows
  pub short : All (HasShortBody schema) messages

-- the whole stream of these rows, with its end marker
abbrev pub IsWhole : Schema → Rows → List ℕ → Type 0
IsWhole schema rows stream = StreamSays stream end_marker schema rows

-- a stream that says some of these rows, from the first one on
pub record SaysSome (schema : Schema) (rows : Rows) (stream : List ℕ) : Type 0 where
  pub some : Rows
  pub others : Rows
  pub splits : rows ≡ some ++ others
  pub rest : List ℕ
  pub says : StreamSays stream rest schema some

-- the start of a message that never ends: a header of eight bytes is announced, and four of them
-- come
abbrev pub unfinished : List ℕ
unfinished = announced 8 (0 ∷ 0 ∷ 0 ∷ 0 ∷ [])

-- a stream that breaks off: it says some of these rows, from the first one on, and ends in the
-- middle of a message, so it is none
pub record IsBrokenOff (schema : Schema) (rows : Rows) (bytes : List ℕ) : Type 0 where
  pub stream : List ℕ
  pub says : SaysSome schema rows stream
  pub ends : bytes ≡ stream ++ unfinished
  pub refused : ¬ IsStream bytes

-- a beginning of a stream was written, which says some of these rows
abbrev pub WritesBeginning : Schema → Rows → Option (List ℕ) → Option (List ℕ) → Type 0
WritesBeginning schema rows old new =
    (stream : List ℕ) × SaysSome schema rows stream × AppendsBeginning old new stream

-- the whole stream of these rows was written, or a write failed
abbrev pub WritesStream : {A E : Type 0} → Result A E → Schema → Rows → Option (List ℕ) →
    Option (List ℕ) → Type 0
WritesStream (Ok done) schema rows old new =
    (stream : List ℕ) × IsWhole schema rows stream × Appends old new stream
WritesStream (Err fault) schema rows old new = WritesBeginning schema rows old new

-- bytes were written; or a write failed, which is counted, and a beginning of them was
abbrev pub WritesCounted : Option (List ℕ) → Option (List ℕ) → List ℕ → ℕ → ℕ → Type 0
WritesCounted old new bytes failed failed' = (Appends old new bytes × (failed' ≡ failed))
    ⊎ (AppendsBeginning old new bytes × (failed' ≡ failed + 1))

-- a stream that breaks off was written, or a beginning of it
abbrev pub BreaksOff : Schema → Rows → Option (List ℕ) → Option (List ℕ) → ℕ → ℕ → Type 0
BreaksOff schema rows old new failed failed' =
    (stream : List ℕ) × IsBrokenOff schema rows stream × WritesCounted old new stream failed failed'

-- a write that failed is counted, and no other fault
abbrev pub CountsTransport : {A : Type 0} → Result A Fault → ℕ → ℕ → Type 0
CountsTransport (Ok done) old new = new ≡ old
CountsTransport (Err Transport) old new = new ≡ old + 1
CountsTransport (Err fault) old new = new ≡ old

-- a write that failed is counted; at another fault one that breaks the stream off may have failed,
-- too
abbrev pub CountsWrites : {A : Type 0} → Result A Fault → ℕ → ℕ → Type 0
CountsWrites (Ok done) old new = new ≡ old
CountsWrites (Err Transport) old new = new ≡ old + 1
CountsWrites (Err fault) old new = (new ≡ old) ⊎ (new ≡ old + 1)

-- each row of a batch alone, and its dictionaries, have bodies of fewer than 2 to the 31 bytes
-- together
abbrev pub HasShortRows : Schema → BatchAt → Type 0
HasShortRows schema batch = (row : ℕ) → row < batch.rows →
    dressed_length schema.fields (cut_batch batch row (row + 1)).columns < 2 ^ 31

-- Why a stream was not written: a write failed, memory was refused, or one row has bodies of 2 to
-- the 31 bytes or more.
abbrev pub IsCause : Schema → List BatchAt → Fault → Type 0
IsCause schema batches Transport = Unit {0}
IsCause schema batches OutOfMemory = Unit {0}
IsCause schema batches LimitReached = ¬ All (HasShortRows schema) batches
IsCause schema batches _ = ⊥
