-- Inside: who writes rows in a format.
use Rattle.std.specs.Prelude.{◌≡◌, ℕ, List, [], ◌++◌, All, Option, Result, Ok, Err}
use Rattle.std.specs.List.{flat_map}
use Rattle.scan_base.specs.declared.fault.Fault.{Fault}
use Rattle.scan_base.specs.declared.fault.Fault.TheVariants.{LimitReached, OutOfMemory, Transport}
use Rattle.arrow_types.specs.declared.schema.Field.{Field}
use Rattle.arrow_types.specs.declared.schema.Schema.{Schema}
use Rattle.arrays.specs.Batch.{BatchAt, rows_of}
use Rattle.ipc_batch.specs.SaidRows.{Rows}
use Rattle.grpc_frame.specs.Sending.{Sent}
use Rattle.row_stream.specs.Stream.{numbered_schema, HasShortRows}
use Rattle.row_stream.specs.Writing.{SoFar}
use Rattle.row_stream.specs.Writing.{WriterAt as StreamWriterAt}
use Rattle.row_text.specs.Rows.{Format as Layout, rows_text}
use Rattle.row_text.specs.Lines.{line_format}
use Rattle.row_text.specs.Records.{csv_format}
use Rattle.command_line.specs.declared.request.Format.{Format}
use Rattle.command_line.specs.declared.request.Format.TheVariants as form
use Rattle.command_ends.specs.Printing.{Said}
use Rattle.client_commands.specs.Formats.{BreaksRows, WritesAll, WritesFront}

-- who writes rows: the schema that is written, the bytes that wait for the next write, and the
-- batches that are held
pub record WriterAt : Type 0 where
  pub schema : Schema
  pub waiting : List ℕ
  pub batches : List BatchAt

-- who writes an Arrow IPC stream
abbrev pub stream_state : StreamWriterAt → WriterAt
stream_state writer = record { schema = writer.schema; waiting = writer.waiting; batches = [] }

-- the schema that is written of these columns
abbrev pub written_schema : Format → Schema → Schema
written_schema form.Arrow schema = numbered_schema schema
written_schema format schema = schema

-- a format whose rows each stand by themselves
abbrev pub IsText : Format → Type 0
IsText form.Lines = Unit {0}
IsText form.Csv = Unit {0}
IsText _ = ⊥

-- how its rows are
abbrev pub layout_of : Format → List Field → Layout
layout_of form.Csv = csv_format
layout_of _ = line_format

-- all of its text
abbrev pub text_of : Format → Schema → Rows → List ℕ
text_of format schema rows = rows_text (layout_of format schema.fields) schema.fields rows

-- what was written of rows since a start, next to what waits or is held
abbrev pub HasRows : Format → WriterAt → Rows → Option (List ℕ) → Option (List ℕ) → Type 0
HasRows form.Arrow writer rows start now = SoFar writer.schema rows start now writer.waiting
HasRows form.Table writer rows start now = (flat_map rows_of writer.batches ≡ rows) × (now ≡ start)
HasRows format writer rows start now =
    Sent start now [] writer.waiting (text_of format writer.schema rows)

-- who writes these columns has taken these rows of them
pub record HasTakenRows (format : Format) (schema : Schema) (rows : Rows)
    (start now : Option (List ℕ))
    (writer : WriterAt) : Type 0 where
  pub written : writer.schema ≡ written_schema format schema
  pub has : HasRows format writer rows start now

-- Rows of a schema were begun, and none of them was taken; or a write failed; or for another fault
-- nothing was written.
abbrev pub BeginsRows : {A : Type 0} → Format → (A → WriterAt) → Result A Fault → Schema →
    Option (List ℕ) → Option (List ℕ) → Type 0
BeginsRows format view (Ok writer) schema old new =
    HasTakenRows format schema [] old new (view writer)
BeginsRows format view (Err Transport) schema old new = WritesFront format schema [] old new
BeginsRows format view (Err fault) schema old new = new ≡ old

-- after some rows all rows of a batch were taken; or a write failed; or for another fault the rows
-- break off
abbrev pub SendsRows : {A : Type 0} → Result A Fault → Format → BatchAt → WriterAt → WriterAt →
    Said → Said → Type 0
SendsRows (Ok done) format batch before after out out' =
    (schema : Schema) (rows : Rows) (start : Option (List ℕ)) →
    HasTakenRows format schema rows start out.bytes before →
    HasTakenRows format schema (rows ++ rows_of batch) start out'.bytes after
SendsRows (Err Transport) format batch before after out out' =
    (schema : Schema) (rows : Rows) (start : Option (List ℕ)) →
    HasTakenRows format schema rows start out.bytes before →
    WritesFront format schema (rows ++ rows_of batch) start out'.bytes
SendsRows (Err fault) format batch before after out out' =
    (schema : Schema) (rows : Rows) (start : Option (List ℕ)) →
    HasTakenRows format schema rows start out.bytes before →
    BreaksRows format schema (rows ++ rows_of batch) start out'.bytes out.failures out'.failures

-- what was taken so far breaks off
abbrev pub Breaks : Format → WriterAt → Said → Said → Type 0
Breaks format writer out out' =
    (schema : Schema) (rows : Rows) (start : Option (List ℕ)) →
    HasTakenRows format schema rows start out.bytes writer →
    BreaksRows format schema rows start out'.bytes out.failures out'.failures

-- what was taken was written whole, or a write failed
abbrev pub EndsRows : {A E : Type 0} → Result A E → Format → WriterAt → Option (List ℕ) →
    Option (List ℕ) → Type 0
EndsRows result format writer old new =
    (schema : Schema) (rows : Rows) (start : Option (List ℕ)) →
    HasTakenRows format schema rows start old writer → WritesAll result format schema rows start new

-- why batches were not written after the schema that is written: a write failed, memory was
-- refused, or a row of an Arrow IPC stream is too long
abbrev pub IsCauseIn : Format → Schema → List BatchAt → Fault → Type 0
IsCauseIn format schema batches Transport = Unit {0}
IsCauseIn format schema batches OutOfMemory = Unit {0}
IsCauseIn format schema batches LimitReached =
    (format ≡ form.Arrow) × ¬ All (HasShortRows schema) batches
IsCauseIn format schema batches _ = ⊥
