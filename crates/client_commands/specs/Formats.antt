-- What `query` writes of rows, in each of its formats.
use Rattle.std.specs.Prelude.{◌≡◌, ℕ, List, [], ◌++◌, Option, Result, Ok, Err}
use Rattle.std.specs.Io.KnownBytes.{Appends}
use Rattle.arrow_types.specs.declared.schema.Schema.{Schema}
use Rattle.ipc_batch.specs.SaidRows.{Rows}
use Rattle.grpc_frame.specs.Ends.{AppendsBeginning}
use Rattle.row_stream.specs.Stream.{numbered_schema, IsBrokenOff, IsWhole, SaysSome}
use Rattle.row_stream.specs.Stream.{WritesCounted}
use Rattle.row_text.specs.Lines.{lines_of}
use Rattle.row_text.specs.Records.{records_of}
use Rattle.row_text.specs.Tables.{table_of}
use Rattle.command_line.specs.declared.request.Format.{Format}
use Rattle.command_line.specs.declared.request.Format.TheVariants as form

-- bytes that say just these rows, of these columns: lines, CSV, a table for people, or an Arrow IPC
-- stream
abbrev pub SaysAll : Format → Schema → Rows → List ℕ → Type 0
SaysAll form.Lines schema rows bytes = bytes ≡ lines_of schema rows
SaysAll form.Csv schema rows bytes = bytes ≡ records_of schema rows
SaysAll form.Table schema rows bytes = bytes ≡ table_of schema rows
SaysAll form.Arrow schema rows bytes = IsWhole (numbered_schema schema) rows bytes

-- bytes that say some of these rows, from the first one on
pub record SaysFront (format : Format) (schema : Schema) (rows : Rows)
    (bytes : List ℕ) : Type 0 where
  pub front : Rows
  pub rest : Rows
  pub splits : rows ≡ front ++ rest
  pub says : SaysAll format schema front bytes

-- bytes of which a beginning stands where a write failed: they say these rows, or in an Arrow IPC
-- stream some of them, from the first one on
abbrev pub SaysPart : Format → Schema → Rows → List ℕ → Type 0
SaysPart form.Arrow schema rows bytes = SaysSome (numbered_schema schema) rows bytes
SaysPart format schema rows bytes = SaysAll format schema rows bytes

-- Bytes that stand where the rows break off. They say some of them, from the first one on: whole
-- lines or records, or an Arrow IPC stream that ends in the middle of a message. A table is not
-- begun.
abbrev pub SaysBroken : Format → Schema → Rows → List ℕ → Type 0
SaysBroken form.Arrow schema rows bytes = IsBrokenOff (numbered_schema schema) rows bytes
SaysBroken form.Table schema rows bytes = bytes ≡ []
SaysBroken format schema rows bytes = SaysFront format schema rows bytes

-- a beginning of these rows was written
abbrev pub WritesFront : Format → Schema → Rows → Option (List ℕ) → Option (List ℕ) → Type 0
WritesFront format schema rows old new =
    (bytes : List ℕ) × SaysPart format schema rows bytes × AppendsBeginning old new bytes

-- these rows were written whole, or a write failed
abbrev pub WritesAll : {A E : Type 0} → Result A E → Format → Schema → Rows → Option (List ℕ) →
    Option (List ℕ) → Type 0
WritesAll (Ok done) format schema rows old new =
    (bytes : List ℕ) × SaysAll format schema rows bytes × Appends old new bytes
WritesAll (Err fault) format schema rows old new = WritesFront format schema rows old new

-- some of these rows were written, and there it breaks off; or a write of that failed, which is
-- counted
abbrev pub BreaksRows : Format → Schema → Rows → Option (List ℕ) → Option (List ℕ) → ℕ → ℕ →
    Type 0
BreaksRows format schema rows old new failed failed' = (bytes : List ℕ)
    × SaysBroken format schema rows bytes × WritesCounted old new bytes failed failed'
