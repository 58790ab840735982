-- Inside: rows that are still to be cut into messages.
use Rattle.std.specs.Prelude.{◌≡◌, ◌≤◌, ◌<◌, ◌-◌, ℕ, false, List, [], None, Option}
use Rattle.std.specs.List.{list_any}
use Rattle.arrow_types.specs.declared.schema.Schema.{Schema}
use Rattle.arrow_types.specs.Answer.{LieBehind}
use Rattle.arrow_types.specs.Schema.{IsSchema}
use Rattle.arrays.specs.Batch.{BatchAt, rows_of, cut_batch}
use Rattle.arrays.specs.Column.{ColumnAt}
use Rattle.dictionary_answers.specs.Dress.{AreDressable, AreNumbered}
use Rattle.scan_exec.specs.Scan.{left}
use Rattle.scan_base.specs.declared.fault.Fault.{Fault}
use Rattle.scan_base.specs.Limits.{most_answer_rows}
use Rattle.table_versions.specs.Table.{Row, is_long_text}
use Rattle.fetch_stream.specs.Streams.{most_message_rows}
use Rattle.fetch_stream.specs.declared.cutter.Cutter.{Cutter}
use Rattle.fetch_stream.specs.declared.source.Source.{Source}
use Rattle.fetch_stream.specs.declared.source.Source.TheVariants.{Scanned, Listed}

-- the columns of a batch can be answered as this schema says
pub record AnsweredAs (schema : Schema) (columns : List ColumnAt) : Type 0 where
  pub numbered : AreNumbered 0 schema.fields
  pub dressable : AreDressable schema.fields columns

-- the rows of a batch that are still to be cut
abbrev pub uncut : Cutter → List Row
uncut cutter = rows_of (cut_batch cutter.batch cutter.at cutter.batch.rows)

-- where a cutter stands in its batch, and how many rows its next message may have
pub record IsCutter (cutter : Cutter) : Type 0 where
  pub within : cutter.at ≤ cutter.batch.rows
  pub some : 0 < cutter.most
  pub few : cutter.most ≤ most_message_rows
  pub short : list_any (list_any is_long_text) (rows_of cutter.batch) ≡ false

-- the schema of what a source gives
abbrev pub schema_behind : Source → Schema
schema_behind (Scanned scan) = scan.schema
schema_behind (Listed schema) = schema

-- the rows that it has still to give
abbrev pub left_behind : Source → List Row
left_behind (Scanned scan) = left scan
left_behind (Listed schema) = []

-- how many rows its turns have still to look at
abbrev pub unseen_behind : Source → ℕ
unseen_behind (Scanned scan) = scan.unseen
unseen_behind (Listed schema) = 0

-- what refused it
abbrev pub refused_behind : Source → Option Fault
refused_behind (Scanned scan) = scan.refused
refused_behind (Listed schema) = None

-- the columns that it gives lie after its schema
abbrev pub TypedBehind : Source → Type 0
TypedBehind (Scanned scan) = LieBehind scan.schema.fields scan.types
TypedBehind (Listed schema) = Unit {0}

-- a source of rows that was not refused, none of which has a text that is too long
pub record IsSource (source : Source) : Type 0 where
  pub schema : IsSchema (schema_behind source)
  pub typed : TypedBehind source
  pub short : list_any (list_any is_long_text) (left_behind source) ≡ false
  pub begins : refused_behind source ≡ None

-- how many rows a source has given, where the last batch is this one; the list of tables is one
-- batch
abbrev pub rows_taken : BatchAt → Source → ℕ
rows_taken batch (Scanned scan) = scan.given
rows_taken batch (Listed schema) = batch.rows

-- how many of them were cut into messages
abbrev pub rows_cut : Cutter → Source → ℕ
rows_cut cutter source = rows_taken cutter.batch source - (cutter.batch.rows - cutter.at)

-- a batch that is being cut, and the source of those after it
pub record IsGoing (cutter : Cutter) (source : Source) : Type 0 where
  pub placed : IsCutter cutter
  pub counted : cutter.batch.rows ≤ rows_taken cutter.batch source
  pub within : rows_taken cutter.batch source ≤ most_answer_rows
  pub behind : IsSource source
  pub columns : cutter.at < cutter.batch.rows →
      AnsweredAs (schema_behind source) cutter.batch.columns
