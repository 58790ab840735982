-- Batches over their own texts, after the messages of these.
use Rattle.std.specs.Prelude.{◌≡◌, ◌≤◌, ℕ, ◌+◌, false, List, [], ◌∷◌, All, length, map, Ok}
use Rattle.std.specs.List.{AllZip}
use Rattle.arrow_types.specs.declared.data_type.IntegerType.TheVariants.{Int32}
use Rattle.arrow_types.specs.declared.data_type.DataType.{DataType}
use Rattle.arrow_types.specs.declared.data_type.DataType.TheVariants.{Dictionary}
use Rattle.arrow_types.specs.declared.schema.Field.{Field}
use Rattle.arrow_types.specs.declared.schema.Schema.{Schema}
use Rattle.arrow_schema.specs.Header.{MessageAt, message_of, body_length_of}
use Rattle.arrays.specs.declared.layout.Layout.{Layout}
use Rattle.arrays.specs.declared.layout.Layout.TheVariants as layout
use Rattle.arrays.specs.Batch.{BatchAt, rows_of}
use Rattle.arrays.specs.Column.{ColumnAt}
use Rattle.arrays.specs.Firsts.{firsts}
use Rattle.arrays.specs.Texts.{texts_values}
use Rattle.arrays.specs.TypedLayouts.{IsOfType}
use Rattle.dictionary_answers.specs.Answer.{AreAnswered}
use Rattle.dictionary_answers.specs.declared.batches.ColumnDictionary.{ColumnDictionary}
use Rattle.ipc_batch.specs.SaidRows.{Sent}
use Rattle.ipc_batch.specs.WrittenMessages.{body_length, most_header_bytes, values_batch, SaysBatch}
use Rattle.ipc_batch.specs.WrittenMessages.{SaysValues}
use Rattle.ipc_batch.specs.MessageView.{written_seen}
use Rattle.ipc_batch.specs.DressedBatches.{cells_in, coded_from, SaysWhole, AddsRows}
use Rattle.dictionary_answers.specs.Lengths.{bodies_length, dressed_length}
use Rattle.dictionary_answers.specs.declared.dressed_batch.DressedBatch.{DressedBatch}

-- the id of a dictionary is the number of its column, and its indices have 32 bits
abbrev pub IsNumbered : ℕ → DataType → Type 0
IsNumbered number (Dictionary encoding) = (encoding.id ≡ number) × (encoding.index ≡ Int32)
IsNumbered number _ = Unit {0}

-- the same of each field, where the first has this number
abbrev pub AreNumbered : ℕ → List Field → Type 0
AreNumbered number [] = Unit {0}
AreNumbered number (field ∷ fields) =
    IsNumbered number field.data_type × AreNumbered (number + 1) fields

-- texts, as they are or by indices
abbrev pub IsTextLayout : Layout → Type 0
IsTextLayout (layout.Texts cells) = Unit {0}
IsTextLayout (layout.Indices cells) = Unit {0}
IsTextLayout _ = ⊥

-- a column that a dictionary may be made of holds texts, and any other is of its field's type
abbrev pub IsDressable : DataType → ColumnAt → Type 0
IsDressable (Dictionary encoding) column = IsTextLayout column.layout
IsDressable data_type column = IsOfType data_type column.layout

-- the same of one column for each field
abbrev pub AreDressable : List Field → List ColumnAt → Type 0
AreDressable [] [] = Unit {0}
AreDressable (field ∷ fields) (column ∷ columns) =
    IsDressable field.data_type column × AreDressable fields columns
AreDressable _ _ = ⊥

-- the header of a message claims all of its body
pub record ClaimsAll (sent : Sent) : Type 0 where
  pub message : MessageAt
  pub found : message_of sent.header ≡ Ok message
  pub claimed : body_length_of message ≡ Ok (length sent.body)

-- a message that is written of a dictionary says all of it, in a header and a body of so many bytes
pub record IsMessageOf (dictionary : ColumnDictionary) (sent : Sent) : Type 0 where
  pub said : SaysValues sent dictionary.number (texts_values dictionary.texts) false
  pub claims : ClaimsAll sent
  pub short : length sent.header ≤ most_header_bytes
  pub sized : length sent.body ≡ body_length (values_batch dictionary.texts)

-- The dictionaries say the texts of the rows, column by column, and what says the batch that was
-- made adds the rows to whoever has these. Its columns of dictionaries lie over these texts, with
-- the index 0 where a slot is null, and the others as they are. Together the bodies have no more
-- bytes than they may.
pub record IsDressedBatch (schema : Schema) (batch : BatchAt) (made : DressedBatch) : Type 0 where
  pub coded : AllZip
      (λ number sent. SaysWhole schema number (firsts (cells_in number (rows_of batch))) sent)
      (coded_from 0 schema.fields) (map written_seen made.dictionaries.items)
  pub adds : (sent : Sent) → SaysBatch sent made.batch → AddsRows schema (rows_of batch) sent
  pub claim : All ClaimsAll (map written_seen made.dictionaries.items)
  pub short : All (λ (sent : Sent). length sent.header ≤ most_header_bytes)
      (map written_seen made.dictionaries.items)
  pub sized : bodies_length (map written_seen made.dictionaries.items) + body_length made.batch
      ≤ dressed_length schema.fields batch.columns
  pub many : length made.batch.columns ≡ length batch.columns
  pub columns : AreAnswered schema.fields batch.columns made.batch.columns
