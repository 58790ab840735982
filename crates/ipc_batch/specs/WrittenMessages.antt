-- How record batches and dictionaries are written, and what their messages then say. `WrittenParts`
-- has the tables and the body.
use Rattle.std.specs.Prelude.{◌≡◌, ℕ, ◌^◌, ◌≤◌, ◌<◌, Bool, List, [], ◌∷◌, ◌++◌, length, map, All}
use Rattle.std.specs.Prelude.{Some, None, nat_le, Result, Ok}
use Rattle.std.specs.List.{flat_map, list_any}
use Rattle.scan_base.specs.declared.fault.Fault.{Fault}
use Rattle.scan_base.specs.declared.fault.Fault.TheVariants.{BadBatch, LimitReached}
use Rattle.scan_base.specs.declared.value.Value.{Value}
use Rattle.scan_base.specs.Reading.{◌>>=◌, demand}
use Rattle.flatbuf.specs.Place.{TableAt}
use Rattle.arrow_types.specs.declared.schema.Field.{Field}
use Rattle.arrow_schema.specs.Header.{MessageAt, message_of, header_of, body_length_of}
use Rattle.scan_base.specs.Limits.{most_columns}
use Rattle.arrays.specs.declared.layout.Layout.TheVariants.{Texts}
use Rattle.arrays.specs.Texts.{TextsAt}
use Rattle.scan_base.specs.Limits.{most_values}
use Rattle.arrays.specs.Column.{ColumnAt, IsColumn, whole}
use Rattle.arrays.specs.Batch.{BatchAt, AreLong, rows_of}
use Rattle.arrays.specs.TypedLayouts.{AreOfTypes}
use Rattle.arrays.specs.Nulls.{null_count}
use Rattle.array_buffers.specs.ColumnBuffers.{IsLedBy, buffers_written as column_written}
use Rattle.ipc_batch.specs.declared.parts.FieldNode.{FieldNode}
use Rattle.ipc_batch.specs.Parts.{dictionary_parts}
use Rattle.ipc_batch.specs.Columns.{values_led_to}
use Rattle.ipc_batch.specs.State.{Known, Dictionaries, values_under, with_values}
use Rattle.ipc_batch.specs.SaidRows.{Sent, News, leads_to, kept_of, news_of}
pub use Rattle.ipc_batch.specs.WrittenParts.{WrittenParts, node_bytes, place_bytes, body_of}
pub use Rattle.ipc_batch.specs.WrittenParts.{places_from, FitsNode, most_buffers, FitParts}
pub use Rattle.ipc_batch.specs.WrittenParts.{SaysSame, PartsReadBack}
unfoldable pub use Rattle.ipc_batch.specs.WrittenParts.{parts_part, dictionary_batch_part}

-- ---- columns

-- how many slots a column has, and how many of them are null
abbrev pub node_written : ColumnAt → FieldNode
node_written column = record { length = column.len; null_count = null_count column }

-- the buffers of columns, one column's after another's
abbrev pub batch_buffers_written : List ColumnAt → List (List ℕ)
batch_buffers_written columns = flat_map column_written columns

-- what is written of a batch
abbrev pub parts_written : BatchAt → WrittenParts
parts_written batch = record {
  rows = batch.rows;
  nodes = map node_written batch.columns;
  buffers = batch_buffers_written batch.columns;
}

-- how many bytes the body of a batch has
abbrev pub body_length : BatchAt → ℕ
body_length batch = length (body_of (batch_buffers_written batch.columns))

-- a batch that can be written
pub record FitsBatch (batch : BatchAt) : Type 0 where
  pub rows : batch.rows < 2 ^ 64
  pub few : length batch.columns ≤ most_columns
  pub long : AreLong batch.rows batch.columns
  pub stand : All IsColumn batch.columns
  pub small : body_length batch < 2 ^ 31

-- the values of a dictionary, as the batch that is written of them: one column of texts
abbrev pub values_batch : TextsAt → BatchAt
values_batch values = record { columns = whole (Texts values) ∷ []; rows = values.len }

-- ---- messages

-- as many bytes as the header of a batch's message has
abbrev pub most_header_bytes : ℕ
most_header_bytes = 8192

-- a message says these parts, each of whose buffers lies at a multiple of 8, and claims all of its
-- body
pub record SaysParts (sent : Sent) (parts : WrittenParts) : Type 0 where
  pub message : MessageAt
  pub table : TableAt
  pub found : message_of sent.header ≡ Ok message
  pub header : header_of message ≡ Ok table
  pub claimed : body_length_of message ≡ Ok (length sent.body)
  pub same : SaysSame message table sent.body parts

-- Each column of indices is of the type of indices that its field says, and the id of its field
-- leads to the values into which the column leads. Under a null it may lead anywhere.
abbrev pub AreLedBy : List Field → Dictionaries → List ColumnAt → Type 0
AreLedBy (field ∷ fields) dictionaries (column ∷ columns) =
    IsLedBy field.data_type (values_led_to field.data_type dictionaries) column.layout column
    × AreLedBy fields dictionaries columns
AreLedBy _ _ _ = Unit {0}

-- After a schema of the types of a batch's columns, and dictionaries into which these lead, a
-- message says a batch with its rows.
abbrev pub SaysBatch : Sent → BatchAt → Type 0
SaysBatch sent batch = (known : Known) → AreOfTypes known.schema.fields batch.columns →
    AreLedBy known.schema.fields known.dictionaries batch.columns →
    (read : BatchAt)
    × (news_of (Some known) sent ≡ Ok (record { state = Some known; batch = Some read }))
    × (rows_of read ≡ rows_of batch)

-- a message says a dictionary of this id, whose values have these parts, and claims all of its body
pub record SaysDictionaryParts (sent : Sent) (id : ℕ) (parts : WrittenParts)
    (is_delta : Bool) : Type 0 where
  pub message : MessageAt
  pub table : TableAt
  pub found : message_of sent.header ≡ Ok message
  pub claimed : body_length_of message ≡ Ok (length sent.body)
  pub same : SaysSame message table sent.body parts
  pub said : dictionary_parts message sent.body ≡ Ok (record {
    id = id;
    parts = record { rows = parts.rows; nodes = parts.nodes; places = same.places };
    is_delta = is_delta;
  })

-- the values of an id with those that a message sends: after the old ones, or in their place
abbrev pub values_after : Dictionaries → ℕ → List Value → Bool → List Value
values_after dictionaries id values is_delta =
    kept_of is_delta (values_under dictionaries id) ++ values

-- What these values leave after. A field has to have the id, and there has to be room for all
-- values.
unfoldable pub dictionary_news : Known → ℕ → List Value → Bool → Result News Fault
dictionary_news known id values is_delta = do
  _ ← demand (list_any (leads_to id) known.schema.fields) BadBatch
  _ ← demand (nat_le (length (values_after known.dictionaries id values is_delta)) most_values)
      LimitReached
  Ok (record {
    state = Some (record known {
      dictionaries =
          with_values id (values_after known.dictionaries id values is_delta) known.dictionaries;
    });
    batch = None;
  })

-- after any schema a message says these values of a dictionary
abbrev pub SaysValues : Sent → ℕ → List Value → Bool → Type 0
SaysValues sent id values is_delta =
    (known : Known) → news_of (Some known) sent ≡ dictionary_news known id values is_delta
