-- What a message brings to those who know what came before it, in the words of Arrow's
-- `Message.fbs`: the slots of its tables and the buffers of its body, with no order of reading.
use Rattle.std.specs.Prelude.{◌≡◌, ◌≢◌, ◌≤◌, ℕ, Bool, true, List, [], ◌∷◌, ◌++◌, length, Option}
use Rattle.std.specs.Prelude.{Some, None, slice_get}
use Rattle.std.specs.List.{list_any}
use Rattle.scan_base.specs.declared.value.Value.{Value}
use Rattle.scan_base.specs.Limits.{most_values}
use Rattle.flatbuf.specs.Layout.{TableAt, HasRoot, HasScalar, HasTable, HasStructs}
use Rattle.arrow_types.specs.declared.data_type.DataType.TheVariants.{Utf8}
use Rattle.arrow_types.specs.declared.schema.Schema.{Schema}
use Rattle.arrow_schema.specs.declared.header.HeaderKind.{HeaderKind}
use Rattle.arrow_schema.specs.declared.header.HeaderKind.TheVariants as kinds
use Rattle.arrow_schema.specs.Message.{kind_number}
use Rattle.arrow_schema.specs.TypeTables.{HasFlag}
use Rattle.arrow_schema.specs.Says.{SaysColumns}
use Rattle.arrays.specs.declared.layout.Layout.TheVariants.{Texts}
use Rattle.arrays.specs.Texts.{TextsAt, texts_values}
use Rattle.arrays.specs.Column.{whole}
use Rattle.arrays.specs.Batch.{BatchAt}
use Rattle.ipc_batch.specs.declared.parts.FieldNode.{FieldNode}
use Rattle.ipc_batch.specs.Parts.{PartsAt, nodes_in, places_in}
use Rattle.ipc_batch.specs.State.{Known, values_under}
use Rattle.ipc_batch.specs.Columns.{buffers_wanted}
use Rattle.ipc_batch.specs.Holds.{HoldsColumn, HoldsColumns}
use Rattle.ipc_batch.specs.SaidRows.{Sent, leads_to, kept_of}

-- ---- tables

-- A Message table of version V5 (4), whose header is of this kind. The body has at least as many
-- bytes as it claims.
pub record SaysMessage (sent : Sent) (kind : HeaderKind) (header : TableAt) : Type 0 where
  pub message : TableAt
  pub root : HasRoot sent.header message
  pub version : HasScalar 2 message 0 0 4
  pub kind_is : HasScalar 1 message 1 0 (kind_number kind)
  pub headed : HasTable message 2 (Some header)
  pub claimed : ℕ
  pub claims : HasScalar 8 message 3 0 claimed
  pub there : claimed ≤ length sent.body

-- a RecordBatch table: length, nodes and buffers, structs of 16 bytes each, and no compression
pub record SaysRecordBatch (table : TableAt) (parts : PartsAt) : Type 0 where
  pub rows : HasScalar 8 table 0 0 parts.rows
  pub nodes : List ℕ
  pub noded : HasStructs 16 table 1 (Some nodes)
  pub nodes_are : parts.nodes ≡ nodes_in nodes
  pub places : List ℕ
  pub placed : HasStructs 16 table 2 (Some places)
  pub places_are : parts.places ≡ places_in places
  pub plain : HasTable table 3 None

-- a DictionaryBatch table: id, the RecordBatch table of the values, isDelta
pub record SaysDictionaryBatch (table : TableAt) (id : ℕ) (values : TableAt)
    (is_delta : Bool) : Type 0 where
  pub identified : HasScalar 8 table 0 0 id
  pub valued : HasTable table 1 (Some values)
  pub delta : HasFlag table 2 is_delta

-- ---- messages

-- what messages leave after: the schema, and the values of each dictionary, by its id
pub record Context : Type 0 where
  pub schema : Schema
  pub dictionaries : ℕ → List Value

-- what is known of messages so far
abbrev pub context_of : Known → Context
context_of known = record { schema = known.schema; dictionaries = values_under known.dictionaries }

-- a record batch: a node for each field, as many buffers as their types have, and the columns that
-- they hold
pub record BringsBatch (context : Context) (sent : Sent) (batch : BatchAt) : Type 0 where
  pub header : TableAt
  pub message : SaysMessage sent kinds.RecordBatch header
  pub parts : PartsAt
  pub says : SaysRecordBatch header parts
  pub nodes : length parts.nodes ≡ length context.schema.fields
  pub buffers : length parts.places ≡ buffers_wanted context.schema.fields
  pub rows : batch.rows ≡ parts.rows
  pub columns : HoldsColumns
      (record { rows = parts.rows; body = sent.body; dictionaries = context.dictionaries })
      context.schema.fields parts.nodes parts.places batch.columns

-- this id has these values, and each other id those that it had
abbrev pub Sets : (ℕ → List Value) → ℕ → List Value → (ℕ → List Value) → Type 0
Sets before id values after =
    (after id ≡ values) × ((other : ℕ) → other ≢ id → after other ≡ before other)

-- A dictionary: an id that a field has, and one column of texts, with one node and three buffers.
-- They come after the values that the id had where it is a delta, and else in their place, and
-- there is room for all.
pub record BringsDictionary (context : Context) (sent : Sent) (after : Context) : Type 0 where
  pub header : TableAt
  pub message : SaysMessage sent kinds.DictionaryBatch header
  pub id : ℕ
  pub values : TableAt
  pub is_delta : Bool
  pub dictionary : SaysDictionaryBatch header id values is_delta
  pub wanted : list_any (leads_to id) context.schema.fields ≡ true
  pub parts : PartsAt
  pub says : SaysRecordBatch values parts
  pub node : FieldNode
  pub nodes : parts.nodes ≡ node ∷ []
  pub buffers : length parts.places ≡ 3
  pub cells : TextsAt
  pub texts : HoldsColumn
      (record { rows = parts.rows; body = sent.body; dictionaries = context.dictionaries })
      Utf8 node (slice_get parts.places) (whole (Texts cells))
  pub room : length (kept_of is_delta (context.dictionaries id) ++ texts_values cells) ≤ most_values
  pub schema : after.schema ≡ context.schema
  pub sets : Sets context.dictionaries id
      (kept_of is_delta (context.dictionaries id) ++ texts_values cells) after.dictionaries

-- a schema
pub record BringsSchema (sent : Sent) (schema : Schema) : Type 0 where
  pub header : TableAt
  pub message : SaysMessage sent kinds.Schema header
  pub columns : SaysColumns header schema

-- The first message brings a schema, and no dictionary has a value yet. Each other one brings a
-- batch, which leaves all as it is, or a dictionary.
abbrev pub Brings : Option Context → Sent → Option Context → Option BatchAt → Type 0
Brings None sent None batch = ⊥
Brings None sent (Some after) batch =
    BringsSchema sent after.schema × ((id : ℕ) → after.dictionaries id ≡ []) × (batch ≡ None)
Brings (Some context) sent None batch = ⊥
Brings (Some context) sent (Some after) None = BringsDictionary context sent after
Brings (Some context) sent (Some after) (Some batch) =
    BringsBatch context sent batch × (after ≡ context)
