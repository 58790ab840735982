-- What one message says, in the order in which it is read: the first thing that is not so gives the
-- fault.
use Rattle.std.specs.Prelude.{ℕ, ◌==◌, Bool, true, false, List, [], length, Option, Some, None}
use Rattle.std.specs.Prelude.{Result, Ok, Err}
use Rattle.std.specs.List.{list_any}
use Rattle.scan_base.specs.declared.fault.Fault.{Fault}
use Rattle.scan_base.specs.declared.fault.Fault.TheVariants.{BadBatch}
use Rattle.scan_base.specs.declared.value.Value.{Value}
use Rattle.scan_base.specs.Reading.{◌>>=◌, demand}
use Rattle.arrow_types.specs.declared.data_type.DataType.{DataType}
use Rattle.arrow_types.specs.declared.data_type.DataType.TheVariants.{Dictionary}
use Rattle.arrow_types.specs.declared.schema.Field.{Field}
use Rattle.arrow_types.specs.declared.schema.Schema.{Schema}
use Rattle.arrow_schema.specs.declared.header.HeaderKind.{HeaderKind}
use Rattle.arrow_schema.specs.declared.header.HeaderKind.TheVariants as header
use Rattle.arrow_schema.specs.Header.{MessageAt, message_of, header_of, schema_in}
use Rattle.arrays.specs.Dictionary.{extended_by}
use Rattle.arrays.specs.Batch.{BatchAt}
use Rattle.ipc_batch.specs.Parts.{PartsAt, DictionaryParts, body_claimed, parts_of}
use Rattle.ipc_batch.specs.Parts.{dictionary_parts}
use Rattle.ipc_batch.specs.Columns.{buffers_wanted, columns_from, counts_agree, columns_placed}
use Rattle.ipc_batch.specs.Columns.{one_texts}
use Rattle.ipc_batch.specs.State.{Known, State, values_under, with_values}

-- a message as it comes: its header and its body
pub record Sent : Type 0 where
  pub header : List ℕ
  pub body : List ℕ

-- what a message says: what it leaves after, and a batch or none
pub record News : Type 0 where
  pub state : State
  pub batch : Option BatchAt

-- the schema of a message
unfoldable pub schema_sent : MessageAt → List ℕ → Result Schema Fault
schema_sent message body =
    schema_in message >>= λ schema. body_claimed message body >>= λ _. Ok schema

-- the parts of a record batch: a node for each field, and the buffers of its type
unfoldable pub batch_parts : Known → MessageAt → List ℕ → Result PartsAt Fault
batch_parts known message body = do
  table ← header_of message
  parts ← parts_of message table body
  _ ← counts_agree (length known.schema.fields) (buffers_wanted known.schema.fields) parts
  Ok parts

-- the record batch of a message: its dictionary columns lead into the dictionaries as they now are
unfoldable pub batch_sent : Known → MessageAt → List ℕ → Result BatchAt Fault
batch_sent known message body = do
  parts ← batch_parts known message body
  columns ←
      columns_from known.schema.fields known.dictionaries parts.rows body parts.nodes parts.places
  Ok (record { columns = columns; rows = parts.rows })

-- whether a type's dictionary has this id
abbrev pub has_id : ℕ → DataType → Bool
has_id id (Dictionary encoding) = encoding.id == id
has_id id _ = false

-- whether a field's dictionary has this id
abbrev pub leads_to : ℕ → Field → Bool
leads_to id field = has_id id field.data_type

-- the parts of a dictionary: its id is one that a field has, and its values are one column of
-- texts, which has one node and three buffers
unfoldable pub dictionary_sent : Known → MessageAt → List ℕ → Result DictionaryParts Fault
dictionary_sent known message body = do
  sent ← dictionary_parts message body
  _ ← demand (list_any (leads_to sent.id) known.schema.fields) BadBatch
  _ ← counts_agree 1 3 sent.parts
  Ok sent

-- the values that stay of a dictionary
abbrev pub kept_of : Bool → List Value → List Value
kept_of true old = old
kept_of false old = []

-- What is known after a dictionary message. A delta puts its values after those that the dictionary
-- has. Any other sets them in their place.
unfoldable pub known_after : Known → MessageAt → List ℕ → Result Known Fault
known_after known message body = do
  sent ← dictionary_sent known message body
  texts ← one_texts sent.parts.rows body sent.parts.nodes sent.parts.places
  values ← extended_by (kept_of sent.is_delta (values_under known.dictionaries sent.id)) texts
  Ok (record known { dictionaries = with_values sent.id values known.dictionaries })

-- the schema of the first message; another kind there is F8
abbrev pub first_schema : HeaderKind → MessageAt → List ℕ → Result Schema Fault
first_schema header.Schema message body = schema_sent message body
first_schema _ message body = Err BadBatch

-- what a message after the schema says; a second schema is F8
abbrev pub next_news : HeaderKind → Known → MessageAt → List ℕ → Result News Fault
next_news header.RecordBatch known message body =
    batch_sent known message body
    >>= λ batch. Ok (record { state = Some known; batch = Some batch })
next_news header.DictionaryBatch known message body =
    known_after known message body >>= λ after. Ok (record { state = Some after; batch = None })
next_news header.Schema known message body = Err BadBatch

-- what a message says to a reader
abbrev pub news_in : State → MessageAt → List ℕ → Result News Fault
news_in None message body = do
  schema ← first_schema message.kind message body
  Ok (record { state = Some (record { schema = schema; dictionaries = [] }); batch = None })
news_in (Some known) message body = next_news message.kind known message body

-- what a message says, after those that left this after
unfoldable pub news_of : State → Sent → Result News Fault
news_of state sent = message_of sent.header >>= λ message. news_in state message sent.body

-- What is looked at of a message before anything grows or is cut: of a first one all that it says,
-- ..
abbrev pub first_glance : HeaderKind → MessageAt → List ℕ → Result (Unit {0}) Fault
first_glance kind message body = first_schema kind message body >>= λ _. Ok tt

-- .. of a record batch its parts, the length of each node and the place of each buffer, ..
abbrev pub batch_glance : Known → MessageAt → List ℕ → Result (Unit {0}) Fault
batch_glance known message body =
    batch_parts known message body >>= λ parts. columns_placed body parts

-- .. and of a dictionary its id too
abbrev pub dictionary_glance : Known → MessageAt → List ℕ → Result (Unit {0}) Fault
dictionary_glance known message body =
    dictionary_sent known message body >>= λ sent. columns_placed body sent.parts

-- the same of a message after the schema
abbrev pub next_glance : HeaderKind → Known → MessageAt → List ℕ → Result (Unit {0}) Fault
next_glance header.RecordBatch known message body = batch_glance known message body
next_glance header.DictionaryBatch known message body = dictionary_glance known message body
next_glance header.Schema known message body = Err BadBatch

-- the same of the message that comes next
abbrev pub glance_in : State → MessageAt → List ℕ → Result (Unit {0}) Fault
glance_in None message body = first_glance message.kind message body
glance_in (Some known) message body = next_glance message.kind known message body

-- what is refused of a message before anything grows or is cut
unfoldable pub glance_of : State → Sent → Result (Unit {0}) Fault
glance_of state sent = message_of sent.header >>= λ message. glance_in state message sent.body
