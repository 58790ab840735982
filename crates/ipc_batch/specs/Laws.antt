-- What holds of all messages.
use Rattle.std.specs.Prelude.{◌≡◌, ◌≢◌, ◌↔◌, ◌≤◌, ◌<◌, ◌⊎◌, ◌^◌, ℕ, Bool, true, false, List, []}
use Rattle.std.specs.Prelude.{◌∷◌, ◌++◌, length, All, Option, Some, None, Result, Ok, Err}
use Rattle.std.specs.Prelude.{option_map}
use Rattle.std.specs.List.{list_any}
use Rattle.scan_base.specs.declared.fault.Fault.{Fault}
use Rattle.scan_base.specs.declared.fault.Fault.TheVariants.{BadBatch, OutOfMemory}
use Rattle.scan_base.specs.declared.value.Value.{Value}
use Rattle.flatbuf.specs.Layout.{IsBytes}
use Rattle.arrow_types.specs.declared.data_type.DataType.{DataType}
use Rattle.arrow_types.specs.declared.schema.Schema.{Schema}
use Rattle.arrow_schema.specs.Header.{MessageAt, body_length_of}
use Rattle.scan_base.specs.Limits.{most_values}
use Rattle.arrays.specs.Batch.{BatchAt}
use Rattle.arrays.specs.Column.{ColumnAt}
use Rattle.ipc_batch.specs.declared.parts.FieldNode.{FieldNode}
use Rattle.ipc_batch.specs.declared.parts.BufferPlace.{BufferPlace}
use Rattle.ipc_batch.specs.Parts.{placed_in, body_claimed}
use Rattle.ipc_batch.specs.Columns.{values_led_to}
use Rattle.ipc_batch.specs.Holds.{BatchBody, HoldsColumn}
use Rattle.ipc_batch.specs.State.{Known, State}
use Rattle.ipc_batch.specs.News.{Sent, News, has_id, leads_to, news_of, glance_of}
use Rattle.ipc_batch.specs.SaidRows.{Rows, rows_in, Follows, Says, Tells, AreWide}
use Rattle.ipc_batch.specs.Brings.{Context, context_of, Brings}
use Rattle.ipc_batch.specs.WrittenMessages.{values_after, SaysValues}

-- messages say at most one schema and one list of rows
abbrev pub SayOneThing : Type 0
SayOneThing = (messages : List Sent) (one other : Schema) (rows others : Rows) →
    Says messages one rows → Says messages other others → (one ≡ other) × (rows ≡ others)

-- the rows of messages between two states
pub record Between (start : State) (before behind : List Sent) (end : State)
    (rows : Rows) : Type 0 where
  pub middle : State
  pub first : Rows
  pub then : Rows
  pub before_says : Follows start before middle first
  pub behind_says : Follows middle behind end then
  pub whole : rows ≡ first ++ then

-- messages that stand one after another say the rows of both, the later ones from where the others
-- end
abbrev pub JoinRows : Type 0
JoinRows = (start : State) (before behind : List Sent) (end : State) (rows : Rows) →
    Follows start (before ++ behind) end rows ↔ Between start before behind end rows

-- each row that messages say has a value for each field of their schema
abbrev pub RowsFitSchema : Type 0
RowsFitSchema = (messages : List Sent) (schema : Schema) (rows : Rows) →
    Says messages schema rows → AreWide (length schema.fields) rows

-- An accepted message extends what was said by its batch's rows. A refused one, but for want of
-- memory, goes on from nothing that left this state after.
abbrev pub Extends : Result (Option BatchAt) Fault → State → Sent → State → Type 0
Extends (Ok batch) old sent new =
    (messages : List Sent) (rows : Rows) → Follows None messages old rows →
    Follows None (messages ++ (sent ∷ [])) new (rows ++ rows_in batch)
Extends (Err fault) old sent new = fault ≢ OutOfMemory →
    (messages : List Sent) (rows said : Rows) (end : State) → Follows None messages old rows →
    Follows None (messages ++ (sent ∷ [])) end said → ⊥

-- what a reader tells extends what was said
abbrev pub TellingExtends : Type 0
TellingExtends = (result : Result (Option BatchAt) Fault) (old : State) (sent : Sent)
    (new : State) → Tells result old sent new → Extends result old sent new

-- what is refused at a glance is what the message says
abbrev pub GlancesComeFirst : Type 0
GlancesComeFirst = (state : State) (sent : Sent) (fault : Fault) →
    glance_of state sent ≡ Err fault → news_of state sent ≡ Err fault

-- A negative number reads as 2 ^ 63 or more. A buffer of such an offset or length lies outside
-- every body that there is, and so does a body of such a length. A slot takes a bit at least, so
-- that a body of fewer than 2 ^ 60 bytes has no batch of so many rows, and no node of such a
-- length.
abbrev pub NegativesLieOutside : Type 0
NegativesLieOutside = (body : List ℕ) → length body < 2 ^ 63 →
    ((place : BufferPlace) → (2 ^ 63 ≤ place.offset) ⊎ (2 ^ 63 ≤ place.length) →
    placed_in body place ≡ Err BadBatch)
    × ((message : MessageAt) (claimed : ℕ) → body_length_of message ≡ Ok claimed →
    2 ^ 63 ≤ claimed → body_claimed message body ≡ Err BadBatch)
    × ((source : BatchBody) (data_type : DataType) (node : FieldNode) (own : ℕ → Option BufferPlace)
    (column : ColumnAt) →
    source.body ≡ body → length body < 2 ^ 60 → HoldsColumn source data_type node own column →
    (source.rows < 2 ^ 63) × (node.length < 2 ^ 63))

-- a message is read, and leaves after this, with dictionaries by their ids, and this batch or none
pub record IsReadAs (state : State) (sent : Sent) (after : Option Context)
    (batch : Option BatchAt) : Type 0 where
  pub news : News
  pub read : news_of state sent ≡ Ok news
  pub leaves : option_map context_of news.state ≡ after
  pub adds : news.batch ≡ batch

-- what is read of a message is just what it brings
abbrev pub ReadIsBrought : Type 0
ReadIsBrought = (state : State) (sent : Sent) (after : Option Context) (batch : Option BatchAt) →
    IsBytes sent.header →
    IsReadAs state sent after batch ↔ Brings (option_map context_of state) sent after batch

-- after one context, the messages bring these rows and leave that context after
abbrev pub BringRows : Option Context → List Sent → Option Context → Rows → Type 0
BringRows context [] end rows = (end ≡ context) × (rows ≡ [])
BringRows context (sent ∷ more) end rows =
    (after : Option Context) × (batch : Option BatchAt) × (others : Rows)
    × Brings context sent after batch
    × (rows ≡ rows_in batch ++ others) × BringRows after more end others

-- what messages say is just what they bring, one after another
abbrev pub SaidIsBrought : Type 0
SaidIsBrought = (messages : List Sent) (schema : Schema) (rows : Rows) →
    All (λ sent. IsBytes sent.header) messages → Says messages schema rows
    ↔ ((end : Context) × (end.schema ≡ schema) × BringRows None messages (Some end) rows)

-- What is known after a dictionary: the same schema. The indices of its id lead into these values,
-- and those of each other id to where they led.
pub record LeadInto (before : Known) (id : ℕ) (values : List Value) (after : Known) : Type 0 where
  pub schema : after.schema ≡ before.schema
  pub own : (data_type : DataType) → has_id id data_type ≡ true →
      values_led_to data_type after.dictionaries ≡ values
  pub others : (data_type : DataType) → has_id id data_type ≡ false →
      values_led_to data_type after.dictionaries ≡ values_led_to data_type before.dictionaries

-- Where a field has its id and there is room for its values, a dictionary adds no row: what
-- messages after it say, over these values, they all say together.
abbrev pub DictionariesReadBack : Type 0
DictionariesReadBack = (sent : Sent) (id : ℕ) (values : List Value) (is_delta : Bool) →
    SaysValues sent id values is_delta → (known : Known) →
    list_any (leads_to id) known.schema.fields ≡ true →
    length (values_after known.dictionaries id values is_delta) ≤ most_values →
    (after : Known) × LeadInto known id (values_after known.dictionaries id values is_delta) after
    × ((behind : List Sent) (end : State) (rows : Rows) → Follows (Some after) behind end rows →
    Follows (Some known) (sent ∷ behind) end rows)
