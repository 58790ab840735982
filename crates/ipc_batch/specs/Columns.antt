-- The columns of a record batch: nodes and buffers stand in the order of the fields.
use Rattle.std.specs.Prelude.{ℕ, ◌==◌, ◌&&◌, List, [], ◌∷◌, length, Option, Some, None, Result, Ok}
use Rattle.std.specs.Prelude.{Err, if◌then◌else◌}
use Rattle.std.specs.Prelude.{sum_by}
use Rattle.std.specs.List.{list_all}
use Rattle.scan_base.specs.declared.fault.Fault.{Fault}
use Rattle.scan_base.specs.declared.fault.Fault.TheVariants.{BadBatch}
use Rattle.scan_base.specs.declared.value.Value.{Value}
use Rattle.scan_base.specs.Reading.{◌>>=◌, demand}
use Rattle.arrow_types.specs.declared.data_type.DataType.{DataType}
use Rattle.arrow_types.specs.declared.data_type.DataType.TheVariants.{Utf8, Dictionary}
use Rattle.arrow_types.specs.declared.schema.Field.{Field}
use Rattle.arrays.specs.declared.layout.Layout.{Layout}
use Rattle.arrays.specs.declared.layout.Layout.TheVariants.{Texts}
use Rattle.arrays.specs.Texts.{TextsAt, texts_of}
use Rattle.arrays.specs.Column.{ColumnAt, whole}
use Rattle.arrays.specs.Buffers.{buffer_count, values_layout}
use Rattle.ipc_batch.specs.declared.parts.FieldNode.{FieldNode}
use Rattle.ipc_batch.specs.declared.parts.BufferPlace.{BufferPlace}
use Rattle.ipc_batch.specs.Parts.{PartsAt, lies_in, placed_in, buffer_at}
use Rattle.ipc_batch.specs.State.{Dictionaries, values_under}

-- the layout at the front, and where the buffers after it lie
pub record FrontAt : Type 0 where
  pub layout : Layout
  pub behind : List BufferPlace

-- The validity bits of a column. Where its node counts no null there are none: the buffer is not
-- read, and yet lies within the body. A count of some nulls is not compared with the bits.
unfoldable pub validity_at : List ℕ → FieldNode → BufferPlace → Result (Option (List ℕ)) Fault
validity_at body node place =
    if node.null_count == 0 then (placed_in body place >>= λ _. Ok None)
    else (buffer_at body place >>= λ bits. Ok (Some bits))

-- the values that a column's indices lead into
abbrev pub values_led_to : DataType → Dictionaries → List Value
values_led_to (Dictionary encoding) dictionaries = values_under dictionaries encoding.id
values_led_to _ dictionaries = []

-- the texts whose validity bits, offsets and bytes lie in these buffers
unfoldable pub texts_in_buffers : ℕ → List ℕ → FieldNode → BufferPlace → BufferPlace → BufferPlace →
    Result TextsAt Fault
texts_in_buffers rows body node validity offsets bytes = do
  _ ← demand (node.length == rows) BadBatch
  bits ← validity_at body node validity
  cuts ← buffer_at body offsets
  text ← buffer_at body bytes
  texts_of bits cuts text rows

-- the values of another type whose validity bits and packed values lie in these buffers
unfoldable pub values_in_buffers :
    DataType → List Value → ℕ → List ℕ → FieldNode → BufferPlace → BufferPlace → Result Layout Fault
values_in_buffers data_type dictionary rows body node validity values = do
  _ ← demand (node.length == rows) BadBatch
  bits ← validity_at body node validity
  packed ← buffer_at body values
  values_layout data_type dictionary bits packed rows

-- a column of texts, over the buffers at the front
abbrev pub texts_front : ℕ → List ℕ → FieldNode → List BufferPlace → Result FrontAt Fault
texts_front rows body node (validity ∷ offsets ∷ bytes ∷ behind) =
    texts_in_buffers rows body node validity offsets bytes
    >>= λ cells. Ok (record { layout = Texts cells; behind = behind })
texts_front rows body node _ = Err BadBatch

-- a column of another type, over the buffers at the front
abbrev pub values_front : DataType → List Value → ℕ → List ℕ → FieldNode → List BufferPlace →
    Result FrontAt Fault
values_front data_type dictionary rows body node (validity ∷ values ∷ behind) =
    values_in_buffers data_type dictionary rows body node validity values >>=
    λ layout. Ok (record { layout = layout; behind = behind })
values_front data_type dictionary rows body node _ = Err BadBatch

-- the layout of a type, over the buffers at the front
unfoldable pub front_of : DataType → Dictionaries → ℕ → List ℕ → FieldNode → List BufferPlace →
    Result FrontAt Fault
front_of Utf8 dictionaries rows body node places = texts_front rows body node places
front_of data_type dictionaries rows body node places =
    values_front data_type (values_led_to data_type dictionaries) rows body node places

-- the columns of fields that have a node each, from the first on: of each its node, and then its
-- buffers
abbrev pub columns_from :
    List Field → Dictionaries → ℕ → List ℕ → List FieldNode → List BufferPlace →
    Result (List ColumnAt) Fault
columns_from [] dictionaries rows body nodes places = Ok []
columns_from (field ∷ fields) dictionaries rows body [] places = Err BadBatch
columns_from (field ∷ fields) dictionaries rows body (node ∷ nodes) places = do
  front ← front_of field.data_type dictionaries rows body node places
  others ← columns_from fields dictionaries rows body nodes front.behind
  Ok (whole front.layout ∷ others)

-- how many buffers the columns of these fields have
abbrev pub buffers_wanted : List Field → ℕ
buffers_wanted fields = sum_by (λ field. buffer_count field.data_type) fields

-- A batch has so many nodes and buffers, and none is left over. They are counted before any is
-- looked at.
unfoldable pub counts_agree : ℕ → ℕ → PartsAt → Result (Unit {0}) Fault
counts_agree nodes buffers parts = do
  _ ← demand (length parts.nodes == nodes) BadBatch
  demand (length parts.places == buffers) BadBatch

-- Each node has as many slots as there are rows, and each buffer lies within the body. Columns of
-- which this is not so are refused (F8), whatever else they hold: so it may be looked at before any
-- column is.
unfoldable pub columns_placed : List ℕ → PartsAt → Result (Unit {0}) Fault
columns_placed body parts =
    demand (list_all (λ node. node.length == parts.rows) parts.nodes
    && list_all (lies_in body) parts.places) BadBatch

-- the one column of texts that these nodes and buffers make
abbrev pub one_texts : ℕ → List ℕ → List FieldNode → List BufferPlace → Result TextsAt Fault
one_texts rows body (node ∷ []) (validity ∷ offsets ∷ bytes ∷ []) =
    texts_in_buffers rows body node validity offsets bytes
one_texts rows body _ _ = Err BadBatch
