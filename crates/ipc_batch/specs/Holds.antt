-- What lies in the body of a batch, in the words of Arrow's columnar format: which buffers are
-- whose, and what they hold, with no order of reading.
use Rattle.std.specs.Prelude.{◌≡◌, ◌≢◌, ◌≤◌, ℕ, ◌+◌, List, [], length, take, Option, Some, None, Ok}
use Rattle.std.specs.Prelude.{slice_get}
use Rattle.scan_base.specs.declared.value.Value.{Value}
use Rattle.flatbuf.specs.Layout.{Stands}
use Rattle.arrow_types.specs.declared.data_type.DataType.{DataType}
use Rattle.arrow_types.specs.declared.data_type.DataType.TheVariants.{Utf8, Dictionary}
use Rattle.arrow_types.specs.declared.schema.Field.{Field}
use Rattle.arrays.specs.declared.layout.Layout.{Layout}
use Rattle.arrays.specs.declared.layout.Layout.TheVariants.{Texts}
use Rattle.arrays.specs.Texts.{TextsAt, texts_of}
use Rattle.arrays.specs.Column.{ColumnAt, whole}
use Rattle.arrays.specs.Buffers.{values_layout}
use Rattle.ipc_batch.specs.declared.parts.FieldNode.{FieldNode}
use Rattle.ipc_batch.specs.declared.parts.BufferPlace.{BufferPlace}
use Rattle.ipc_batch.specs.Columns.{buffers_wanted}

-- what the columns of a batch have in common: how many slots each has, the body in which their
-- buffers lie, and the values of each dictionary, by its id
pub record BatchBody : Type 0 where
  pub rows : ℕ
  pub body : List ℕ
  pub dictionaries : ℕ → List Value

-- the bytes of a buffer stand in the body at its offset
pub record HasBuffer (body : List ℕ) (place : BufferPlace) (bytes : List ℕ) : Type 0 where
  pub stands : Stands bytes body place.offset
  pub long : length bytes ≡ place.length

-- a buffer that is there has these bytes
abbrev pub HasBytes : List ℕ → Option BufferPlace → List ℕ → Type 0
HasBytes body found bytes =
    (place : BufferPlace) × (found ≡ Some place) × HasBuffer body place bytes

-- A validity buffer lies within the body. It says which slots are null only where the node counts a
-- null.
abbrev pub HasValidity : List ℕ → FieldNode → BufferPlace → Option (List ℕ) → Type 0
HasValidity body node place None =
    (node.null_count ≡ 0) × (place.offset + place.length ≤ length body)
HasValidity body node place (Some bits) = (node.null_count ≢ 0) × HasBuffer body place bits

-- texts: after the validity are the offsets, and then the bytes
pub record HoldsTexts (source : BatchBody) (own : ℕ → Option BufferPlace) (bits : Option (List ℕ))
    (cells : TextsAt) : Type 0 where
  pub offsets : List ℕ
  pub cut : HasBytes source.body (own 1) offsets
  pub bytes : List ℕ
  pub text : HasBytes source.body (own 2) bytes
  pub slots : texts_of bits offsets bytes source.rows ≡ Ok cells

-- the values that a column's indices lead into
abbrev pub led_into : DataType → (ℕ → List Value) → List Value
led_into (Dictionary encoding) values = values encoding.id
led_into _ values = []

-- another type: after the validity are the values
pub record HoldsValues
    (source : BatchBody) (data_type : DataType) (own : ℕ → Option BufferPlace)
    (bits : Option (List ℕ)) (layout : Layout)
    : Type 0 where
  pub packed : List ℕ
  pub there : HasBytes source.body (own 1) packed
  pub slots : values_layout data_type
      (led_into data_type source.dictionaries) bits packed source.rows ≡ Ok layout

-- what stands after the validity
abbrev pub HoldsLayout : BatchBody → DataType → (ℕ → Option BufferPlace) → Option (List ℕ) →
    Layout → Type 0
HoldsLayout source Utf8 own bits layout =
    (cells : TextsAt) × (layout ≡ Texts cells) × HoldsTexts source own bits cells
HoldsLayout source data_type own bits layout = HoldsValues source data_type own bits layout

-- A column's node counts as many slots as the batch has rows. The first of its own buffers is its
-- validity.
pub record HoldsColumn
    (source : BatchBody) (data_type : DataType) (node : FieldNode) (own : ℕ → Option BufferPlace)
    (column : ColumnAt)
    : Type 0 where
  pub long : node.length ≡ source.rows
  pub validity : BufferPlace
  pub first : own 0 ≡ Some validity
  pub bits : Option (List ℕ)
  pub valid : HasValidity source.body node validity bits
  pub layout : Layout
  pub behind : HoldsLayout source data_type own bits layout
  pub whole_is : column ≡ whole layout

-- how many buffers stand in front of those of a column: as many as the columns before it have
abbrev pub buffers_before : List Field → ℕ → ℕ
buffers_before fields index = buffers_wanted (take index fields)

-- buffer k of the column of an index
abbrev pub own_buffer : List Field → List BufferPlace → ℕ → ℕ → Option BufferPlace
own_buffer fields places index k = slice_get places (buffers_before fields index + k)

-- there is a column for each field, and each is what its own node and buffers hold
pub record HoldsColumns
    (source : BatchBody) (fields : List Field) (nodes : List FieldNode) (places : List BufferPlace)
    (columns : List ColumnAt)
    : Type 0 where
  pub count : length columns ≡ length fields
  pub each : (index : ℕ) (field : Field) (node : FieldNode) (column : ColumnAt) →
      slice_get fields index ≡ Some field →
      slice_get nodes index ≡ Some node → slice_get columns index ≡ Some column →
      HoldsColumn source field.data_type node (own_buffer fields places index) column
