-- How the parts of a batch are written, whatever the types of its columns: the body that the
-- buffers make, and the tables that say where they lie.
use Rattle.std.specs.Prelude.{◌≡◌, ℕ, ◌+◌, ◌*◌, ◌^◌, ◌%◌, ◌≤◌, ◌<◌, Bool, List, [], ◌∷◌, ◌++◌}
use Rattle.std.specs.Prelude.{length, All, Ok}
use Rattle.std.specs.List.{flat_map}
use Rattle.scan_base.specs.Lists.{each}
use Rattle.flatbuf.specs.Place.{TableAt}
use Rattle.flatbuf.specs.Layout.{Stands}
use Rattle.flatbuf.specs.Block.{Part, Number, Offset, little, padded, table_part, structs_part}
use Rattle.flatbuf.specs.WrittenTables.{table_at}
use Rattle.arrow_schema.specs.Header.{MessageAt, body_length_of}
use Rattle.scan_base.specs.Limits.{most_columns}
use Rattle.arrow_schema.specs.TypeTables.{flag}
use Rattle.ipc_batch.specs.declared.parts.FieldNode.{FieldNode}
use Rattle.ipc_batch.specs.declared.parts.BufferPlace.{BufferPlace}
use Rattle.ipc_batch.specs.Parts.{parts_of, buffer_at}

-- the rows, a node for each column, and the bytes of each buffer
pub record WrittenParts : Type 0 where
  pub rows : ℕ
  pub nodes : List FieldNode
  pub buffers : List (List ℕ)

-- each is a struct of two numbers of eight bytes
abbrev pub node_bytes : FieldNode → List ℕ
node_bytes node = little 8 node.length ++ little 8 node.null_count

abbrev pub place_bytes : BufferPlace → List ℕ
place_bytes place = little 8 place.offset ++ little 8 place.length

-- the body: the buffers one after another, each with zeros after it up to a multiple of 8
abbrev pub body_of : List (List ℕ) → List ℕ
body_of buffers = flat_map padded buffers

-- where they lie in it, the first of them at a place
abbrev pub places_from : ℕ → List (List ℕ) → List BufferPlace
places_from at [] = []
places_from at (buffer ∷ more) =
    record { offset = at; length = length buffer } ∷ places_from (at + length (padded buffer)) more

-- the RecordBatch table
unfoldable pub parts_part : WrittenParts → Part
parts_part parts = table_part (Number parts.rows
    ∷ Offset (structs_part 16 (flat_map node_bytes parts.nodes))
    ∷ Offset (structs_part 16 (flat_map place_bytes (places_from 0 parts.buffers))) ∷ [])

-- the numbers of a node fit its eight bytes
pub record FitsNode (node : FieldNode) : Type 0 where
  pub long : node.length < 2 ^ 64
  pub counted : node.null_count < 2 ^ 64

-- the buffers of that many columns, each of at most three
abbrev pub most_buffers : ℕ
most_buffers = 3 * most_columns

-- the DictionaryBatch table: an id, the RecordBatch table of the values, and whether they stand
-- after the old ones
unfoldable pub dictionary_batch_part : ℕ → WrittenParts → Bool → Part
dictionary_batch_part id parts is_delta =
    table_part (Number id ∷ Offset (parts_part parts) ∷ Number (flag is_delta) ∷ [])

-- parts that can be written
pub record FitParts (parts : WrittenParts) : Type 0 where
  pub rows : parts.rows < 2 ^ 64
  pub nodes : All FitsNode parts.nodes
  pub few_nodes : length parts.nodes ≤ most_columns
  pub few_buffers : length parts.buffers ≤ most_buffers
  pub small : length (body_of parts.buffers) < 2 ^ 64

-- what a table says of parts in this body: the same rows and nodes, and places where these buffers
-- lie
pub record SaysSame (message : MessageAt) (table : TableAt) (body : List ℕ)
    (parts : WrittenParts) : Type 0 where
  pub places : List BufferPlace
  pub said : parts_of message table body
      ≡ Ok (record { rows = parts.rows; nodes = parts.nodes; places = places })
  pub buffers : each (buffer_at body) places ≡ Ok parts.buffers
  pub aligned : All (λ place. place.offset % 8 ≡ 0) places

-- Wherever the table stands in a message of that body's length, the parts are read again.
abbrev pub PartsReadBack : Type 0
PartsReadBack = (parts : WrittenParts) (message : MessageAt) (bytes : List ℕ) (place : ℕ) →
    FitParts parts → Stands (parts_part parts).bytes bytes place →
    body_length_of message ≡ Ok (length (body_of parts.buffers)) →
    SaysSame message (table_at bytes place (parts_part parts)) (body_of parts.buffers) parts
