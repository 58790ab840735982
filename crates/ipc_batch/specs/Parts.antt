-- What a RecordBatch table says before any type is looked at: how many rows there are, and the
-- nodes and buffers that the columns are made of. The first thing that is not so gives the fault,
-- in the order of the lines.
use Rattle.std.specs.Prelude.{ℕ, ◌+◌, ◌*◌, ◌/◌, ◌==◌, Bool, not, nat_le, List, length, map, take}
use Rattle.std.specs.Prelude.{drop, is_none, Result, Ok}
use Rattle.std.specs.List.{range_with_len}
use Rattle.byteorder.specs.Endian.{little_from}
use Rattle.scan_base.specs.declared.fault.Fault.{Fault}
use Rattle.scan_base.specs.declared.fault.Fault.TheVariants.{BadFlatbuffer, UnsupportedArrow}
use Rattle.scan_base.specs.declared.fault.Fault.TheVariants.{BadBatch}
use Rattle.scan_base.specs.Reading.{◌>>=◌, demand, wanted}
use Rattle.flatbuf.specs.Place.{TableAt, scalar_of, table_of, structs_of}
use Rattle.arrow_schema.specs.Header.{MessageAt, body_length_of, header_of, table_wanted}
use Rattle.ipc_batch.specs.declared.parts.FieldNode.{FieldNode}
use Rattle.ipc_batch.specs.declared.parts.BufferPlace.{BufferPlace}

-- the rows, a node for each column, and where each buffer lies in the body
pub record PartsAt : Type 0 where
  pub rows : ℕ
  pub nodes : List FieldNode
  pub places : List BufferPlace

-- the number in the eight bytes at a place, the lowest first
unfoldable pub word_at : List ℕ → ℕ → ℕ
word_at bytes at = little_from at 8 bytes

-- node j of packed structs, each of two numbers of eight bytes; a negative one reads as 2 ^ 63 or
-- more
abbrev pub node_at : List ℕ → ℕ → FieldNode
node_at structs j =
    record { length = word_at structs (16 * j); null_count = word_at structs (16 * j + 8) }

-- place j of packed structs, the same way
abbrev pub place_at : List ℕ → ℕ → BufferPlace
place_at structs j =
    record { offset = word_at structs (16 * j); length = word_at structs (16 * j + 8) }

-- how many there are
abbrev pub struct_count : List ℕ → ℕ
struct_count structs = length structs / 16

-- the nodes that packed structs are
abbrev pub nodes_in : List ℕ → List FieldNode
nodes_in structs = map (node_at structs) (range_with_len 0 (struct_count structs))

-- the places that packed structs are
abbrev pub places_in : List ℕ → List BufferPlace
places_in structs = map (place_at structs) (range_with_len 0 (struct_count structs))

-- the structs of a slot, which has to be there
unfoldable pub structs_wanted : TableAt → ℕ → Result (List ℕ) Fault
structs_wanted table slot = structs_of 16 table slot >>= λ found. wanted found BadFlatbuffer

-- whether a buffer lies within the body
abbrev pub lies_in : List ℕ → BufferPlace → Bool
lies_in body place = nat_le (place.offset + place.length) (length body)

-- a buffer lies within the body
abbrev pub placed_in : List ℕ → BufferPlace → Result (Unit {0}) Fault
placed_in body place = demand (lies_in body place) BadBatch

-- the bytes of a buffer
unfoldable pub buffer_at : List ℕ → BufferPlace → Result (List ℕ) Fault
buffer_at body place = placed_in body place >>= λ _. Ok (take place.length (drop place.offset body))

-- A message claims no longer body than it has. It may claim a shorter one, and that binds nothing
-- else.
unfoldable pub body_claimed : MessageAt → List ℕ → Result (Unit {0}) Fault
body_claimed message body =
    body_length_of message >>= λ claimed. demand (nat_le claimed (length body)) BadBatch

-- what a RecordBatch table of a message with this body says
unfoldable pub parts_of : MessageAt → TableAt → List ℕ → Result PartsAt Fault
parts_of message table body = do
  rows ← scalar_of 8 table 0 0
  nodes ← structs_wanted table 1
  places ← structs_wanted table 2
  compression ← table_of table 3
  _ ← demand (is_none compression) UnsupportedArrow
  _ ← body_claimed message body
  Ok (record { rows = rows; nodes = nodes_in nodes; places = places_in places })

-- what a DictionaryBatch table says: an id, the parts of its values, and whether they stand after
-- the old ones
pub record DictionaryParts : Type 0 where
  pub id : ℕ
  pub parts : PartsAt
  pub is_delta : Bool

-- what the DictionaryBatch table of a message with this body says
unfoldable pub dictionary_parts : MessageAt → List ℕ → Result DictionaryParts Fault
dictionary_parts message body = do
  table ← header_of message
  id ← scalar_of 8 table 0 0
  values ← table_wanted table 1
  delta ← scalar_of 1 table 2 0
  parts ← parts_of message values body
  Ok (record { id = id; parts = parts; is_delta = not (delta == 0) })
