-- Inside: what the contracts of private functions see of values that own or borrow memory.
use Rattle.ipc_batch.specs.declared.parts.Parts.{Parts}
use Rattle.ipc_batch.specs.declared.parts.DictionaryMessage.{DictionaryMessage}
use Rattle.ipc_batch.specs.declared.columns.Front.{Front}
use Rattle.ipc_batch.specs.Parts.{PartsAt, DictionaryParts, nodes_in, places_in}
use Rattle.ipc_batch.specs.Columns.{FrontAt}

-- the parts of a batch, of packed nodes and places
abbrev pub parts_seen : Parts → PartsAt
parts_seen parts = record {
  rows = parts.rows;
  nodes = nodes_in parts.nodes.now;
  places = places_in parts.places.now;
}

-- a dictionary message
abbrev pub dictionary_message_seen : DictionaryMessage → DictionaryParts
dictionary_message_seen sent =
    record { id = sent.id; parts = parts_seen sent.parts; is_delta = sent.is_delta }

-- the layout at the front, and the places after it
abbrev pub front_seen : Front → FrontAt
front_seen front = record { layout = front.layout; behind = front.behind.now }
