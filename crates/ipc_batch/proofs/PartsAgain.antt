-- Parts that were written are read again.
use Rattle.std.proofs.Common.{◌≡◌, ℕ, suc, ◌+◌, ◌*◌, ◌%◌, ◌^◌, ◌≤◌, ◌<◌, List, [], ◌∷◌, ◌++◌, length, map, None, Ok, refl, arith, ap, sym, ◌∙◌, append-nil, All}
use Rattle.std.specs.List.{flat_map, range_with_len}
use Rattle.std.specs.List.{AllByRecursion}
use Rattle.std.proofs.lemmas.List.{length-append}
use Rattle.std.proofs.lemmas.List.Elements.{All-nil, All-cons, recursion_from_All}
use Rattle.std.proofs.lemmas.Bool.{le-leb}
use Rattle.std.proofs.Math.Seq.{take-append_seam}
use Rattle.byteorder.specs.Endian.{little_from}
use Rattle.byteorder.specs.Numbers.{little_number-reads_back}
use Rattle.scan_base.specs.Lists.{each}
use Rattle.flatbuf.specs.Place.{TableAt, field_of, scalar_of}
use Rattle.flatbuf.specs.Layout.{Stands}
use Rattle.flatbuf.specs.Block.{IsWhole, Given, Number, Offset, given_at, AreWhole, little, padding, padded, structs_part, children, buffer_of}
use Rattle.flatbuf.specs.Fits.{FitsTable}
use Rattle.flatbuf.specs.WrittenTables.{table_at, LeadsToBlock, SlotReads}
use Rattle.flatbuf.proofs.Numbers.{little_from-at}
use Rattle.flatbuf.proofs.Standing.{stands_first, stands_then, stands_at, stands_drop, stands_within, length-little, length_padded}
use Rattle.flatbuf.proofs.Written.{table_reads}
use Rattle.flatbuf.proofs.Lengths.{whole_table, whole_structs, short_table, short_structs, fits_table}
use Rattle.flatbuf.proofs.Led.{led_structs, absent_table}
use Rattle.arrow_schema.specs.declared.header.HeaderKind.TheVariants.{RecordBatch}
use Rattle.arrow_schema.specs.Message.{message_part, message_bytes, MessageReads}
use Rattle.arrow_schema.proofs.Messages.{messages_read, short_message}
use Rattle.ipc_batch.specs.declared.parts.FieldNode.{FieldNode}
use Rattle.ipc_batch.specs.declared.parts.BufferPlace.{BufferPlace}
use Rattle.ipc_batch.specs.Parts.{word_at, node_at, place_at, nodes_in, places_in, struct_count, structs_wanted, buffer_at, body_claimed, parts_of}
use Rattle.ipc_batch.specs.SaidRows.{Sent}
use Rattle.ipc_batch.specs.WrittenMessages.{node_bytes, place_bytes, body_of, places_from, parts_part, WrittenParts, FitsNode, FitParts, PartsReadBack, SaysParts, most_header_bytes}

-- a number that stands at a place is the one that is read there
pub stands_word : (n : ℕ) (bytes : List ℕ) (at : ℕ) → n < 2 ^ 64 → Stands (little 8 n) bytes at → word_at bytes at ≡ n
unfolding word_at little
stands_word n bytes at small s =
    sym (little_from-at at 8 bytes) ∙ ap (little_from 0 8) (stands_drop (little 8 n) bytes at s) ∙ little_number-reads_back 8 n s.after small

length-pair : (a b : ℕ) → length (little 8 a ++ little 8 b) ≡ 16
length-pair a b =
    let e = length-append (little 8 a) (little 8 b) in
    let f = length-little 8 a in
    let g = length-little 8 b in
    omega arith

-- the two numbers of a struct, and where the next one begins
pair_reads : (a b : ℕ) (rest bytes : List ℕ) (j : ℕ) → a < 2 ^ 64 → b < 2 ^ 64 → Stands ((little 8 a ++ little 8 b) ++ rest) bytes (16 * j) →
    (word_at bytes (16 * j) ≡ a) × (word_at bytes (16 * j + 8) ≡ b) × Stands rest bytes (16 * (j + 1))
pair_reads a b rest bytes j small low s =
    let pair = little 8 a ++ little 8 b in
    let s1 = stands_first pair rest bytes (16 * j) s in
    let f = length-little 8 a in
    let s2 = stands_at (little 8 b) bytes (16 * j + length (little 8 a)) (16 * j + 8) (omega arith) (stands_then (little 8 a) (little 8 b) bytes (16 * j) s1) in
    let l = length-pair a b in (
      stands_word a bytes (16 * j) small (stands_first (little 8 a) (little 8 b) bytes (16 * j) s1),
      stands_word b bytes (16 * j + 8) low s2,
      stands_at rest bytes (16 * j + length pair) (16 * (j + 1)) (omega arith) (stands_then pair rest bytes (16 * j) s),
    )

nodes_again : (nodes : List FieldNode) (bytes : List ℕ) (j : ℕ) → AllByRecursion FitsNode nodes → Stands (flat_map node_bytes nodes) bytes (16 * j) →
    map (node_at bytes) (range_with_len j (length nodes)) ≡ nodes
nodes_again [] bytes j fit s = refl
nodes_again (node ∷ more) bytes j fit s =
    let r = pair_reads node.length node.null_count (flat_map node_bytes more) bytes j fit.0.long fit.0.counted s in
    rw (r.0, r.1, nodes_again more bytes (j + 1) fit.1 r.2) refl

-- the places' numbers fit their eight bytes
abbrev FitsPlace : BufferPlace → Type 0
FitsPlace place = (place.offset < 2 ^ 64) × (place.length < 2 ^ 64)

places_again : (places : List BufferPlace) (bytes : List ℕ) (j : ℕ) → AllByRecursion FitsPlace places → Stands (flat_map place_bytes places) bytes (16 * j) →
    map (place_at bytes) (range_with_len j (length places)) ≡ places
places_again [] bytes j fit s = refl
places_again (place ∷ more) bytes j fit s =
    let r = pair_reads place.offset place.length (flat_map place_bytes more) bytes j fit.0.0 fit.0.1 s in
    rw (r.0, r.1, places_again more bytes (j + 1) fit.1 r.2) refl

pub length-nodes : (nodes : List FieldNode) → length (flat_map node_bytes nodes) ≡ 16 * length nodes
length-nodes [] = omega arith
length-nodes (node ∷ more) =
    let ih = length-nodes more in
    let a = length-append (node_bytes node) (flat_map node_bytes more) in
    let b = length-pair node.length node.null_count in
    omega arith

pub length-places : (places : List BufferPlace) → length (flat_map place_bytes places) ≡ 16 * length places
length-places [] = omega arith
length-places (place ∷ more) =
    let ih = length-places more in
    let a = length-append (place_bytes place) (flat_map place_bytes more) in
    let b = length-pair place.offset place.length in
    omega arith

pub length-places_from : (at : ℕ) (buffers : List (List ℕ)) → length (places_from at buffers) ≡ length buffers
length-places_from at [] = refl
length-places_from at (buffer ∷ more) = ap suc (length-places_from (at + length (padded buffer)) more)

-- a buffer is no longer with its zeros, and the body has them all
pub length-body : (buffer : List ℕ) (more : List (List ℕ)) → length (body_of (buffer ∷ more)) ≡ length (padded buffer) + length (body_of more)
length-body buffer more = length-append (padded buffer) (body_of more)

places_fit : (at : ℕ) (buffers : List (List ℕ)) → at + length (body_of buffers) < 2 ^ 64 → AllByRecursion FitsPlace (places_from at buffers)
places_fit at [] small = tt
places_fit at (buffer ∷ more) small =
    let a = length-body buffer more in
    let b = length-append buffer (padding (length buffer)) in
    ((omega arith, omega arith), places_fit (at + length (padded buffer)) more (omega arith))

-- the zeros bring each buffer to a multiple of 8
places_aligned : (at : ℕ) (buffers : List (List ℕ)) → at % 8 ≡ 0 → All (λ (place : BufferPlace). place.offset % 8 ≡ 0) (places_from at buffers)
places_aligned at [] even = All-nil (λ (place : BufferPlace). place.offset % 8 ≡ 0)
places_aligned at (buffer ∷ more) even =
    let a = length_padded buffer in
    All-cons (λ (place : BufferPlace). place.offset % 8 ≡ 0) (record { offset = at; length = length buffer }) (places_from (at + length (padded buffer)) more) even
    (places_aligned (at + length (padded buffer)) more (omega arith))

pub whole_body : (buffers : List (List ℕ)) → length (body_of buffers) % 8 ≡ 0
whole_body [] = refl
whole_body (buffer ∷ more) =
    let a = length-body buffer more in
    let b = length_padded buffer in
    let ih = whole_body more in
    omega arith

buffers_again : (buffers : List (List ℕ)) (body : List ℕ) (at : ℕ) → Stands (body_of buffers) body at → each (buffer_at body) (places_from at buffers) ≡ Ok buffers
unfolding buffer_at
buffers_again [] body at s = refl
buffers_again (buffer ∷ more) body at s =
    let s1 = stands_first buffer (padding (length buffer)) body at (stands_first (padded buffer) (body_of more) body at s) in
    let s2 = stands_then (padded buffer) (body_of more) body at s in
    let within = stands_within buffer body at s1 in
    rw (le-leb (at + length buffer) (length body) within, stands_drop buffer body at s1, take-append_seam buffer s1.after, buffers_again more body (at + length (padded buffer)) s2) refl

-- the structs of a slot
structs_again : (t : TableAt) (slot : ℕ) (structs : List ℕ) → length structs % 16 ≡ 0 → length structs < 2 ^ 32 → LeadsToBlock t slot (structs_part 16 structs) → structs_wanted t slot ≡ Ok structs
unfolding structs_wanted
structs_again t slot structs whole small led =
    let e = led_structs t slot 16 structs (record { some = omega arith; whole = whole; small = small }) led in
    rw (e.0) refl

-- the slots of a RecordBatch table, by its packed nodes and places
abbrev pub batch_slots : ℕ → List ℕ → List ℕ → List Given
batch_slots rows nodes places = Number rows ∷ Offset (structs_part 16 nodes) ∷ Offset (structs_part 16 places) ∷ []

length-batch_slots : (rows : ℕ) (nodes places : List ℕ) → length (children (batch_slots rows nodes places)) ≤ 30 + length nodes + length places
length-batch_slots rows nodes places =
    let a = short_structs 16 nodes in
    let b = short_structs 16 places in
    let c = length-append (structs_part 16 nodes).bytes ((structs_part 16 places).bytes ++ []) in
    let d = ap length (append-nil (structs_part 16 places).bytes) in
    omega arith

pub fits_batch : (rows : ℕ) (nodes places : List ℕ) → length nodes ≤ 2 ^ 20 → length places ≤ 2 ^ 20 → FitsTable (batch_slots rows nodes places)
fits_batch rows nodes places few less =
    let a = length-batch_slots rows nodes places in
    fits_table (batch_slots rows nodes places) (omega arith) (omega arith)

-- the packed nodes and places of parts
abbrev pub nodes_packed : WrittenParts → List ℕ
nodes_packed parts = flat_map node_bytes parts.nodes

abbrev pub places_packed : WrittenParts → List ℕ
places_packed parts = flat_map place_bytes (places_from 0 parts.buffers)

-- the slots of parts
abbrev pub parts_slots : WrittenParts → List Given
parts_slots parts = batch_slots parts.rows (nodes_packed parts) (places_packed parts)

pub length-nodes_packed : (parts : WrittenParts) → FitParts parts → (length (nodes_packed parts) ≡ 16 * length parts.nodes) × (length (nodes_packed parts) ≤ 2 ^ 20)
length-nodes_packed parts fit =
    let a = length-nodes parts.nodes in
    let few = fit.few_nodes in
    (a, omega arith)

pub length-places_packed : (parts : WrittenParts) → FitParts parts → (length (places_packed parts) ≡ 16 * length parts.buffers) × (length (places_packed parts) ≤ 2 ^ 20)
length-places_packed parts fit =
    let b = length-places (places_from 0 parts.buffers) in
    let c = length-places_from 0 parts.buffers in
    let few = fit.few_buffers in
    (omega arith, omega arith)

whole_parts : (parts : WrittenParts) → AreWhole (parts_slots parts)
whole_parts parts = (whole_structs 16 (nodes_packed parts), (whole_structs 16 (places_packed parts), tt))

fits_parts : (parts : WrittenParts) → FitParts parts → FitsTable (parts_slots parts)
fits_parts parts fit = fits_batch parts.rows (nodes_packed parts) (places_packed parts) (length-nodes_packed parts fit).1 (length-places_packed parts fit).1

-- each slot of the table of parts
parts_told : (parts : WrittenParts) (bytes : List ℕ) (place : ℕ) → FitParts parts → Stands (parts_part parts).bytes bytes place →
    (slot : ℕ) → SlotReads (table_at bytes place (parts_part parts)) slot (given_at (parts_slots parts) slot)
unfolding parts_part
parts_told parts bytes place fit s slot = table_reads (parts_slots parts) bytes place (fits_parts parts fit) (whole_parts parts) s slot

-- the places of the buffers are read again
pub places_read : (parts : WrittenParts) (bytes : List ℕ) (place : ℕ) → FitParts parts → Stands (parts_part parts).bytes bytes place →
    (structs_wanted (table_at bytes place (parts_part parts)) 2 ≡ Ok (places_packed parts)) × (places_in (places_packed parts) ≡ places_from 0 parts.buffers)
places_read parts bytes place fit s =
    let t = table_at bytes place (parts_part parts) in
    let places = places_from 0 parts.buffers in
    let packed = places_packed parts in
    let led : LeadsToBlock t 2 (structs_part 16 packed) = parts_told parts bytes place fit s 2 in
    let b = length-places_packed parts fit in
    let c = length-places_from 0 parts.buffers in
    let long = b.0 in
    let short = b.1 in
    let small = fit.small in
    let many : struct_count packed ≡ length places = omega arith in
    let self : Stands packed packed (16 * 0) = record { before = []; after = []; whole = sym (append-nil packed); place = refl } in
    (structs_again t 2 packed (omega arith) (omega arith) led, rw (many, places_again places packed 0 (places_fit 0 parts.buffers (omega arith)) self) refl)

-- and so are the nodes
nodes_read : (parts : WrittenParts) (bytes : List ℕ) (place : ℕ) → FitParts parts → Stands (parts_part parts).bytes bytes place →
    (structs_wanted (table_at bytes place (parts_part parts)) 1 ≡ Ok (nodes_packed parts)) × (nodes_in (nodes_packed parts) ≡ parts.nodes)
nodes_read parts bytes place fit s =
    let t = table_at bytes place (parts_part parts) in
    let packed = nodes_packed parts in
    let led : LeadsToBlock t 1 (structs_part 16 packed) = parts_told parts bytes place fit s 1 in
    let b = length-nodes_packed parts fit in
    let long = b.0 in
    let short = b.1 in
    let many : struct_count packed ≡ length parts.nodes = omega arith in
    let self : Stands packed packed (16 * 0) = record { before = []; after = []; whole = sym (append-nil packed); place = refl } in
    (structs_again t 1 packed (omega arith) (omega arith) led, rw (many, nodes_again parts.nodes packed 0 (recursion_from_All FitsNode parts.nodes fit.nodes) self) refl)

-- parts that were written are read again, whatever their types
pub parts_read : PartsReadBack
unfolding parts_of body_claimed
parts_read parts message bytes place fit s claimed =
    let body = body_of parts.buffers in
    let t = table_at bytes place (parts_part parts) in
    let told = parts_told parts bytes place fit s in
    let low = fit.rows in
    let rows : scalar_of 8 t 0 0 ≡ Ok parts.rows = told 0 8 0 (omega arith) (omega arith) in
    let none : field_of t 3 ≡ Ok None = told 3 in
    let nodes = nodes_read parts bytes place fit s in
    let places = places_read parts bytes place fit s in
    let self : Stands body body 0 = record { before = []; after = []; whole = sym (append-nil body); place = refl } in
    record {
      places = places_from 0 parts.buffers;
      said = rw (rows, nodes.0, places.0, absent_table t 3 none, claimed, le-leb (length body) (length body) (omega arith), places.1, nodes.1) refl;
      buffers = buffers_again parts.buffers body 0 self;
      aligned = places_aligned 0 parts.buffers refl;
    }

-- the table of parts, and with it the message, has few bytes
pub few_bytes : (parts : WrittenParts) → FitParts parts → length (parts_part parts).bytes ≤ 4176
unfolding parts_part
few_bytes parts fit =
    let slots = length-batch_slots parts.rows (nodes_packed parts) (places_packed parts) in
    let table = short_table (parts_slots parts) in
    let nodes = (length-nodes_packed parts fit).0 in
    let places = (length-places_packed parts fit).0 in
    let few_nodes = fit.few_nodes in
    let few_buffers = fit.few_buffers in
    omega arith

pub short_header : (parts : WrittenParts) (body : ℕ) → FitParts parts → length (message_bytes RecordBatch (parts_part parts) body) ≤ most_header_bytes
unfolding buffer_of
short_header parts body fit =
    let table = few_bytes parts fit in
    let part = message_part RecordBatch (parts_part parts) body in
    let message = short_message RecordBatch (parts_part parts) body in
    let all = length-append (little 8 (8 + part.root)) part.bytes in
    let front = length-little 8 (8 + part.root) in
    omega arith

pub short_parts : (parts : WrittenParts) → FitParts parts → length (parts_part parts).bytes < 2 ^ 29
short_parts parts fit = omega (arith, few_bytes parts fit)

pub is_whole : (parts : WrittenParts) → IsWhole (parts_part parts)
unfolding parts_part
is_whole parts = whole_table (parts_slots parts) (whole_parts parts)

-- the message of parts
pub message_reads : (parts : WrittenParts) → FitParts parts → MessageReads (message_bytes RecordBatch (parts_part parts) (length (body_of parts.buffers))) RecordBatch (parts_part parts) (length (body_of parts.buffers))
message_reads parts fit =
    let small = fit.small in
    messages_read RecordBatch (parts_part parts) (length (body_of parts.buffers)) (is_whole parts) (omega (arith, short_parts parts fit)) (omega arith)

abbrev pub message_written : WrittenParts → Sent
message_written parts = record { header = message_bytes RecordBatch (parts_part parts) (length (body_of parts.buffers)); body = body_of parts.buffers }

-- what the message of parts says
pub parts_said : (parts : WrittenParts) → FitParts parts → SaysParts (message_written parts) parts
parts_said parts fit =
    let bytes = message_bytes RecordBatch (parts_part parts) (length (body_of parts.buffers)) in
    let m = message_reads parts fit in
    record {
      message = m.message;
      table = table_at bytes m.place (parts_part parts);
      found = m.found;
      header = m.header_again;
      claimed = m.body_length_again;
      same = parts_read parts m.message bytes m.place fit m.stands m.body_length_again;
    }
