-- Written messages may stand in a stream, and what they say.
use Rattle.std.proofs.Common.{◌≡◌, inl, ◌==◌, ◌<◌, ◌≤◌, ◌^◌, ℕ, List, [], ◌∷◌, ◌++◌, length, map, None, Some, Ok, refl, sym, ap, subst, ◌∙◌, arith}
use Rattle.std.specs.List.{range_with_len}
use Rattle.std.proofs.lemmas.List.{map-append, length-map}
use Rattle.std.proofs.lemmas.List.FromFn.{length-range_with_len}
use Rattle.scan_base.specs.Reading.{◌>>=◌, demand}
use Rattle.scan_base.specs.declared.fault.Fault.TheVariants.{UnsupportedArrow}
use Rattle.flatbuf.specs.Layout.{TableAt}
use Rattle.flatbuf.specs.Place.{root_of, scalar_of}
use Rattle.arrow_types.specs.declared.schema.Schema.{Schema}
use Rattle.arrow_types.specs.Schema.{IsSchema}
use Rattle.arrow_schema.specs.declared.header.HeaderKind.TheVariants as kinds
use Rattle.arrow_schema.specs.Header.{MessageAt, header_kind, message_of, body_length_of, schema_in, schema_message_of, schema_of}
use Rattle.arrow_schema.specs.WrittenHeader.{schema_part, schema_bytes}
use Rattle.arrow_schema.proofs.Messages.{messages_read}
use Rattle.arrow_schema.proofs.Again.{whole_schema, short_schema, schemas_read}
use Rattle.arrays.specs.Batch.{BatchAt, row_of, rows_of}
use Rattle.ipc_batch.specs.State.{Known}
use Rattle.ipc_batch.specs.Parts.{body_claimed}
use Rattle.ipc_batch.specs.SaidRows.{Sent, News, Rows, schema_sent, news_of, Follows, Says}
use Rattle.ipc_batch.specs.DressedBatches.{AreDressed}
use Rattle.ipc_batch.specs.WrittenMessages.{WrittenParts, SaysParts, most_header_bytes}
use Rattle.ipc_batch.proofs.Lengths.{fine, both}
use Rattle.ipc_batch.proofs.Messages.{joined}
use Rattle.ipc_batch.proofs.Dressing.{dressed_say}
use Rattle.ipc_stream.specs.declared.message.IpcMessage.{IpcMessage}
use Rattle.ipc_stream.specs.Stream.{announced, frame, IsMessage}
use Rattle.row_stream.specs.Stream.{sent_in, HasShortBody}
use Rattle.row_stream.specs.inside.Frames.{SaysSchema}

-- the table of a message is the root of its buffer
root_found : (bytes : List ℕ) (message : MessageAt) → message_of bytes ≡ Ok message → root_of bytes ≡ Ok message.table
unfolding message_of
root_found bytes message e =
    let root = both (root_of bytes) (λ (table : TableAt). (do
      version ← scalar_of 2 table 0 0
      _ ← demand (version == 4) UnsupportedArrow
      kind ← scalar_of 1 table 1 0
      kind ← header_kind kind
      fine (let m : MessageAt = record { kind = kind; table = table } in m))) message e in
    let table = root.0 in
    let version = both (scalar_of 2 table 0 0) _ message root.2 in
    let right = both (demand (version.0 == 4) UnsupportedArrow) _ message version.2 in
    let number = both (scalar_of 1 table 1 0) _ message right.2 in
    let kind = both (header_kind number.0) _ message number.2 in
    let same : record { kind = kind.0; table = table } ≡ message = let last = kind.2 in cc in
    root.1 ∙ ap (λ (m : MessageAt). fine m.table) {x = record { kind = kind.0; table = table }} same

-- a header that is read so claims just its body
pub claims : (header body : List ℕ) (message : MessageAt) → message_of header ≡ Ok message → body_length_of message ≡ Ok (length body) → length header < 2 ^ 31 → length body < 2 ^ 63
    → IsMessage (record { header = header; body = body })
claims header body message found claimed short fits = record {
  claims = record { message = message; root = root_found header message found; claimed = claimed; fits = fits };
  fits = short;
}

-- the message of a schema
pub schema_fits : (schema : Schema) (header : List ℕ) → IsSchema schema → header ≡ schema_bytes schema → length header ≤ 2 ^ 15 → IsMessage (record { header = header; body = [] })
schema_fits schema header is e short =
    let part = short_schema schema is in
    let m = messages_read kinds.Schema (schema_part schema) 0 (whole_schema schema) (omega arith) (omega arith) in
    claims header [] m.message (ap message_of e ∙ m.found) m.body_length_again (omega arith) (omega arith)

pub schema_says : (schema : Schema) (header : List ℕ) → IsSchema schema → header ≡ schema_bytes schema → SaysSchema schema (record { header = header; body = [] })
unfolding schema_of schema_message_of schema_sent news_of body_claimed
schema_says schema header is e =
    let part = short_schema schema is in
    let m = messages_read kinds.Schema (schema_part schema) 0 (whole_schema schema) (omega arith) (omega arith) in
    let again = schemas_read schema is in
    let told : schema_in m.message ≡ Ok schema = rw (m.found, m.kind_again) at again in
    record { alone = refl; said = rw (e, m.found, m.kind_again, told, m.body_length_again) refl }

-- the message of a batch, by what its header says
pub batch_fits : (header body : List ℕ) (parts : WrittenParts) → SaysParts (record { header = header; body = body }) parts → length header ≤ most_header_bytes → length body < 2 ^ 31
    → IsMessage (record { header = header; body = body })
batch_fits header body parts says short small = claims header body says.message says.found says.claimed (omega (arith, short)) (omega (arith, small))

-- ---- what messages say

-- a schema alone says no rows
pub first_said : (message : IpcMessage) (schema : Schema) → SaysSchema schema (sent_in message) → Says (map sent_in (message ∷ [])) schema []
first_said message schema tells =
    let known : Known = record { schema = schema; dictionaries = [] } in
    let news : News = record { state = Some known; batch = None } in
    (known, refl, (news, [], tells.said, refl, (refl, refl)))

-- a batch more says its rows after the others
pub more_said : (front more : List IpcMessage) (schema : Schema) (rows new : Rows) → AreDressed schema (map sent_in more) new → Says (map sent_in front) schema rows → Says (map sent_in (front ++ more)) schema (rows ++ new)
more_said front more schema rows new dressed said =
    let known = said.0 in
    let all = dressed_say schema (map sent_in more) new dressed known said.1 in
    let follows : Follows None (map sent_in front ++ map sent_in more) (Some all.0) (rows ++ new) =
    joined None (map sent_in front) (map sent_in more) (Some known) (Some all.0) rows new said.2 all.2 in
    subst (λ (l : List Sent). Says l schema (rows ++ new)) (sym (map-append sent_in front more)) (all.0, all.1, follows)

-- ---- how long bodies are

-- that of a schema has no byte
pub schema_short : (message : IpcMessage) (schema : Schema) → SaysSchema schema (sent_in message) → HasShortBody schema message
schema_short message schema tells = inl (omega (arith, ap (λ (l : List ℕ). length l) tells.alone))

pub length-rows_of : (batch : BatchAt) → length (rows_of batch) ≡ batch.rows
length-rows_of batch = length-map (range_with_len 0 batch.rows) (row_of batch.columns) ∙ length-range_with_len 0 batch.rows

-- ---- a frame

-- what stands in front of a header, the header and the body
pub frame_parts : (message : IpcMessage) (header body : List ℕ) (len : ℕ) → record { header = header; body = body } ≡ message → len ≡ length header
    → announced len [] ++ (header ++ body) ≡ frame message
frame_parts message header body len is long = ap (λ (n : ℕ). announced n [] ++ (header ++ body)) long ∙ ap frame is
