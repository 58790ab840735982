-- An info that is written is right, reads back, and fits a message.
use Rattle.std.proofs.Common.{◌≡◌, ℕ, ◌+◌, ◌*◌, ◌≤◌, negsuc, nat_le, Bool, true, false, List, [], ◌∷◌, ◌++◌, length, map, All, Some, Result, Ok, Err, refl, sym, ap, subst, ◌∙◌, arith, rules, length-append}
use Rattle.std.specs.Int.{w64, cast_unsigned}
use Rattle.std.proofs.lemmas.List.Elements.{All-nil, All-cons, All-head, All-tail}
use Rattle.byteorder.specs.Numbers.{length-bytes_high_first}
use Rattle.scan_base.specs.declared.fault.Fault.{Fault}
use Rattle.scan_base.specs.declared.fault.Fault.TheVariants.{LimitReached}
use Rattle.scan_base.specs.Limits.{most_message_bytes, most_query_bytes, most_request_bytes}
use Rattle.scan_base.specs.Lists.{each}
use Rattle.scan_base.specs.Reading.{◌>>=◌, demand}
use Rattle.endpoint_split.specs.Handle.{HandleAt, Query, Tables, handle_bytes, IsHandle}
use Rattle.endpoint_split.proofs.Tickets.{reads_back}
use Rattle.proto_wire.specs.Standard.{Entry}
use Rattle.proto_wire.specs.Calls.{varint_entry, chunk_entry}
use Rattle.proto_wire.specs.Writing.{field_spelling}
use Rattle.flight_proto.specs.Any.{any_bytes}
use Rattle.flight_proto.specs.Command.{command_of}
use Rattle.flight_proto.specs.FlightDescriptor.{DescriptorSaid, descriptor_of}
use Rattle.flight_proto.specs.FlightInfo.{EndpointSaid, InfoSaid, info_of, info_bytes, info_with, endpoint_field, totals}
use Rattle.flight_proto.specs.Laws.{IsEndpoint, IsInfo}
use Rattle.flight_proto.specs.Message.{bool_number, set_fields, spelled}
use Rattle.flight_proto.specs.Ticket.{handle_any, statement_ticket_bytes}
use Rattle.flight_proto.specs.InfoCommand.{InfoCommand, wanted_in, wanted_by}
use Rattle.flight_proto.specs.WrappedBytes.{wrapped_bytes}
use Rattle.flight_proto.proofs.InfoBack.{info_back}
use Rattle.flight_proto.proofs.ReadsBack.{fields_back, set_writable, chunk_writable, statement_ticket_back}
use Rattle.table_versions.specs.Database.{Database}
use Rattle.flight_info.specs.Payloads.{Payload}
use Rattle.flight_info.specs.inside.InfoParts.{ticket_bytes, text_in, Describes}
use Rattle.flight_info.specs.Infos.{endpoint_at, handle_asked, RightInfo}
use Rattle.flight_info.proofs.Sizes.{short_chunk, short_number, short_set}

-- ---- tickets

handle_len : (handle : HandleAt) → length (handle_bytes handle) ≤ 17 + length (text_in handle)
handle_len (Query version from to text) =
    omega (arith, length-bytes_high_first 8 version, length-bytes_high_first 4 from, length-bytes_high_first 4 to)
handle_len (Tables version) = omega (arith, length-bytes_high_first 8 version)

-- the bytes of what a ticket holds, over those of its handle
any_len : (handle : List ℕ) → length (any_bytes (handle_any handle)) ≤ 140 + length handle
any_len handle =
    let any = handle_any handle in
    let url = chunk_entry 1 any.type_url in
    let value = chunk_entry 2 (wrapped_bytes handle) in
    let inner = chunk_entry 1 handle in
    omega (
      arith,
      short_set (inner ∷ []),
      length-append (field_spelling inner) [],
      short_chunk 1 handle,
      short_set (url ∷ value ∷ []),
      length-append (field_spelling url) (spelled (value ∷ [])),
      length-append (field_spelling value) [],
      short_chunk 1 any.type_url,
      short_chunk 2 (wrapped_bytes handle),
    )

ticket_len : (handle : List ℕ) → length (statement_ticket_bytes handle) ≤ 160 + length handle
ticket_len handle =
    let outer = chunk_entry 1 (any_bytes (handle_any handle)) in
    omega (arith, any_len handle, short_set (outer ∷ []), length-append (field_spelling outer) [], short_chunk 1 (any_bytes (handle_any handle)))

-- as many bytes as a ticket has
abbrev most_ticket_bytes : ℕ
most_ticket_bytes = 17000

short_ticket : (handle : HandleAt) → length (text_in handle) ≤ most_query_bytes → length (ticket_bytes handle) ≤ most_ticket_bytes
short_ticket handle short = omega (arith, short, handle_len handle, ticket_len (handle_bytes handle))

-- a ticket reads back as its handle
ticket_back : (handle : HandleAt) → IsHandle handle → length (text_in handle) ≤ most_query_bytes → handle_asked (ticket_bytes handle) ≡ Ok handle
unfolding handle_asked
ticket_back handle is short = rw (statement_ticket_back (handle_bytes handle) (omega (arith, short, handle_len handle))) (reads_back handle is)

each_back : (handles : List HandleAt) → All IsHandle handles → All (λ (handle : HandleAt). length (text_in handle) ≤ most_query_bytes) handles → each handle_asked (map ticket_bytes handles) ≡ Ok handles
each_back [] is short = refl
each_back (handle ∷ handles) is short =
    let few = λ (handle : HandleAt). length (text_in handle) ≤ most_query_bytes in
    rw (ticket_back handle (All-head IsHandle handle handles is) (All-head few handle handles short), each_back handles (All-tail IsHandle handle handles is) (All-tail few handle handles short)) refl

-- ---- the endpoints

abbrev endpoint_of : List ℕ → EndpointSaid
endpoint_of ticket = record { ticket = ticket; has_location = false }

-- the tickets of endpoints are those that they were made of
tickets_same : (tickets : List (List ℕ)) → map (λ (endpoint : EndpointSaid). endpoint.ticket) (map endpoint_of tickets) ≡ tickets
tickets_same [] = refl
tickets_same (ticket ∷ tickets) = ap (λ more. ticket ∷ more) (tickets_same tickets)

-- the endpoints of handles are made of their tickets
endpoints_are : (handles : List HandleAt) → map endpoint_of (map ticket_bytes handles) ≡ map endpoint_at handles
endpoints_are [] = refl
endpoints_are (handle ∷ handles) = ap (λ more. endpoint_at handle ∷ more) (endpoints_are handles)

ticket_endpoint : (handle : HandleAt) → length (text_in handle) ≤ most_query_bytes → IsEndpoint (endpoint_of (ticket_bytes handle))
ticket_endpoint handle short =
    let bytes = any_bytes (handle_any (handle_bytes handle)) in
    let few : length bytes ≤ most_ticket_bytes = omega (arith, short, handle_len handle, any_len (handle_bytes handle)) in
    let fields = set_fields (chunk_entry 1 bytes ∷ []) in
    record {
      fits = omega (arith, short_ticket handle short);
      fields = fields;
      reads = fields_back fields (set_writable (chunk_entry 1 bytes ∷ []) (chunk_writable 1 bytes (omega arith, omega arith) (omega (arith, few)), tt));
      here = refl;
    }

endpoints_sound : (handles : List HandleAt) → All (λ (handle : HandleAt). length (text_in handle) ≤ most_query_bytes) handles → All IsEndpoint (map endpoint_of (map ticket_bytes handles))
endpoints_sound [] short = All-nil IsEndpoint
endpoints_sound (handle ∷ handles) short =
    let few = λ (handle : HandleAt). length (text_in handle) ≤ most_query_bytes in
    All-cons IsEndpoint (endpoint_of (ticket_bytes handle)) (map endpoint_of (map ticket_bytes handles)) (ticket_endpoint handle (All-head few handle handles short)) (endpoints_sound handles (All-tail few handle handles short))

-- ---- what is wanted

-- a payload that wants something is short, and a descriptor
pub record IsRequest (payload : Payload) : Type 0 where
  pub short : length payload ≤ most_request_bytes
  pub descriptor : DescriptorSaid
  pub reads : descriptor_of payload ≡ Ok descriptor

pub request_is : (payload : Payload) (wanted : InfoCommand) → wanted_in payload ≡ Ok wanted → IsRequest payload
unfolding wanted_in
request_is payload wanted e = by (nat_le (length payload) most_request_bytes) refl e
  where
    then : DescriptorSaid → Result InfoCommand Fault
    then descriptor = command_of (Some descriptor) >>= wanted_by

    read : (said : Result DescriptorSaid Fault) → descriptor_of payload ≡ said → length payload ≤ most_request_bytes → (said >>= then) ≡ Ok wanted → IsRequest payload
    read (Ok descriptor) is few e = record { short = few; descriptor = descriptor; reads = is }
    read (Err fault) is few e = absurd cc

    by : (few : Bool) → nat_le (length payload) most_request_bytes ≡ few → (demand few LimitReached >>= λ _. (descriptor_of payload >>= then)) ≡ Ok wanted → IsRequest payload
    by true is e = read (descriptor_of payload) refl (search (rules, is)) e
    by false is e = absurd cc

-- ---- the info

module _ (database : Database) (n parts : ℕ) (wanted : InfoCommand) (form : List ℕ) (tickets : List (List ℕ)) (told : Describes database n parts wanted form tickets)
    (payload : Payload) (asked : IsRequest payload) where
  abbrev made : InfoSaid
  made = info_with form payload tickets

  sound : IsInfo made
  sound = record {
    schema = omega (arith, told.small);
    fits = omega (arith, asked.short);
    descriptor = asked.descriptor;
    reads = asked.reads;
    endpoints = subst (λ (t : List (List ℕ)). All IsEndpoint (map endpoint_of t)) (sym told.written) (endpoints_sound told.handles told.short);
    records = search rules;
    bytes = search rules;
  }

  pub info_reads : info_of (info_bytes made) ≡ Ok made
  info_reads = info_back made sound

  pub info_right : RightInfo database n payload parts wanted made
  info_right = record {
    answer = told.answer;
    answers = told.answers;
    schema = told.schema;
    descriptor = refl;
    handles = told.handles;
    right = told.right;
    endpoints = ap (map endpoint_of) told.written ∙ endpoints_are told.handles;
    given = ap (each handle_asked) (tickets_same tickets ∙ told.written) ∙ each_back told.handles told.sound told.short;
    records = refl;
    bytes = refl;
    ordered = refl;
  }

  spelled_both : (one other : List Entry) → length (spelled (one ++ other)) ≡ length (spelled one) + length (spelled other)
  spelled_both [] other = omega arith
  spelled_both (entry ∷ one) other = omega (arith, spelled_both one other, length-append (field_spelling entry) (spelled (one ++ other)), length-append (field_spelling entry) (spelled one))

  endpoint_len : (handle : HandleAt) → length (text_in handle) ≤ most_query_bytes → length (field_spelling (endpoint_field (ticket_bytes handle))) ≤ 17100
  endpoint_len handle short =
      let ticket = chunk_entry 1 (ticket_bytes handle) in
      omega (arith, short_ticket handle short, short_chunk 1 (ticket_bytes handle), length-append (field_spelling ticket) [], short_chunk 3 (spelled (ticket ∷ [])))

  endpoints_len : (handles : List HandleAt) → All (λ (handle : HandleAt). length (text_in handle) ≤ most_query_bytes) handles
      → length (spelled (map (λ (endpoint : EndpointSaid). endpoint_field endpoint.ticket) (map endpoint_of (map ticket_bytes handles)))) ≤ 17100 * length handles
  endpoints_len [] short = omega arith
  endpoints_len (handle ∷ handles) short =
      let few = λ (handle : HandleAt). length (text_in handle) ≤ most_query_bytes in
      let rest = map (λ (endpoint : EndpointSaid). endpoint_field endpoint.ticket) (map endpoint_of (map ticket_bytes handles)) in
      omega (arith, endpoint_len handle (All-head few handle handles short), endpoints_len handles (All-tail few handle handles short), length-append (field_spelling (endpoint_field (ticket_bytes handle))) (spelled rest))

  totals_len : length (spelled (totals (negsuc 0) (negsuc 0) true)) ≤ 60
  totals_len =
      let records = varint_entry 4 (cast_unsigned w64 (negsuc 0)) in
      let bytes = varint_entry 5 (cast_unsigned w64 (negsuc 0)) in
      let ordered = varint_entry 6 (bool_number true) in
      omega (
        arith,
        short_set (records ∷ bytes ∷ ordered ∷ []),
        length-append (field_spelling records) (spelled (bytes ∷ ordered ∷ [])),
        length-append (field_spelling bytes) (spelled (ordered ∷ [])),
        length-append (field_spelling ordered) [],
        short_number 4 (cast_unsigned w64 (negsuc 0)),
        short_number 5 (cast_unsigned w64 (negsuc 0)),
        short_number 6 (bool_number true),
      )

  pub info_fits : length (info_bytes made) ≤ most_message_bytes
  unfolding info_bytes
  info_fits =
      let schema = chunk_entry 1 form in
      let descriptor = chunk_entry 2 payload in
      let listed : List (List ℕ) → List Entry = λ ticks. map (λ (endpoint : EndpointSaid). endpoint_field endpoint.ticket) (map endpoint_of ticks) in
      let last = totals (negsuc 0) (negsuc 0) true in
      let ends : length (spelled (listed tickets)) ≤ 17100 * length told.handles = subst (λ (t : List (List ℕ)). length (spelled (listed t)) ≤ 17100 * length told.handles) (sym told.written) (endpoints_len told.handles told.short) in
      omega (
        arith,
        told.small,
        told.few,
        asked.short,
        ends,
        totals_len,
        spelled_both (set_fields (schema ∷ [])) (descriptor ∷ (listed tickets ++ last)),
        length-append (field_spelling descriptor) (spelled (listed tickets ++ last)),
        spelled_both (listed tickets) last,
        short_set (schema ∷ []),
        length-append (field_spelling schema) [],
        short_chunk 1 form,
        short_chunk 2 payload,
      )
