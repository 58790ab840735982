-- A flight info that is written reads back.
use Rattle.std.proofs.Common.{◌≡◌, ℕ, suc, ◌<◌, ◌==◌, ◌^◌, Bool, false, List, [], ◌∷◌, ◌++◌, length, map, Option, None, Result, Ok, Err, refl, sym, ap, ◌∙◌, arith, length-append, append-nil}
use Rattle.std.specs.Prelude.{All, filter_map, flat_map, unwrap_or}
use Rattle.std.specs.List.{last_or, cons_option}
use Rattle.std.specs.Int.{w64, cast_unsigned}
use Rattle.std.proofs.lemmas.List.Elements.{All-nil, All-cons, All-append, filter_map-append}
use Rattle.scan_base.specs.declared.fault.Fault.{Fault}
use Rattle.scan_base.specs.Lists.{each}
use Rattle.scan_base.specs.Reading.{◌>>=◌}
use Rattle.proto_wire.specs.Standard.{Content, Entry}
use Rattle.proto_wire.specs.Reading.{fields_of}
use Rattle.proto_wire.specs.Writing.{field_spelling, IsWritable}
use Rattle.proto_wire.specs.Calls.{varint_entry, chunk_entry}
use Rattle.flight_proto.specs.Lookup.{held, chunk_of, varint_of, chunks, varints, last_bytes, last_varint, joined, fields_of_parts, parts_in}
use Rattle.flight_proto.specs.Message.{bool_of, bool_number, int64_of, set_fields, spelled}
use Rattle.flight_proto.specs.FlightDescriptor.{descriptor_in}
use Rattle.flight_proto.specs.FlightInfo.{EndpointSaid, endpoint_of, endpoint_field, InfoSaid, info_of, info_bytes}
use Rattle.flight_proto.specs.Laws.{ReadsBack, IsEndpoint, IsInfo}
use Rattle.flight_proto.proofs.Kept.{kept_bytes, kept_varint, none_set}
use Rattle.flight_proto.proofs.ReadsBack.{fields_back, back, set_writable, chunk_writable, varint_writable, short, chunk_len, one_part, bool_same, bool_small, count_same, count_small}

-- ---- an endpoint

abbrev endpoint_fields : EndpointSaid → List Entry
endpoint_fields endpoint = chunk_entry 1 endpoint.ticket ∷ []

no_parts : fields_of_parts [] ≡ Ok []
unfolding fields_of_parts
no_parts = refl

abbrev endpoint_made : List ℕ → Bool → EndpointSaid
endpoint_made ticket has_location = record { ticket = ticket; has_location = has_location }

pub endpoint_back : (endpoint : EndpointSaid) → IsEndpoint endpoint → endpoint_of (spelled (endpoint_fields endpoint)) ≡ Ok endpoint
endpoint_back endpoint h =
    let writable = All-cons IsWritable (chunk_entry 1 endpoint.ticket) [] (chunk_writable 1 endpoint.ticket (omega arith, omega arith) (short endpoint.ticket h.fits)) (All-nil IsWritable) in
    rw (fields_back (endpoint_fields endpoint) writable, one_part endpoint.ticket, h.reads, no_parts) (by (endpoint.ticket ++ []) false (append-nil endpoint.ticket) (sym h.here))
  where
    by : (ticket : List ℕ) (has_location : Bool) → ticket ≡ endpoint.ticket → has_location ≡ endpoint.has_location
        → (let read : Result EndpointSaid Fault = Ok (endpoint_made ticket has_location) in read ≡ Ok endpoint)
    by ticket has_location a b = rw (a, b) refl

endpoint_len : (endpoint : EndpointSaid) → IsEndpoint endpoint → length (spelled (endpoint_fields endpoint)) < 2 ^ 64
endpoint_len endpoint h =
    omega (arith, h.fits, chunk_len 1 endpoint.ticket (omega arith, omega arith) (short endpoint.ticket h.fits), length-append (field_spelling (chunk_entry 1 endpoint.ticket)) [])

abbrev field_of : EndpointSaid → Entry
field_of endpoint = endpoint_field endpoint.ticket

endpoints_back : (endpoints : List EndpointSaid) → All IsEndpoint endpoints → each endpoint_of (chunks 3 (map field_of endpoints)) ≡ Ok endpoints
endpoints_back [] all = refl
endpoints_back (endpoint ∷ endpoints) all =
    rw (endpoint_back endpoint (all 0 endpoint (omega arith)), endpoints_back endpoints (λ k d lt. all (suc k) d (omega arith))) refl

endpoints_writable : (endpoints : List EndpointSaid) → All IsEndpoint endpoints → All IsWritable (map field_of endpoints)
endpoints_writable [] all = All-nil IsWritable
endpoints_writable (endpoint ∷ endpoints) all =
    All-cons IsWritable (field_of endpoint) (map field_of endpoints) (chunk_writable 3 (spelled (endpoint_fields endpoint)) (omega arith, omega arith) (endpoint_len endpoint (all 0 endpoint (omega arith))))
    (endpoints_writable endpoints (λ k d lt. all (suc k) d (omega arith)))

-- fields of another number than the endpoints'
other_fields : {A : Type 0} (of : Content → Option A) (number : ℕ) (endpoints : List EndpointSaid) → (3 == number) ≡ false → filter_map (held of number) (map field_of endpoints) ≡ []
other_fields of number [] other = refl
other_fields of number (endpoint ∷ endpoints) other = rw (other, other_fields of number endpoints other) refl

-- ---- an info

module _ (info : InfoSaid) (h : IsInfo info) where
  abbrev first : List Entry
  first = chunk_entry 1 info.schema ∷ []

  abbrev last : List Entry
  last =
      varint_entry 4 (cast_unsigned w64 info.total_records)
      ∷ varint_entry 5 (cast_unsigned w64 info.total_bytes)
      ∷ varint_entry 6 (bool_number info.ordered)
      ∷ []

  abbrev fields : List Entry
  fields = set_fields first ++ (chunk_entry 2 info.descriptor ∷ (map field_of info.endpoints ++ set_fields last))

  writable : All IsWritable fields
  writable =
      All-append IsWritable (set_fields first) (chunk_entry 2 info.descriptor ∷ (map field_of info.endpoints ++ set_fields last))
      (set_writable first (chunk_writable 1 info.schema (omega arith, omega arith) (short info.schema h.schema), tt))
      (All-cons IsWritable (chunk_entry 2 info.descriptor) (map field_of info.endpoints ++ set_fields last) (chunk_writable 2 info.descriptor (omega arith, omega arith) (short info.descriptor h.fits))
      (All-append IsWritable (map field_of info.endpoints) (set_fields last) (endpoints_writable info.endpoints h.endpoints)
      (set_writable last (
        varint_writable 4 (cast_unsigned w64 info.total_records) (omega arith, omega arith) (count_small info.total_records h.records),
        (
          varint_writable 5 (cast_unsigned w64 info.total_bytes) (omega arith, omega arith) (count_small info.total_bytes h.bytes),
          (varint_writable 6 (bool_number info.ordered) (omega arith, omega arith) (bool_small info.ordered), tt),
        ),
      ))))

  -- what is found, piece by piece
  found : {A : Type 0} (of : Content → Option A) (number : ℕ) → filter_map (held of number) fields
      ≡ filter_map (held of number) (set_fields first)
      ++ cons_option (held of number (chunk_entry 2 info.descriptor)) (filter_map (held of number) (map field_of info.endpoints) ++ filter_map (held of number) (set_fields last))
  found of number =
      filter_map-append (held of number) (set_fields first) (chunk_entry 2 info.descriptor ∷ (map field_of info.endpoints ++ set_fields last))
      ∙ ap (λ rest. filter_map (held of number) (set_fields first) ++ cons_option (held of number (chunk_entry 2 info.descriptor)) rest)
      (filter_map-append (held of number) (map field_of info.endpoints) (set_fields last))

  schema_found : last_bytes 1 fields ≡ info.schema
  schema_found =
      let all : chunks 1 fields ≡ chunks 1 (set_fields first) = found chunk_of 1 ∙ rw (other_fields chunk_of 1 info.endpoints refl, none_set chunk_of 1 last refl) (append-nil (chunks 1 (set_fields first))) in
      ap (λ (values : List (List ℕ)). unwrap_or (last_or None values) []) all ∙ kept_bytes 1 first refl

  descriptor_found : chunks 2 fields ≡ info.descriptor ∷ []
  descriptor_found = found chunk_of 2 ∙ rw (none_set chunk_of 2 first refl, other_fields chunk_of 2 info.endpoints refl, none_set chunk_of 2 last refl) refl

  endpoints_found : chunks 3 fields ≡ chunks 3 (map field_of info.endpoints)
  endpoints_found = found chunk_of 3 ∙ rw (none_set chunk_of 3 first refl, none_set chunk_of 3 last refl) (append-nil (chunks 3 (map field_of info.endpoints)))

  -- a number is looked up among the last fields
  number_found : (number : ℕ) → varints number (set_fields first) ≡ [] → (2 == number) ≡ false → (3 == number) ≡ false → last_varint number fields ≡ last_varint number (set_fields last)
  number_found number none two three =
      let all : varints number fields ≡ varints number (set_fields last) = found varint_of number ∙ rw (none, two, other_fields varint_of number info.endpoints three) refl in
      ap (λ (values : List ℕ). unwrap_or (last_or None values) 0) all

  records_found : last_varint 4 fields ≡ cast_unsigned w64 info.total_records
  records_found = number_found 4 (none_set varint_of 4 first refl) refl refl ∙ kept_varint 4 last refl

  bytes_found : last_varint 5 fields ≡ cast_unsigned w64 info.total_bytes
  bytes_found = number_found 5 (none_set varint_of 5 first refl) refl refl ∙ kept_varint 5 last refl

  ordered_found : last_varint 6 fields ≡ bool_number info.ordered
  ordered_found = number_found 6 (none_set varint_of 6 first refl) refl refl ∙ kept_varint 6 last refl

  abbrev made : List ℕ → List ℕ → List EndpointSaid → ℕ → ℕ → ℕ → InfoSaid
  made schema descriptor endpoints records bytes ordered = record {
    schema = schema;
    descriptor = descriptor;
    endpoints = endpoints;
    total_records = int64_of records;
    total_bytes = int64_of bytes;
    ordered = bool_of ordered;
  }

  parts_said : (parts_in 2 fields >>= descriptor_in) ≡ Ok h.descriptor
  parts_said = ap (λ (values : List (List ℕ)). fields_of_parts values >>= descriptor_in) descriptor_found ∙ rw (one_part info.descriptor) h.reads

  descriptor_joined : joined 2 fields ≡ info.descriptor
  descriptor_joined = ap (λ (values : List (List ℕ)). flat_map (λ chunk. chunk) values) descriptor_found ∙ append-nil info.descriptor

  endpoints_said : each endpoint_of (chunks 3 fields) ≡ Ok info.endpoints
  endpoints_said = ap (each endpoint_of) endpoints_found ∙ endpoints_back info.endpoints h.endpoints

  -- the info of what was looked up
  said_by : (parts : Result (List Entry) Fault) (endpoints : Result (List EndpointSaid) Fault) (schema descriptor : List ℕ) (records bytes ordered : ℕ)
      → (parts >>= descriptor_in) ≡ Ok h.descriptor → endpoints ≡ Ok info.endpoints → schema ≡ info.schema → descriptor ≡ info.descriptor
      → records ≡ cast_unsigned w64 info.total_records → bytes ≡ cast_unsigned w64 info.total_bytes → ordered ≡ bool_number info.ordered
      → (parts >>= λ found. descriptor_in found >>= λ _. endpoints >>= λ listed. Ok (made schema descriptor listed records bytes ordered)) ≡ Ok info
  said_by (Ok found) endpoints schema descriptor records bytes ordered p e s d r b o =
      rw (p, e, s, d, r, b, o, count_same info.total_records h.records, count_same info.total_bytes h.bytes, bool_same info.ordered) refl
  said_by (Err fault) endpoints schema descriptor records bytes ordered p e s d r b o = absurd cc

  abbrev info_in : List Entry → Result InfoSaid Fault
  info_in found =
      parts_in 2 found >>= λ parts. descriptor_in parts >>= λ _. each endpoint_of (chunks 3 found) >>= λ endpoints.
      Ok (made (last_bytes 1 found) (joined 2 found) endpoints (last_varint 4 found) (last_varint 5 found) (last_varint 6 found))

  pub info_back_by : (fields_of (spelled fields) >>= info_in) ≡ Ok info
  info_back_by =
      back info_in fields info writable
      (said_by (parts_in 2 fields) (each endpoint_of (chunks 3 fields)) (last_bytes 1 fields) (joined 2 fields) (last_varint 4 fields) (last_varint 5 fields) (last_varint 6 fields)
      parts_said endpoints_said schema_found descriptor_joined records_found bytes_found ordered_found)

pub info_back : ReadsBack IsInfo info_of info_bytes
unfolding info_of info_bytes
info_back info h = info_back_by info h
