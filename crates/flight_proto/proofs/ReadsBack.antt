-- What is written for each message reads back.
use Rattle.std.proofs.Common.{◌≡◌, ℕ, ◌+◌, ◌*◌, ◌<◌, ◌≤◌, ◌==◌, ◌^◌, ℤ, Bool, true, false, List, [], ◌∷◌, ◌++◌, length, Option, Some, None, Result, Ok, Err, refl, ap, ◌∙◌, arith, rules, length-append, append-nil, if◌then◌else◌}
use Rattle.std.specs.Prelude.{All, IfSome, ◌&&◌}
use Rattle.std.specs.List.{AllByRecursion}
use Rattle.std.specs.Int.{w64, cast_signed, cast_unsigned}
use Rattle.std.specs.Str.{is_utf8}
use Rattle.std.proofs.Math.Facts.{Fits-of_z}
use Rattle.std.proofs.lemmas.Int.{to_z-of_z}
use Rattle.std.proofs.lemmas.List.Elements.{All-nil, All-cons}
use lib.Utf8.{encode}
use Rattle.std.proofs.lemmas.Str.{is_utf8-from_IsUtf8}
use Rattle.scan_base.specs.declared.fault.Fault.{Fault}
use Rattle.scan_base.specs.Reading.{◌>>=◌}
use Rattle.proto_wire.specs.Standard.{Entry, IsFieldNumber}
use Rattle.proto_wire.specs.Reading.{fields_of}
use Rattle.proto_wire.specs.Writing.{varint, body, field_spelling, IsWritable}
use Rattle.proto_wire.specs.Calls.{varint_entry, chunk_entry}
use Rattle.proto_wire.proofs.Lists.{list_law}
use Rattle.proto_wire.proofs.Written.{varint_is, spellings_are}
use Rattle.flight_proto.specs.Lookup.{chunk_of, chunks, last_bytes, last_text, last_varint, are_texts, fields_of_parts, embedded}
use Rattle.flight_proto.specs.Message.{enum_of, bool_of, bool_number, is_set, set_fields, embedded_field, spelled}
use Rattle.flight_proto.specs.Any.{AnySaid, any_of, any_bytes, type_url_of}
use Rattle.flight_proto.specs.FlightDescriptor.{DescriptorSaid, descriptor_in, descriptor_of, descriptor_fields, descriptor_bytes}
use Rattle.flight_proto.specs.FlightData.{DataSaid, data_of, data_bytes, stream_descriptor_of}
use Rattle.flight_proto.specs.PutResult.{update_of, update_bytes, rows_put_of, rows_put_bytes}
use Rattle.flight_proto.specs.StatementIngest.{OptionsSaid, options_in, options_of, options_fields, options_bytes, StatementSaid, statement_in, statement_of, statement_scalars, statement_bytes}
use Rattle.flight_proto.specs.WrappedBytes.{wrapped_of, wrapped_bytes}
use Rattle.flight_proto.specs.Ticket.{ticket_query_name, handle_any, statement_handle_of, statement_ticket_bytes}
use Rattle.flight_proto.specs.InfoCommand.{QuerySaid, query_of, query_bytes}
use Rattle.flight_proto.specs.Action.{ActionSaid, action_of, action_bytes}
use Rattle.flight_proto.specs.FlightInfo.{location_of}
use Rattle.flight_proto.specs.Laws.{FieldsReadBack, ReadsBack, FitsMemory, IsText, IsCount, IsAny, IsDescriptor, AreOptions, IsStatement, IsQuery, IsAction, DataReadsBack}
use Rattle.flight_proto.proofs.Kept.{kept_bytes, kept_varint, kept_texts, none_set, once, short_set}

-- ---- fields

pub fields_back : FieldsReadBack
fields_back fields writable = (list_law (spelled fields) fields).1 (spellings_are fields writable)

-- a message that its fields say
pub back : {A : Type 0} (said : List Entry → Result A Fault) → (fields : List Entry) (message : A) → All IsWritable fields → said fields ≡ Ok message → (fields_of (spelled fields) >>= said) ≡ Ok message
back said fields message writable e = rw (fields_back fields writable) e

-- the fields that are set can be written where all can
pub set_writable : (entries : List Entry) → AllByRecursion IsWritable entries → All IsWritable (set_fields entries)
set_writable [] all = All-nil IsWritable
set_writable (entry ∷ entries) all = by (is_set entry.content) (set_writable entries all.1)
  where
    by : (set : Bool) → All IsWritable (set_fields entries) → All IsWritable (if set then entry ∷ set_fields entries else set_fields entries)
    by true rest = All-cons IsWritable entry (set_fields entries) all.0 rest
    by false rest = rest

-- what memory has room for, the wire has
pub chunk_writable : (number : ℕ) (bytes : List ℕ) → IsFieldNumber number → length bytes < 2 ^ 64 → IsWritable (chunk_entry number bytes)
chunk_writable number bytes is_number fits = record { number_is = is_number; fits = fits }

pub varint_writable : (number value : ℕ) → IsFieldNumber number → value < 2 ^ 64 → IsWritable (varint_entry number value)
varint_writable number value is_number fits = record { number_is = is_number; fits = fits }

pub short : (bytes : List ℕ) → FitsMemory bytes → length bytes < 2 ^ 64
short bytes fits = omega arith

-- ---- the length of a field

varint_short : (n : ℕ) → n < 2 ^ 64 → length (varint n) ≤ 10
varint_short n small = (varint_is n small).short

pub chunk_len : (number : ℕ) (bytes : List ℕ) → IsFieldNumber number → length bytes < 2 ^ 64 → length (field_spelling (chunk_entry number bytes)) ≤ 20 + length bytes
unfolding field_spelling
chunk_len number bytes is_number fits =
    omega (
      arith,
      is_number.1,
      varint_short (8 * number + 2) (omega (arith, is_number.1)),
      varint_short (length bytes) fits,
      length-append (varint (8 * number + 2)) (varint (length bytes) ++ bytes),
      length-append (varint (length bytes)) bytes,
    )

varint_len : (number value : ℕ) → IsFieldNumber number → value < 2 ^ 64 → length (field_spelling (varint_entry number value)) ≤ 20
unfolding field_spelling
varint_len number value is_number fits =
    omega (
      arith,
      is_number.1,
      varint_short (8 * number + 0) (omega (arith, is_number.1)),
      varint_short value fits,
      length-append (varint (8 * number + 0)) (varint value),
    )

-- ---- scalars

-- a string that is looked up
text_back : (number : ℕ) (entries : List Entry) (text : List ℕ) → once number entries ≡ true → last_bytes number entries ≡ text → are_texts number entries ≡ (is_utf8 text && true) → IsText text
    → last_text number (set_fields entries) ≡ Ok text
text_back number entries text one bytes texts is =
    let all : are_texts number (set_fields entries) ≡ true = kept_texts number entries one ∙ texts ∙ rw (is_utf8-from_IsUtf8 text is.0) refl in
    rw (all, kept_bytes number entries one, bytes) refl

-- the low 32 bits of a number that has no more
enum_same : (value : ℕ) → value < 2 ^ 32 → enum_of value ≡ value
enum_same value small = omega arith

pub bool_same : (b : Bool) → bool_of (bool_number b) ≡ b
bool_same true = refl
bool_same false = refl

pub bool_small : (b : Bool) → bool_number b < 2 ^ 64
bool_small true = omega arith
bool_small false = omega arith

pub count_same : (count : ℤ) → IsCount count → cast_signed w64 (cast_unsigned w64 count) ≡ count
count_same count fits = to_z-of_z w64 count fits

pub count_small : (count : ℤ) → IsCount count → cast_unsigned w64 count < 2 ^ 64
count_small count fits = search (rules, Fits-of_z fits)

-- ---- messages of one chunk

chunk_back : (bytes : List ℕ) → length bytes < 2 ^ 64 → wrapped_of (wrapped_bytes bytes) ≡ Ok bytes
chunk_back bytes fits =
    let fields = chunk_entry 1 bytes ∷ [] in
    back (λ fields. Ok (last_bytes 1 fields)) (set_fields fields) bytes (set_writable fields (chunk_writable 1 bytes (omega arith, omega arith) fits, tt)) (ap Ok (kept_bytes 1 fields refl))

pub wrapped_back : ReadsBack FitsMemory wrapped_of wrapped_bytes
wrapped_back bytes fits = chunk_back bytes (short bytes fits)

-- and of one string
pub location_back : ReadsBack IsText location_of wrapped_bytes
location_back uri is =
    let fields = chunk_entry 1 uri ∷ [] in
    back (last_text 1) (set_fields fields) uri (set_writable fields (chunk_writable 1 uri (omega arith, omega arith) (short uri is.1), tt)) (text_back 1 fields uri refl refl refl is)

wrapped_len : (bytes : List ℕ) → length bytes < 2 ^ 64 → length (wrapped_bytes bytes) ≤ 20 + length bytes
wrapped_len bytes fits =
    omega (arith, short_set (chunk_entry 1 bytes ∷ []), chunk_len 1 bytes (omega arith, omega arith) fits, length-append (field_spelling (chunk_entry 1 bytes)) [])

-- ---- messages of a string and a chunk: Any, CommandStatementQuery and Action

module _ (text rest : List ℕ) (is : IsText text) (fits : length rest < 2 ^ 64) where
  abbrev two : List Entry
  two = chunk_entry 1 text ∷ chunk_entry 2 rest ∷ []

  two_back : {A : Type 0} (make : List ℕ → List ℕ → A) → (fields_of (spelled (set_fields two)) >>= λ fields. last_text 1 fields >>= λ first. Ok (make first (last_bytes 2 fields))) ≡ Ok (make text rest)
  two_back make =
      back (λ fields. last_text 1 fields >>= λ first. Ok (make first (last_bytes 2 fields))) (set_fields two) (make text rest)
      (set_writable two (chunk_writable 1 text (omega arith, omega arith) (short text is.1), (chunk_writable 2 rest (omega arith, omega arith) fits, tt)))
      (by (last_text 1 (set_fields two)) (last_bytes 2 (set_fields two)) (text_back 1 two text refl refl refl is) (kept_bytes 2 two refl))
    where
      by : (first : Result (List ℕ) Fault) (second : List ℕ) → first ≡ Ok text → second ≡ rest → (first >>= λ first. Ok (make first second)) ≡ Ok (make text rest)
      by first second a b = rw (a, b) refl

  two_len : length (spelled (set_fields two)) ≤ 40 + length text + length rest
  two_len =
      omega (
        arith,
        short_set two,
        chunk_len 1 text (omega arith, omega arith) (short text is.1),
        chunk_len 2 rest (omega arith, omega arith) fits,
        length-append (field_spelling (chunk_entry 1 text)) (spelled (chunk_entry 2 rest ∷ [])),
        length-append (field_spelling (chunk_entry 2 rest)) [],
      )

abbrev any_made : List ℕ → List ℕ → AnySaid
any_made url value = record { type_url = url; value = value }

pub any_back : ReadsBack IsAny any_of any_bytes
any_back any h = two_back any.type_url any.value h.0 (short any.value h.1) any_made

abbrev query_made : List ℕ → List ℕ → QuerySaid
query_made query id = record { query = query; transaction_id = id }

pub query_back : ReadsBack IsQuery query_of query_bytes
query_back said h = two_back said.query said.transaction_id h.0 (short said.transaction_id h.1) query_made

pub any_len : (any : AnySaid) → IsAny any → length (any_bytes any) ≤ 40 + length any.type_url + length any.value
any_len any h = two_len any.type_url any.value h.0 (short any.value h.1)

pub query_len : (said : QuerySaid) → IsQuery said → length (query_bytes said) ≤ 40 + length said.query + length said.transaction_id
query_len said h = two_len said.query said.transaction_id h.0 (short said.transaction_id h.1)

abbrev action_made : List ℕ → List ℕ → ActionSaid
action_made name body = record { action_type = name; body = body }

pub action_back : ReadsBack IsAction action_of action_bytes
action_back action h = two_back action.action_type action.body h.0 (short action.body h.1) action_made

-- ---- FlightDescriptor

abbrev descriptor_entries : DescriptorSaid → List Entry
descriptor_entries descriptor = varint_entry 1 descriptor.descriptor_type ∷ chunk_entry 2 descriptor.cmd ∷ []

descriptor_writable : (descriptor : DescriptorSaid) → IsDescriptor descriptor → All IsWritable (descriptor_fields descriptor)
descriptor_writable descriptor h =
    set_writable (descriptor_entries descriptor) (varint_writable 1 descriptor.descriptor_type (omega arith, omega arith) (omega (arith, h.0)), (chunk_writable 2 descriptor.cmd (omega arith, omega arith) (short descriptor.cmd h.1), tt))

abbrev descriptor_made : ℕ → List ℕ → DescriptorSaid
descriptor_made kind cmd = record { descriptor_type = enum_of kind; cmd = cmd }

descriptor_says : (descriptor : DescriptorSaid) → IsDescriptor descriptor → descriptor_in (descriptor_fields descriptor) ≡ Ok descriptor
descriptor_says descriptor h =
    by (last_text 3 (descriptor_fields descriptor)) (last_varint 1 (descriptor_fields descriptor)) (last_bytes 2 (descriptor_fields descriptor))
    no_path (kept_varint 1 (descriptor_entries descriptor) refl) (kept_bytes 2 (descriptor_entries descriptor) refl)
  where
    no_path : last_text 3 (descriptor_fields descriptor) ≡ Ok []
    no_path = let none = none_set chunk_of 3 (descriptor_entries descriptor) refl in rw none refl

    by : (path : Result (List ℕ) Fault) (kind : ℕ) (cmd : List ℕ) → path ≡ Ok [] → kind ≡ descriptor.descriptor_type → cmd ≡ descriptor.cmd
        → (path >>= λ _. Ok (descriptor_made kind cmd)) ≡ Ok descriptor
    by path kind cmd p k c = rw (p, k, c, enum_same descriptor.descriptor_type h.0) refl

pub descriptor_back : ReadsBack IsDescriptor descriptor_of descriptor_bytes
descriptor_back descriptor h = back descriptor_in (descriptor_fields descriptor) descriptor (descriptor_writable descriptor h) (descriptor_says descriptor h)

pub descriptor_len : (descriptor : DescriptorSaid) → IsDescriptor descriptor → length (descriptor_bytes descriptor) ≤ 40 + length descriptor.cmd
descriptor_len descriptor h =
    omega (
      arith,
      short_set (descriptor_entries descriptor),
      varint_len 1 descriptor.descriptor_type (omega arith, omega arith) (omega (arith, h.0)),
      chunk_len 2 descriptor.cmd (omega arith, omega arith) (short descriptor.cmd h.1),
      length-append (field_spelling (varint_entry 1 descriptor.descriptor_type)) (spelled (chunk_entry 2 descriptor.cmd ∷ [])),
      length-append (field_spelling (chunk_entry 2 descriptor.cmd)) [],
    )

-- ---- embedded messages

-- one part is the embedded message
pub one_part : (part : List ℕ) → fields_of_parts (part ∷ []) ≡ fields_of part
unfolding fields_of_parts
one_part part = by (fields_of part)
  where
    by : (read : Result (List Entry) Fault) → (read >>= λ first. Ok (first ++ [])) ≡ read
    by (Ok fields) = ap Ok (append-nil fields)
    by (Err fault) = refl

-- a message that stands in front of fields of other numbers
embedded_front : {A : Type 0} (said : List Entry → Result A Fault) → (number : ℕ) (part : List ℕ) (rest : List Entry) (message : A) → (number == number) ≡ true → chunks number rest ≡ []
    → (fields_of part >>= said) ≡ Ok message → embedded said number (chunk_entry number part ∷ rest) ≡ Ok (Some message)
embedded_front said number part rest message same none reads =
    rw (same, none, one_part part) (rw reads refl)

no_embedded : {A : Type 0} (said : List Entry → Result A Fault) → (number : ℕ) (fields : List Entry) → chunks number fields ≡ [] → embedded said number fields ≡ Ok None
no_embedded said number fields none = rw none refl

-- ---- FlightData

abbrev data_entries : DataSaid → List Entry
data_entries carried = chunk_entry 2 carried.data_header ∷ chunk_entry 1000 carried.data_body ∷ []

abbrev data_made : List ℕ → List ℕ → DataSaid
data_made header body = record { data_header = header; data_body = body }

-- what the scalars carry
abbrev data_in : List Entry → Result DataSaid Fault
data_in fields = Ok (data_made (last_bytes 2 fields) (last_bytes 1000 fields))

module _ (carried : DataSaid) (header : FitsMemory carried.data_header) (body : FitsMemory carried.data_body) where
  carried_writable : All IsWritable (set_fields (data_entries carried))
  carried_writable =
      set_writable (data_entries carried) (chunk_writable 2 carried.data_header (omega arith, omega arith) (short carried.data_header header), (chunk_writable 1000 carried.data_body (omega arith, omega arith) (short carried.data_body body), tt))

  same_header : last_bytes 2 (set_fields (data_entries carried)) ≡ carried.data_header
  same_header = kept_bytes 2 (data_entries carried) refl

  same_body : last_bytes 1000 (set_fields (data_entries carried)) ≡ carried.data_body
  same_body = kept_bytes 1000 (data_entries carried) refl

  no_descriptor : chunks 1 (set_fields (data_entries carried)) ≡ []
  no_descriptor = none_set chunk_of 1 (data_entries carried) refl

  carried_said : (fields : List Entry) → last_bytes 2 fields ≡ carried.data_header → last_bytes 1000 fields ≡ carried.data_body → data_in fields ≡ Ok carried
  carried_said fields a b = ap (λ (header : List ℕ). Ok (data_made header (last_bytes 1000 fields))) a ∙ ap (λ (body : List ℕ). Ok (data_made carried.data_header body)) b

  pub data_back_by : (descriptor : Option DescriptorSaid) → IfSome descriptor IsDescriptor
      → (stream_descriptor_of (data_bytes descriptor carried) ≡ Ok descriptor) × (data_of (data_bytes descriptor carried) ≡ Ok carried)
  data_back_by None h = (
    back (embedded descriptor_in 1) (set_fields (data_entries carried)) None carried_writable (no_embedded descriptor_in 1 (set_fields (data_entries carried)) no_descriptor),
    back data_in (set_fields (data_entries carried)) carried carried_writable (carried_said (set_fields (data_entries carried)) same_header same_body),
  )
  data_back_by (Some descriptor) h =
      let part = descriptor_bytes descriptor in
      let fields = chunk_entry 1 part ∷ set_fields (data_entries carried) in
      let writable = All-cons IsWritable (chunk_entry 1 part) (set_fields (data_entries carried)) (chunk_writable 1 part (omega arith, omega arith) (omega (arith, h.1, descriptor_len descriptor h))) carried_writable in (
        back (embedded descriptor_in 1) fields (Some descriptor) writable (embedded_front descriptor_in 1 part (set_fields (data_entries carried)) descriptor refl no_descriptor (descriptor_back descriptor h)),
        back data_in fields carried writable (carried_said fields same_header same_body),
      )

pub data_back : DataReadsBack
data_back descriptor carried h header body = data_back_by carried header body descriptor h

-- ---- DoPutUpdateResult and PutResult

pub update_back : ReadsBack IsCount update_of update_bytes
update_back count fits =
    let fields = varint_entry 1 (cast_unsigned w64 count) ∷ [] in
    back (λ fields. Ok (cast_signed w64 (last_varint 1 fields))) (set_fields fields) count (set_writable fields (varint_writable 1 (cast_unsigned w64 count) (omega arith, omega arith) (count_small count fits), tt))
    (ap (λ (value : ℕ). Ok (cast_signed w64 value)) (kept_varint 1 fields refl) ∙ ap Ok (count_same count fits))

update_len : (count : ℤ) → IsCount count → length (update_bytes count) ≤ 20
update_len count fits =
    omega (
      arith,
      short_set (varint_entry 1 (cast_unsigned w64 count) ∷ []),
      varint_len 1 (cast_unsigned w64 count) (omega arith, omega arith) (count_small count fits),
      length-append (field_spelling (varint_entry 1 (cast_unsigned w64 count))) [],
    )

pub rows_put_back : ReadsBack IsCount rows_put_of rows_put_bytes
rows_put_back rows fits = rw (chunk_back (update_bytes rows) (omega (arith, update_len rows fits))) (update_back rows fits)

-- ---- the ticket of a statement

url_is_text : IsText (type_url_of ticket_query_name)
unfolding encode
url_is_text = ((type_url_of ticket_query_name, (refl, refl)), omega arith)

pub statement_ticket_back : ReadsBack FitsMemory statement_handle_of statement_ticket_bytes
statement_ticket_back handle fits =
    let any = handle_any handle in
    let query = wrapped_len handle (short handle fits) in
    let long : length any.value < 2 ^ 64 = omega (arith, fits, query) in
    let held = two_len any.type_url any.value url_is_text long in
    let read : any_of (any_bytes any) ≡ Ok any = two_back any.type_url any.value url_is_text long any_made in
    rw (chunk_back (any_bytes any) (omega (arith, fits, query, held)), read, chunk_back handle (short handle fits)) refl

-- ---- TableDefinitionOptions and CommandStatementIngest

abbrev options_entries : OptionsSaid → List Entry
options_entries options = varint_entry 1 options.if_not_exist ∷ varint_entry 2 options.if_exists ∷ []

abbrev options_made : ℕ → ℕ → OptionsSaid
options_made first second = record { if_not_exist = enum_of first; if_exists = enum_of second }

pub options_back : ReadsBack AreOptions options_of options_bytes
options_back options h =
    back options_in (options_fields options) options
    (set_writable (options_entries options) (varint_writable 1 options.if_not_exist (omega arith, omega arith) (omega (arith, h.0)), (varint_writable 2 options.if_exists (omega arith, omega arith) (omega (arith, h.1)), tt)))
    (by (last_varint 1 (options_fields options)) (last_varint 2 (options_fields options)) (kept_varint 1 (options_entries options) refl) (kept_varint 2 (options_entries options) refl))
  where
    by : (first second : ℕ) → first ≡ options.if_not_exist → second ≡ options.if_exists
        → (let read : Result OptionsSaid Fault = Ok (options_made first second) in read ≡ Ok options)
    by first second a b = rw (a, b, enum_same options.if_not_exist h.0, enum_same options.if_exists h.1) refl

options_len : (options : OptionsSaid) → AreOptions options → length (options_bytes options) ≤ 40
options_len options h =
    omega (
      arith,
      short_set (options_entries options),
      varint_len 1 options.if_not_exist (omega arith, omega arith) (omega (arith, h.0)),
      varint_len 2 options.if_exists (omega arith, omega arith) (omega (arith, h.1)),
      length-append (field_spelling (varint_entry 1 options.if_not_exist)) (spelled (varint_entry 2 options.if_exists ∷ [])),
      length-append (field_spelling (varint_entry 2 options.if_exists)) [],
    )

abbrev statement_made : Option OptionsSaid → List ℕ → List ℕ → List ℕ → ℕ → List ℕ → StatementSaid
statement_made options table schema catalog temporary transaction = record {
  table_definition_options = options;
  table = table;
  schema = schema;
  catalog = catalog;
  temporary = bool_of temporary;
  transaction_id = transaction;
}

module _ (statement : StatementSaid) (h : IsStatement statement) where
  abbrev behind_options : List Entry
  behind_options =
      chunk_entry 2 statement.table
      ∷ chunk_entry 3 statement.schema
      ∷ chunk_entry 4 statement.catalog
      ∷ varint_entry 5 (bool_number statement.temporary)
      ∷ chunk_entry 6 statement.transaction_id
      ∷ []

  behind_writable : All IsWritable (statement_scalars statement)
  behind_writable =
      set_writable behind_options (
        chunk_writable 2 statement.table (omega arith, omega arith) (short statement.table h.1.1),
        (
          chunk_writable 3 statement.schema (omega arith, omega arith) (short statement.schema h.2.1),
          (
            chunk_writable 4 statement.catalog (omega arith, omega arith) (short statement.catalog h.3.1),
            (
              varint_writable 5 (bool_number statement.temporary) (omega arith, omega arith) (bool_small statement.temporary),
              (chunk_writable 6 statement.transaction_id (omega arith, omega arith) (short statement.transaction_id h.4), tt),
            ),
          ),
        ),
      )

  -- what the fields after the options say, with any that stand in front of them
  record Behind (fields : List Entry) : Type 0 where
    table : last_text 2 fields ≡ Ok statement.table
    schema : last_text 3 fields ≡ Ok statement.schema
    catalog : last_text 4 fields ≡ Ok statement.catalog
    temporary : last_varint 5 fields ≡ bool_number statement.temporary
    transaction : last_bytes 6 fields ≡ statement.transaction_id

  behind_says : Behind (statement_scalars statement)
  behind_says = record {
    table = text_back 2 behind_options statement.table refl refl refl h.1;
    schema = text_back 3 behind_options statement.schema refl refl refl h.2;
    catalog = text_back 4 behind_options statement.catalog refl refl refl h.3;
    temporary = kept_varint 5 behind_options refl;
    transaction = kept_bytes 6 behind_options refl;
  }

  no_options : chunks 1 (statement_scalars statement) ≡ []
  no_options = none_set chunk_of 1 behind_options refl

  said_by : (fields : List Entry) (options : Option OptionsSaid) → Behind fields → embedded options_in 1 fields ≡ Ok options → options ≡ statement.table_definition_options → statement_in fields ≡ Ok statement
  said_by fields options b e same =
      by (embedded options_in 1 fields) (last_text 2 fields) (last_text 3 fields) (last_text 4 fields) (last_varint 5 fields) (last_bytes 6 fields) (e ∙ ap Ok same) b.table b.schema b.catalog b.temporary b.transaction
    where
      by : (options : Result (Option OptionsSaid) Fault) (table schema catalog : Result (List ℕ) Fault) (temporary : ℕ) (transaction : List ℕ)
          → options ≡ Ok statement.table_definition_options → table ≡ Ok statement.table → schema ≡ Ok statement.schema → catalog ≡ Ok statement.catalog → temporary ≡ bool_number statement.temporary → transaction ≡ statement.transaction_id
          → (options >>= λ o. table >>= λ t. schema >>= λ s. catalog >>= λ c. Ok (statement_made o t s c temporary transaction)) ≡ Ok statement
      by options table schema catalog temporary transaction o t s c b x = rw (o, t, s, c, b, x, bool_same statement.temporary) refl

  pub statement_back_by : (options : Option OptionsSaid) → options ≡ statement.table_definition_options → IfSome options AreOptions
      → statement_of (spelled (embedded_field 1 options_bytes options ++ statement_scalars statement)) ≡ Ok statement
  statement_back_by None same are =
      back statement_in (statement_scalars statement) statement behind_writable (said_by (statement_scalars statement) None behind_says (no_embedded options_in 1 (statement_scalars statement) no_options) same)
  statement_back_by (Some options) same are =
      let part = options_bytes options in
      let fields = chunk_entry 1 part ∷ statement_scalars statement in
      let b = behind_says in
      back statement_in fields statement
      (All-cons IsWritable (chunk_entry 1 part) (statement_scalars statement) (chunk_writable 1 part (omega arith, omega arith) (omega (arith, options_len options are))) behind_writable)
      (said_by fields (Some options) (record { table = b.table; schema = b.schema; catalog = b.catalog; temporary = b.temporary; transaction = b.transaction })
      (embedded_front options_in 1 part (statement_scalars statement) options refl no_options (options_back options are)) same)

pub statement_back : ReadsBack IsStatement statement_of statement_bytes
statement_back statement h = statement_back_by statement h statement.table_definition_options refl h.0
