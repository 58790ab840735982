-- Payloads that are written say what they are written for.
use Rattle.std.proofs.Common.{◌≡◌, ◌≤◌, ◌<◌, ◌^◌, ◌+◌, ℕ, zero, suc, All, Bool, true, false, if◌then◌else◌, ◌⊎◌, inl, inr, List, [], ◌∷◌, ◌++◌, length, map, get_or, Some, None, Result, Ok, refl, sym, ap, subst, ◌∙◌, append_assoc, append-nil, arith}
use Rattle.std.specs.List.{flat_map, AllByRecursion, AllZip}
use Rattle.std.proofs.lemmas.List.{map-append}
use Rattle.std.proofs.lemmas.List.Elements.{All-nil, All-append, All-cons, All-push}
use Rattle.std.proofs.lemmas.Grind.{flat_map-append}
use Rattle.scan_base.specs.declared.fault.Fault.{Fault}
use Rattle.scan_base.specs.Limits.{most_columns}
use Rattle.scan_base.specs.Reading.{◌>>=◌}
use Rattle.scan_base.specs.Lists.{each}
use Rattle.arrow_types.specs.declared.data_type.DataType.{DataType}
use Rattle.arrow_types.specs.declared.data_type.DataType.TheVariants.{Dictionary}
use Rattle.arrow_types.specs.declared.schema.Field.{Field}
use Rattle.arrow_types.specs.declared.schema.Schema.{Schema}
use Rattle.arrow_types.specs.Schema.{IsSchema}
use Rattle.arrow_schema.specs.declared.header.HeaderKind.TheVariants as header
use Rattle.arrow_schema.specs.Header.{schema_in, schema_message_of, schema_of}
use Rattle.arrow_schema.specs.WrittenHeader.{schema_part, schema_bytes}
use Rattle.arrow_schema.proofs.Messages.{messages_read}
use Rattle.arrow_schema.proofs.Again.{whole_schema, short_schema, schemas_read}
use Rattle.arrays.specs.Column.{ColumnAt, cut}
use Rattle.arrays.specs.Batch.{BatchAt}
use Rattle.proto_wire.specs.Calls.{chunk_entry}
use Rattle.proto_wire.specs.Reading.{fields_of}
use Rattle.proto_wire.specs.Standard.{Entry}
use Rattle.flight_proto.specs.FlightData.{DataSaid, data_of, data_bytes, data_head}
use Rattle.flight_proto.specs.Laws.{FitsMemory}
use Rattle.flight_proto.specs.Message.{is_set, set_fields}
use Rattle.flight_proto.proofs.ReadsBack.{chunk_writable, data_back, fields_back, set_writable}
use Rattle.flight_proto.proofs.Heads.{bodies_follow_heads}
use Rattle.ipc_batch.specs.State.{Known}
use Rattle.ipc_batch.specs.Parts.{body_claimed}
use Rattle.ipc_batch.specs.SaidRows.{Sent, News, Rows, schema_sent, news_of, Follows, Says}
use Rattle.ipc_batch.specs.WrittenMessages.{body_length, most_header_bytes, SaysBatch}
use Rattle.ipc_batch.specs.DressedBatches.{Dressing, IsDressed, AreDressed}
use Rattle.ipc_batch.proofs.Dressing.{dressed_say}
use Rattle.ipc_batch.proofs.Lengths.{both}
use Rattle.ipc_batch.proofs.Messages.{joined}
use Rattle.dictionary_answers.specs.Dress.{IsDressable, AreDressable}
use Rattle.dictionary_answers.specs.Lengths.{bodies_length}
use Rattle.flight_info.specs.Payloads.{Payload, message_in, PayloadsSay}
use Rattle.flight_info.proofs.Forms.{schema_plain}
use Rattle.fetch_stream.specs.Fetches.{HasRow, IsBare, SayDressed}
use Rattle.fetch_stream.specs.Streams.{Parcel, HaveShortBodies, most_body_bytes}
use Rattle.fetch_stream.specs.inside.RowsAhead.{AnsweredAs}
use Rattle.fetch_stream.specs.inside.WrittenPayloads.{Carries, CarryDressed, IsShort, SaysRows, SaysSchema, SaysWritten}

-- ---- one payload

-- the number of a field of a header or of a body
abbrev IsNumber : Entry → Type 0
IsNumber field = (field.number ≡ 2) ⊎ (field.number ≡ 1000)

-- what holds of fields holds of those that are set
set_all : (P : Entry → Type 0) (entries : List Entry) → AllByRecursion P entries → All P (set_fields entries)
set_all P [] all = All-nil P
set_all P (entry ∷ entries) all = by (is_set entry.content) (set_all P entries all.1)
  where
    by : (set : Bool) → All P (set_fields entries) → All P (if set then entry ∷ set_fields entries else set_fields entries)
    by true rest = All-cons P entry (set_fields entries) all.0 rest
    by false rest = rest

-- what is written of a header and a body has only these
bare_back : (payload header body : List ℕ) → payload ≡ data_bytes None (record { data_header = header; data_body = body })
    → FitsMemory header → FitsMemory body → IsBare payload
bare_back payload header body e long wide fields read =
    let first = chunk_entry 2 header in
    let second = chunk_entry 1000 body in
    let entries = first ∷ second ∷ [] in
    let writable = set_writable entries (
      chunk_writable 2 header (omega arith, omega arith) (omega (arith, long)),
      (chunk_writable 1000 body (omega arith, omega arith) (omega (arith, wide)), tt),
    ) in
    let both = sym read ∙ (ap fields_of e ∙ fields_back (set_fields entries) writable) in
    let same : set_fields entries ≡ fields = cc in
    subst (All IsNumber) same (set_all IsNumber entries (inl refl, (inr refl, tt)))

-- what is written of a message is carried
carried_back : (payload header body : List ℕ) → payload ≡ data_bytes None (record { data_header = header; data_body = body })
    → FitsMemory header → FitsMemory body → Carries payload (record { header = header; body = body })
carried_back payload header body e long wide = record {
  carried = record { data_header = header; data_body = body };
  read = ap data_of e ∙ (data_back None (record { data_header = header; data_body = body }) tt long wide).1;
  bare = bare_back payload header body e long wide;
  same = refl;
}

-- the payload of a schema
pub schema_said : (payload : List ℕ) (schema : Schema) → IsSchema schema
    → payload ≡ data_bytes None (record { data_header = schema_bytes schema; data_body = [] }) → length (schema_bytes schema) ≤ 2 ^ 15 → SaysSchema payload schema
unfolding schema_of schema_message_of schema_sent news_of body_claimed
schema_said payload schema is e short =
    let bytes = schema_bytes schema in
    let part = short_schema schema is in
    let m = messages_read header.Schema (schema_part schema) 0 (whole_schema schema) (omega arith) (omega arith) in
    let again = schemas_read schema is in
    let told : schema_in m.message ≡ Ok schema = rw (m.found, m.kind_again) at again in
    record {
      message = record { header = bytes; body = [] };
      carries = carried_back payload bytes [] e (omega arith) (omega arith);
      short = omega arith;
      plain = schema_plain schema is;
      said = rw (m.found, m.kind_again, told, m.body_length_again) refl;
    }

-- the payload of a message that is written
pub message_carried : (payload header body : List ℕ) → payload ≡ data_head header (length body) ++ body → FitsMemory header → length body ≤ most_body_bytes
    → Carries payload (record { header = header; body = body })
message_carried payload header body e long short =
    carried_back payload header body (e ∙ sym (bodies_follow_heads (record { data_header = header; data_body = body }))) long (omega (arith, short))

-- the payload of a batch
pub batch_said : (payload header body : List ℕ) (batch : BatchAt) → payload ≡ data_head header (length body) ++ body → FitsMemory header → length body ≤ most_body_bytes
    → length body ≡ body_length batch → SaysBatch (record { header = header; body = body }) batch → SaysWritten payload batch
batch_said payload header body batch e long short sized said = record {
  message = record { header = header; body = body };
  carries = message_carried payload header body e long short;
  said = said;
  sized = sized;
}

-- ---- payloads

each_step : {A B : Type 0} (read : A → Result B Fault) (x : A) (xs : List A) (y : B) (ys : List B) → read x ≡ Ok y → each read xs ≡ Ok ys → each read (x ∷ xs) ≡ Ok (y ∷ ys)
each_step read x xs y ys one all = rw (one, all) refl

each_more : {A B : Type 0} (read : A → Result B Fault) (xs more : List A) (ys others : List B) → each read xs ≡ Ok ys → each read more ≡ Ok others → each read (xs ++ more) ≡ Ok (ys ++ others)
each_more {B = B} read [] more ys others all behind =
    let same : [] ≡ ys = cc in
    subst (λ (l : List B). each read more ≡ good_list (l ++ others)) same behind
  where
    good_list : List B → Result (List B) Fault
    good_list bs = Ok bs
each_more {B = B} read (a ∷ xs) more ys others all behind =
    let first = both (read a) (λ (b : B). (each read xs >>= λ bs. Ok (b ∷ bs))) ys all in
    let rest = both (each read xs) (λ (bs : List B). good_list (first.0 ∷ bs)) ys first.2 in
    let same : first.0 ∷ rest.0 ≡ ys = let last = rest.2 in cc in
    subst (λ (l : List B). each read ((a ∷ xs) ++ more) ≡ good_list (l ++ others)) same (each_step read a (xs ++ more) first.0 (rest.0 ++ others) first.1 (each_more read xs more rest.0 others rest.1 behind))
  where
    good_list : List B → Result (List B) Fault
    good_list bs = Ok bs

-- what payloads carry
record Carry (payloads : List Payload) (messages : List Sent) : Type 0 where
  all : List DataSaid
  read : each data_of payloads ≡ Ok all
  bare : All IsBare payloads
  same : map message_in all ≡ messages

carry_none : Carry [] []
carry_none = record { all = []; read = refl; bare = All-nil IsBare; same = refl }

-- payloads before others
carry_more : (payloads more : List Payload) (messages others : List Sent) → Carry payloads messages → Carry more others → Carry (payloads ++ more) (messages ++ others)
carry_more payloads more messages others e c = record {
  all = e.all ++ c.all;
  read = each_more data_of payloads more e.all c.all e.read c.read;
  bare = All-append IsBare payloads more e.bare c.bare;
  same = map-append message_in e.all c.all ∙ rw (e.same, c.same) refl;
}

carry_one : (payload : Payload) (message : Sent) → Carries payload message → Carry (payload ∷ []) (message ∷ [])
carry_one payload message c = record {
  all = c.carried ∷ [];
  read = each_step data_of payload [] c.carried [] c.read refl;
  bare = All-cons IsBare payload [] c.bare (All-nil IsBare);
  same = ap (λ (sent : Sent). sent ∷ []) c.same;
}

-- each carries one message
carry_each : (payloads : List Payload) (messages : List Sent) → AllZip Carries payloads messages → Carry payloads messages
carry_each [] [] all = carry_none
carry_each (payload ∷ payloads) (message ∷ messages) all =
    carry_more (payload ∷ []) payloads (message ∷ []) messages (carry_one payload message all.0) (carry_each payloads messages all.1)
carry_each [] (message ∷ messages) all = absurd all
carry_each (payload ∷ payloads) [] all = absurd all

-- payloads that carry messages say what those say
say_carried : (payloads : List Payload) (messages : List Sent) (schema : Schema) (rows : Rows) → Carry payloads messages → Says messages schema rows → PayloadsSay payloads schema rows
say_carried payloads messages schema rows e said = (e.all, e.read, subst (λ (sent : List Sent). Says sent schema rows) (sym e.same) said)

-- no dressed batches
none_dressed : (schema : Schema) → AreDressed schema [] []
none_dressed schema = record { dressings = []; are = refl; all = All-nil (IsDressed schema); whole = refl }

-- one more after others
more_dressed : (schema : Schema) (messages : List Sent) (rows : Rows) (d : Dressing) → AreDressed schema messages rows → IsDressed schema d
    → AreDressed schema (messages ++ (d.dictionaries ++ d.batch ∷ [])) (rows ++ d.rows)
more_dressed schema messages rows d are is =
    let sent : Dressing → List Sent = λ x. x.dictionaries ++ x.batch ∷ [] in
    let of : Dressing → Rows = λ x. x.rows in
    record {
      dressings = are.dressings ++ d ∷ [];
      are = ap (λ (l : List Sent). l ++ sent d) are.are ∙ sym (flat_map-append sent are.dressings (d ∷ []) ∙ ap (λ (l : List Sent). flat_map sent are.dressings ++ l) (append-nil (sent d)));
      all = All-push (IsDressed schema) are.dressings d are.all is;
      whole = ap (λ (r : Rows). r ++ of d) are.whole ∙ sym (flat_map-append of are.dressings (d ∷ []) ∙ ap (λ (r : Rows). flat_map of are.dressings ++ r) (append-nil (of d)));
    }

-- a schema alone says no rows
pub say_first : (payload : Payload) (schema : Schema) → SaysSchema payload schema → SayDressed (payload ∷ []) schema []
unfolding say_carried none_dressed
say_first payload schema s =
    let known : Known = record { schema = schema; dictionaries = [] } in
    let news : News = record { state = Some known; batch = None } in
    let carry = carry_one payload s.message s.carries in
    record {
      said = say_carried (payload ∷ []) (s.message ∷ []) schema [] carry (known, refl, (news, [], s.said, refl, (refl, refl)));
      bare = carry.bare;
      first = s.message;
      behind = [];
      messages = carry.same;
      plain = s.plain;
      dressed = none_dressed schema;
      some = All-nil HasRow;
    }

-- rows more, in a batch after its dictionaries
pub say_more : (payloads : List Payload) (parcel : Parcel) (schema : Schema) (rows more : Rows) → SaysRows parcel schema more → 0 < length more
    → SayDressed payloads schema rows → SayDressed (payloads ++ parcel) schema (rows ++ more)
unfolding say_carried more_dressed
say_more payloads parcel schema rows more s some so =
    let said = so.said in
    let sent = map message_in said.0 in
    let known = said.2.0 in
    let messages = s.dictionaries ++ s.batch ∷ [] in
    let d : Dressing = record { dictionaries = s.dictionaries; batch = s.batch; rows = more } in
    let one : AreDressed schema messages more = more_dressed schema [] [] d (none_dressed schema) s.dressed in
    let read = dressed_say schema messages more one known said.2.1 in
    let all : Follows None (sent ++ messages) (Some read.0) (rows ++ more) = joined None sent messages (Some known) (Some read.0) rows more said.2.2 read.2 in
    let carry = carry_more payloads parcel sent messages (record { all = said.0; read = said.1; bare = so.bare; same = refl }) (carry_each parcel messages s.carry) in
    record {
      said = say_carried (payloads ++ parcel) (sent ++ messages) schema (rows ++ more) carry (read.0, read.1, all);
      bare = carry.bare;
      first = so.first;
      behind = so.behind ++ messages;
      messages = carry.same ∙ ap (λ (l : List Sent). l ++ messages) so.messages;
      plain = so.plain;
      dressed = more_dressed schema so.behind rows d so.dressed s.dressed;
      some = All-push HasRow so.dressed.dressings d so.some some;
    }

-- the bodies of payloads are those of the messages that they carry
pub together_short : (payloads : List Payload) (messages : List Sent) → AllZip Carries payloads messages → bodies_length messages ≤ most_body_bytes → HaveShortBodies payloads
together_short payloads messages all short =
    let c = carry_each payloads messages all in
    (c.all, c.read, subst (λ (sent : List Sent). bodies_length sent ≤ most_body_bytes) (sym c.same) short)

-- ---- columns that are answered

-- slices of columns can be dressed as they
cut_dressable : (fields : List Field) (columns : List ColumnAt) (from to : ℕ) → AreDressable fields columns → AreDressable fields (map (λ column. cut column from to) columns)
cut_dressable [] [] from to are = tt
cut_dressable (field ∷ fields) (column ∷ columns) from to are = (by field.data_type are.0, cut_dressable fields columns from to are.1)
  where
    by : (t : DataType) → IsDressable t column → IsDressable t (cut column from to)
    by (Dictionary encoding) is = is
    by other is = is
cut_dressable [] (column ∷ columns) from to are = absurd are
cut_dressable (field ∷ fields) [] from to are = absurd are

-- slices of columns are answered as the columns
pub cut_answered : (schema : Schema) (columns : List ColumnAt) (from to : ℕ) → AnsweredAs schema columns → AnsweredAs schema (map (λ column. cut column from to) columns)
cut_answered schema columns from to ans = record { numbered = ans.numbered; dressable = cut_dressable schema.fields columns from to ans.dressable }

-- there is one for each field
dressable_many : (fields : List Field) (columns : List ColumnAt) → AreDressable fields columns → length columns ≡ length fields
dressable_many [] [] are = refl
dressable_many (field ∷ fields) (column ∷ columns) are = ap suc (dressable_many fields columns are.1)
dressable_many [] (column ∷ columns) are = absurd are
dressable_many (field ∷ fields) [] are = absurd are

-- there are no more of them than a schema has
pub few_answered : (schema : Schema) (columns : List ColumnAt) → IsSchema schema → AnsweredAs schema columns → length columns ≤ most_columns
few_answered schema columns is ans = omega (arith, is.few, dressable_many schema.fields columns ans.dressable)

-- ---- parcels that are written

-- the bodies of messages that together are short
short_each : (messages : List Sent) (most : ℕ) → bodies_length messages ≤ most → (k : ℕ) (d : Sent) → k < length messages → length (get_or messages k d).body ≤ most
short_each [] most short k d low = absurd (omega (arith, low))
short_each (message ∷ messages) most short zero d low = omega (arith, short)
short_each (message ∷ messages) most short (suc k) d low = short_each messages most (omega (arith, short)) k d (omega (arith, low))

-- one more after them
zip_more : (payloads : List Payload) (messages : List Sent) (payload : Payload) (message : Sent) → AllZip Carries payloads messages → Carries payload message
    → AllZip Carries (payloads ++ payload ∷ []) (messages ++ message ∷ [])
zip_more [] [] payload message all is = (is, tt)
zip_more (p ∷ payloads) (m ∷ messages) payload message all is = (all.0, zip_more payloads messages payload message all.1 is)
zip_more [] (m ∷ messages) payload message all is = absurd all
zip_more (p ∷ payloads) [] payload message all is = absurd all

bodies-push : (messages : List Sent) (message : Sent) → bodies_length (messages ++ message ∷ []) ≡ bodies_length messages + length message.body
bodies-push [] message = omega arith
bodies-push (first ∷ messages) message = omega (arith, bodies-push messages message)

pub carry_last : (payloads : List Payload) (parcel : Parcel) (last : Payload) (dictionaries : List Sent) (batch : BatchAt) (room : ℕ) → parcel ≡ payloads ++ last ∷ []
    → AllZip Carries payloads dictionaries → SaysWritten last batch → bodies_length dictionaries + room ≡ most_body_bytes → body_length batch ≤ room → CarryDressed parcel dictionaries batch
carry_last payloads parcel last dictionaries batch room is all s sum short = record {
  message = s.message;
  carry = subst (λ (p : Parcel). AllZip Carries p (dictionaries ++ s.message ∷ [])) (sym is) (zip_more payloads dictionaries last s.message all s.carries);
  said = s.said;
  short = omega (arith, bodies-push dictionaries s.message, s.sized, sum, short);
}

-- messages with short headers, that together have short bodies
pub short_messages : (messages : List Sent) (room : ℕ) → All (λ (sent : Sent). length sent.header ≤ most_header_bytes) messages → bodies_length messages + room ≡ most_body_bytes → All IsShort messages
short_messages messages room headers sum = λ k d low.
    record { header = headers k d low; body = short_each messages most_body_bytes (omega (arith, sum)) k d low }

-- ---- messages one by one

-- one message more is carried, of which a loop has the others still before it
pub carry_next : (payloads : List Payload) (all rest : List Sent) (payload : Payload) (message : Sent) → Carries payload message
    → ((more : List Payload) → AllZip Carries more (message ∷ rest) → AllZip Carries (payloads ++ more) all)
    → (more : List Payload) → AllZip Carries more rest → AllZip Carries ((payloads ++ payload ∷ []) ++ more) all
carry_next payloads all rest payload message is so more behind =
    subst (λ (p : List Payload). AllZip Carries p all) (sym (append_assoc payloads (payload ∷ []) more)) (so (payload ∷ more) (is, behind))
