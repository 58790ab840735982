-- What messages leave after, and the rows that they bring, are what they say.
use Rattle.std.proofs.Common.{◌∷◌, ◌≡◌, ◌≢◌, ◌≤◌, ℕ, ◌+◌, ◌==◌, not, nat_le, Bool, true, false, List, [], ◌++◌, length, Option, Some, None, Ok, refl, arith, sym, ap, ◌∙◌, subst}
use Rattle.std.specs.Prelude.{option_map}
use Rattle.std.specs.List.{list_any, AllByRecursion}
use Rattle.std.proofs.lemmas.List.Elements.{recursion_from_All}
use Rattle.std.proofs.Math.Path.{fun_ext}
use Rattle.std.proofs.lemmas.Bool.{eq-eqb, eqb-true, leb-true, le-leb}
use Rattle.std.proofs.lemmas.List.{length-append}
use Rattle.std.proofs.lemmas.List.FromFn.{length-map-range_with_len}
use Rattle.scan_base.specs.declared.fault.Fault.TheVariants.{BadBatch, LimitReached}
use Rattle.scan_base.specs.declared.value.Value.{Value}
use Rattle.scan_base.specs.Reading.{demand}
use Rattle.flatbuf.specs.Layout.{TableAt, IsBytes, HasTable}
use Rattle.flatbuf.specs.Place.{scalar_of}
use Rattle.arrow_types.specs.declared.schema.Schema.{Schema}
use Rattle.arrow_schema.specs.declared.header.HeaderKind.{HeaderKind}
use Rattle.arrow_schema.specs.declared.header.HeaderKind.TheVariants as kinds
use Rattle.arrow_schema.specs.Header.{MessageAt, table_wanted, message_of, header_of, schema_in}
use Rattle.arrow_schema.specs.Says.{SaysColumns}
use Rattle.arrow_schema.proofs.Readings.{bind_ok, demand_ok, says_scalar, reads_scalar, says_table, reads_table, wanted_table, bytes_table}
use Rattle.arrow_schema.proofs.Said.{header_told, header_read}
use Rattle.arrays.specs.Texts.{TextsAt, texts_slot, texts_values}
use Rattle.scan_base.specs.Limits.{most_values}
use Rattle.arrays.specs.Dictionary.{extended_by}
use Rattle.arrays.specs.Batch.{BatchAt}
use Rattle.ipc_batch.specs.Parts.{PartsAt, DictionaryParts, body_claimed, parts_of, dictionary_parts}
use Rattle.ipc_batch.specs.State.{Known, State, values_under, with_values}
use Rattle.ipc_batch.specs.Columns.{columns_from, buffers_wanted, counts_agree, one_texts}
use Rattle.ipc_batch.specs.News.{Sent, News, schema_sent, batch_parts, batch_sent, leads_to, dictionary_sent, kept_of, known_after, first_schema, next_news, news_of}
use Rattle.ipc_batch.specs.SaidRows.{Rows, rows_in, Follows, Says}
use Rattle.ipc_batch.specs.Brings.{SaysMessage, SaysDictionaryBatch, Context, context_of, BringsBatch, Sets, BringsDictionary, BringsSchema, Brings}
use Rattle.ipc_batch.specs.Laws.{IsReadAs, ReadIsBrought, BringRows, SaidIsBrought}
use Rattle.ipc_batch.proofs.Entries.{under_set, under_other}
use Rattle.ipc_batch.proofs.Held.{columns_told, columns_read, one_told, one_read}
use Rattle.ipc_batch.proofs.Brought.{IsMessage, message_told, message_read, claims_told, claims_read, says_message, message_at, is_message, is_headed, IsParts, parts_told, parts_read}

-- ---- header and counts

header_reads : (message : MessageAt) (header : TableAt) → IsBytes message.table.bytes → HasTable message.table 2 (Some header) → header_of message ≡ Ok header
unfolding table_wanted
header_reads message header is h = rw (reads_table message.table 2 (Some header) is h) refl

counts_told : (nodes buffers : ℕ) (parts : PartsAt) (u : Unit {0}) → counts_agree nodes buffers parts ≡ Ok u → (length parts.nodes ≡ nodes) × (length parts.places ≡ buffers)
unfolding counts_agree
counts_told nodes buffers parts u e =
    let a = bind_ok (demand (length parts.nodes == nodes) BadBatch) _ u e in
    (eqb-true (length parts.nodes) nodes (demand_ok (length parts.nodes == nodes) BadBatch a.0 a.1), eqb-true (length parts.places) buffers (demand_ok (length parts.places == buffers) BadBatch u a.2))

counts_read : (nodes buffers : ℕ) (parts : PartsAt) → length parts.nodes ≡ nodes → length parts.places ≡ buffers → counts_agree nodes buffers parts ≡ Ok tt
unfolding counts_agree
counts_read nodes buffers parts many more = rw (eq-eqb (length parts.nodes) nodes many, eq-eqb (length parts.places) buffers more) refl

-- ---- record batches

batch_told : (known : Known) (sent : Sent) (message : MessageAt) (batch : BatchAt) → IsBytes sent.header → IsMessage sent.header message → message.kind ≡ kinds.RecordBatch →
    batch_sent known message sent.body ≡ Ok batch → BringsBatch (context_of known) sent batch
unfolding batch_sent batch_parts
batch_told known sent message batch is said kind e =
    let fields = known.schema.fields in
    let body = sent.body in
    let is2 = subst IsBytes (sym said.root.same) is in
    let a = bind_ok (batch_parts known message body) _ batch e in
    let b = bind_ok (header_of message) _ a.0 a.1 in
    let c = bind_ok (parts_of message b.0 body) _ a.0 b.2 in
    let d = bind_ok (counts_agree (length fields) (buffers_wanted fields) c.0) _ a.0 c.2 in
    let same : c.0 ≡ a.0 = let last = d.2 in cc in
    let f = bind_ok (columns_from fields known.dictionaries (a.0).rows body (a.0).nodes (a.0).places) _ batch a.2 in
    let made : BatchAt = record { columns = f.0; rows = (a.0).rows } in
    let made_is : made ≡ batch = let last = f.2 in cc in
    let headed = says_table message.table 2 (Some b.0) is2 (wanted_table message.table 2 b.0 b.1) in
    let is3 = bytes_table message.table 2 b.0 is2 headed in
    let parts = subst (IsParts message.table b.0 body) same (parts_told message b.0 body c.0 is2 is3 c.1) in
    let counts = subst (λ (x : PartsAt). (length x.nodes ≡ length fields) × (length x.places ≡ buffers_wanted fields)) same (counts_told (length fields) (buffers_wanted fields) c.0 d.0 d.1) in
    subst (BringsBatch (context_of known) sent) {x = made} made_is (record {
      header = b.0;
      message = subst (λ (k : HeaderKind). SaysMessage sent k b.0) kind (says_message sent message b.0 said (record { headed = headed; claims = parts.claims }));
      parts = a.0;
      says = parts.says;
      nodes = counts.0;
      buffers = counts.1;
      rows = refl;
      columns = columns_told fields known.dictionaries (a.0).rows body (a.0).nodes (a.0).places f.0 f.1;
    })

batch_read : (known : Known) (sent : Sent) (batch : BatchAt) → IsBytes sent.header → (says : BringsBatch (context_of known) sent batch) →
    batch_sent known (message_at sent kinds.RecordBatch says.header says.message) sent.body ≡ Ok batch
unfolding batch_sent batch_parts
batch_read known sent batch is says =
    let fields = known.schema.fields in
    let body = sent.body in
    let message = message_at sent kinds.RecordBatch says.header says.message in
    let is2 = subst IsBytes (sym says.message.root.same) is in
    let is3 = bytes_table message.table 2 says.header is2 says.message.headed in
    let headed = is_headed sent kinds.RecordBatch says.header says.message in
    let parts = says.parts in
    rw (
      header_reads message says.header is2 says.message.headed,
      parts_read message says.header body parts is2 is3 (record { says = says.says; claims = headed.claims }),
      counts_read (length fields) (buffers_wanted fields) parts says.nodes says.buffers,
      columns_read fields known.dictionaries parts.rows body parts.nodes parts.places batch.columns says.nodes says.columns.count says.columns.each,
      ← says.rows,
    ) refl

-- ---- dictionaries

-- the values of an id that are set, and those of the others
set_so : (before : List (ℕ × List Value)) (id : ℕ) (values : List Value) → Sets (values_under before) id values (values_under (with_values id values before))
set_so before id values = (under_set before id values, λ other apart. under_other before id other values (by other apart (id == other) refl))
  where
    by : (other : ℕ) → other ≢ id → (same : Bool) → (id == other) ≡ same → (id == other) ≡ false
    by other apart true e = absurd (apart (sym (eqb-true id other e)))
    by other apart false e = e

-- and there is one way to set them
sets_once : (before : ℕ → List Value) (id : ℕ) (values : List Value) (one other : ℕ → List Value) → Sets before id values one → Sets before id values other → one ≡ other
sets_once before id values one other p q = fun_ext (λ n. by n (n == id) refl)
  where
    apart : (n : ℕ) → (n == id) ≡ false → n ≢ id
    apart n e same = let f = eq-eqb n id same in let no : ⊥ = cc in no

    by : (n : ℕ) (same : Bool) → (n == id) ≡ same → one n ≡ other n
    by n true e = let is = eqb-true n id e in ap one is ∙ p.0 ∙ sym q.0 ∙ ap other (sym is)
    by n false e = p.1 n (apart n e) ∙ sym (q.1 n (apart n e))

-- how many values there are with those of texts after them
length_behind : (old : List Value) (cells : TextsAt) → length old + cells.len ≡ length (old ++ texts_values cells)
length_behind old cells =
    let long = length-append old (texts_values cells) in
    let many = length-map-range_with_len (texts_slot cells) 0 cells.len in
    omega arith

extended_told : (old : List Value) (cells : TextsAt) (values : List Value) → extended_by old cells ≡ Ok values → (values ≡ old ++ texts_values cells) × (length (old ++ texts_values cells) ≤ most_values)
unfolding extended_by
extended_told old cells values e =
    let a = bind_ok (demand (nat_le (length old + cells.len) most_values) LimitReached) _ values e in
    let same : old ++ texts_values cells ≡ values = let last = a.2 in cc in
    let room = leb-true (length old + cells.len) most_values (demand_ok (nat_le (length old + cells.len) most_values) LimitReached a.0 a.1) in
    (sym same, subst (λ (n : ℕ). n ≤ most_values) (length_behind old cells) room)

extended_read : (old : List Value) (cells : TextsAt) → length (old ++ texts_values cells) ≤ most_values → extended_by old cells ≡ Ok (old ++ texts_values cells)
unfolding extended_by
extended_read old cells room =
    let small = subst (λ (n : ℕ). n ≤ most_values) (sym (length_behind old cells)) room in
    rw (le-leb (length old + cells.len) most_values small) refl

-- what is said of a dictionary before its values are looked at
record IsSent (message : TableAt) (header : TableAt) (body : List ℕ) (sent : DictionaryParts) : Type 0 where
  values : TableAt
  dictionary : SaysDictionaryBatch header sent.id values sent.is_delta
  parts : IsParts message values body sent.parts

sent_told : (message : MessageAt) (body : List ℕ) (sent : DictionaryParts) → IsBytes message.table.bytes → dictionary_parts message body ≡ Ok sent →
    (header : TableAt) × HasTable message.table 2 (Some header) × IsSent message.table header body sent
unfolding dictionary_parts
sent_told message body sent is e =
    let a = bind_ok (header_of message) _ sent e in
    let b = bind_ok (scalar_of 8 a.0 0 0) _ sent a.2 in
    let c = bind_ok (table_wanted a.0 1) _ sent b.2 in
    let d = bind_ok (scalar_of 1 a.0 2 0) _ sent c.2 in
    let f = bind_ok (parts_of message c.0 body) _ sent d.2 in
    let made : DictionaryParts = record { id = b.0; parts = f.0; is_delta = not (d.0 == 0) } in
    let same : made ≡ sent = let last = f.2 in cc in
    let headed = says_table message.table 2 (Some a.0) is (wanted_table message.table 2 a.0 a.1) in
    let is2 = bytes_table message.table 2 a.0 is headed in
    let valued = says_table a.0 1 (Some c.0) is2 (wanted_table a.0 1 c.0 c.1) in
    let is3 = bytes_table a.0 1 c.0 is2 valued in (
      a.0,
      headed,
      subst (IsSent message.table a.0 body) {x = made} same (record {
        values = c.0;
        dictionary = record { identified = says_scalar 8 a.0 0 0 b.0 is2 b.1; valued = valued; delta = (d.0, says_scalar 1 a.0 2 0 d.0 is2 d.1, refl) };
        parts = parts_told message c.0 body f.0 is is3 f.1;
      }),
    )

sent_read : (message : MessageAt) (header : TableAt) (body : List ℕ) (sent : DictionaryParts) → IsBytes message.table.bytes → HasTable message.table 2 (Some header) → IsSent message.table header body sent →
    dictionary_parts message body ≡ Ok sent
unfolding dictionary_parts table_wanted
sent_read message header body sent is headed says =
    let is2 = bytes_table message.table 2 header is headed in
    let d = says.dictionary in
    let is3 = bytes_table header 1 says.values is2 d.valued in
    rw (
      reads_table message.table 2 (Some header) is headed,
      reads_scalar 8 header 0 0 sent.id is2 d.identified,
      reads_table header 1 (Some says.values) is2 d.valued,
      reads_scalar 1 header 2 0 d.delta.0 is2 d.delta.1,
      parts_read message says.values body sent.parts is is3 says.parts,
      ← d.delta.2,
    ) refl

dictionary_told : (known : Known) (sent : Sent) (message : MessageAt) (after : Known) → IsBytes sent.header → IsMessage sent.header message → message.kind ≡ kinds.DictionaryBatch →
    known_after known message sent.body ≡ Ok after → BringsDictionary (context_of known) sent (context_of after)
unfolding known_after dictionary_sent
dictionary_told known sent message after is said kind e =
    let fields = known.schema.fields in
    let body = sent.body in
    let is2 = subst IsBytes (sym said.root.same) is in
    let a = bind_ok (dictionary_sent known message body) _ after e in
    let b = bind_ok (dictionary_parts message body) _ a.0 a.1 in
    let c = bind_ok (demand (list_any (leads_to (b.0).id) fields) BadBatch) _ a.0 b.2 in
    let d = bind_ok (counts_agree 1 3 (b.0).parts) _ a.0 c.2 in
    let same : b.0 ≡ a.0 = let last = d.2 in cc in
    let f = bind_ok (one_texts (a.0).parts.rows body (a.0).parts.nodes (a.0).parts.places) _ after a.2 in
    let g = bind_ok (extended_by (kept_of (a.0).is_delta (values_under known.dictionaries (a.0).id)) f.0) _ after f.2 in
    let made : Known = record known { dictionaries = with_values (a.0).id g.0 known.dictionaries } in
    let made_is : made ≡ after = let last = g.2 in cc in
    let told = sent_told message body a.0 is2 (b.1 ∙ ap Ok same) in
    let parts = told.2.parts in
    let one = one_told (a.0).parts.rows body known.dictionaries (a.0).parts.nodes (a.0).parts.places f.0 f.1 in
    let values = extended_told (kept_of (a.0).is_delta (values_under known.dictionaries (a.0).id)) f.0 g.0 g.1 in
    subst (λ (x : Known). BringsDictionary (context_of known) sent (context_of x)) {x = made} made_is (record {
      header = told.0;
      message = subst (λ (k : HeaderKind). SaysMessage sent k told.0) kind (says_message sent message told.0 said (record { headed = told.1; claims = parts.claims }));
      id = (a.0).id;
      values = told.2.values;
      is_delta = (a.0).is_delta;
      dictionary = told.2.dictionary;
      wanted = ap (λ (x : DictionaryParts). list_any (leads_to x.id) fields) (sym same) ∙ demand_ok (list_any (leads_to (b.0).id) fields) BadBatch c.0 c.1;
      parts = (a.0).parts;
      says = parts.says;
      node = one.node;
      nodes = one.noded;
      buffers = one.many;
      cells = f.0;
      texts = one.column;
      room = values.1;
      schema = refl;
      sets = subst (λ (vs : List Value). Sets (values_under known.dictionaries) (a.0).id vs (values_under (with_values (a.0).id g.0 known.dictionaries))) values.0 (set_so known.dictionaries (a.0).id g.0);
    })

-- what is known after a dictionary that a message brings
record Learns (known : Known) (message : MessageAt) (body : List ℕ) (after : Context) : Type 0 where
  found : Known
  read : known_after known message body ≡ Ok found
  seen : context_of found ≡ after

dictionary_read : (known : Known) (sent : Sent) (after : Context) → IsBytes sent.header → (says : BringsDictionary (context_of known) sent after) →
    Learns known (message_at sent kinds.DictionaryBatch says.header says.message) sent.body after
unfolding known_after dictionary_sent
dictionary_read known sent after is says =
    let body = sent.body in
    let message = message_at sent kinds.DictionaryBatch says.header says.message in
    let is2 = subst IsBytes (sym says.message.root.same) is in
    let headed = is_headed sent kinds.DictionaryBatch says.header says.message in
    let parts = says.parts in
    let d : DictionaryParts = record { id = says.id; parts = parts; is_delta = says.is_delta } in
    let read = sent_read message says.header body d is2 says.message.headed (record { values = says.values; dictionary = says.dictionary; parts = record { says = says.says; claims = headed.claims } }) in
    let old = kept_of says.is_delta (values_under known.dictionaries says.id) in
    let all = old ++ texts_values says.cells in
    let one = one_read parts.rows body known.dictionaries parts.nodes parts.places says.cells (record { node = says.node; noded = says.nodes; many = says.buffers; column = says.texts }) in
    let found : Known = record known { dictionaries = with_values says.id all known.dictionaries } in
    let same = sets_once (values_under known.dictionaries) says.id all (values_under (with_values says.id all known.dictionaries)) after.dictionaries (set_so known.dictionaries says.id all) says.sets in
    record {
      found = found;
      read = rw (read, says.wanted, counts_read 1 3 parts (ap length says.nodes) says.buffers, one, extended_read old says.cells says.room) refl;
      seen = rw (same, ← says.schema) refl;
    }

-- ---- schemas

schema_told : (sent : Sent) (message : MessageAt) (schema : Schema) → IsBytes sent.header → IsMessage sent.header message → message.kind ≡ kinds.Schema →
    schema_sent message sent.body ≡ Ok schema → BringsSchema sent schema
unfolding schema_sent
schema_told sent message schema is said kind e =
    let is2 = subst IsBytes (sym said.root.same) is in
    let a = bind_ok (schema_in message) _ schema e in
    let b = bind_ok (body_claimed message sent.body) _ schema a.2 in
    let same : a.0 ≡ schema = let last = b.2 in cc in
    let told = header_told message a.0 is2 a.1 in
    let claims = claims_told message sent.body b.0 is2 b.1 in
    record {
      header = told.header;
      message = subst (λ (k : HeaderKind). SaysMessage sent k told.header) kind (says_message sent message told.header said (record { headed = told.headed; claims = claims }));
      columns = subst (SaysColumns told.header) same told.columns;
    }

schema_read : (sent : Sent) (schema : Schema) → IsBytes sent.header → (says : BringsSchema sent schema) →
    schema_sent (message_at sent kinds.Schema says.header says.message) sent.body ≡ Ok schema
unfolding schema_sent
schema_read sent schema is says =
    let message = message_at sent kinds.Schema says.header says.message in
    let is2 = subst IsBytes (sym says.message.root.same) is in
    let headed = is_headed sent kinds.Schema says.header says.message in
    rw (
      header_read message schema is2 (record { header = says.header; headed = says.message.headed; columns = says.columns }),
      claims_read message sent.body is2 headed.claims,
    ) refl

-- ---- any message

-- what a message says, with dictionaries by their ids
abbrev brought : State → Sent → News → Type 0
brought state sent news = Brings (option_map context_of state) sent (option_map context_of news.state) news.batch

first_told : (kind : HeaderKind) (sent : Sent) (message : MessageAt) (schema : Schema) → IsBytes sent.header → IsMessage sent.header message → message.kind ≡ kind →
    first_schema kind message sent.body ≡ Ok schema → BringsSchema sent schema
first_told kinds.Schema sent message schema is said kind e = schema_told sent message schema is said kind e
first_told kinds.DictionaryBatch sent message schema is said kind e = absurd (let no : ⊥ = cc in no)
first_told kinds.RecordBatch sent message schema is said kind e = absurd (let no : ⊥ = cc in no)

next_told : (kind : HeaderKind) (known : Known) (sent : Sent) (message : MessageAt) (news : News) → IsBytes sent.header → IsMessage sent.header message → message.kind ≡ kind →
    next_news kind known message sent.body ≡ Ok news → brought (Some known) sent news
next_told kinds.Schema known sent message news is said kind e = absurd (let no : ⊥ = cc in no)
next_told kinds.DictionaryBatch known sent message news is said kind e =
    let a = bind_ok (known_after known message sent.body) _ news e in
    let made : News = record { state = Some a.0; batch = None } in
    let same : made ≡ news = let last = a.2 in cc in
    subst (brought (Some known) sent) {x = made} same (dictionary_told known sent message a.0 is said kind a.1)
next_told kinds.RecordBatch known sent message news is said kind e =
    let a = bind_ok (batch_sent known message sent.body) _ news e in
    let made : News = record { state = Some known; batch = Some a.0 } in
    let same : made ≡ news = let last = a.2 in cc in
    subst (brought (Some known) sent) {x = made} same (batch_told known sent message a.0 is said kind a.1, refl)

news_told : (state : State) (sent : Sent) (news : News) → IsBytes sent.header → news_of state sent ≡ Ok news → brought state sent news
unfolding news_of
news_told None sent news is e =
    let m = bind_ok (message_of sent.header) _ news e in
    let a = bind_ok (first_schema (m.0).kind m.0 sent.body) _ news m.2 in
    let known : Known = record { schema = a.0; dictionaries = [] } in
    let made : News = record { state = Some known; batch = None } in
    let same : made ≡ news = let last = a.2 in cc in
    subst (brought None sent) {x = made} same (first_told (m.0).kind sent m.0 a.0 is (message_told sent.header m.0 is m.1) refl a.1, (λ id. refl), refl)
news_told (Some known) sent news is e =
    let m = bind_ok (message_of sent.header) _ news e in
    next_told (m.0).kind known sent m.0 news is (message_told sent.header m.0 is m.1) refl m.2

news_read : (state : State) (sent : Sent) (after : Option Context) (batch : Option BatchAt) → IsBytes sent.header → Brings (option_map context_of state) sent after batch → IsReadAs state sent after batch
unfolding news_of
news_read None sent None batch is says = absurd says
news_read None sent (Some after) batch is says =
    let found : Known = record { schema = after.schema; dictionaries = [] } in
    let says_it = says.0.message in
    let message = message_at sent kinds.Schema says.0.header says_it in
    let same : values_under [] ≡ after.dictionaries = fun_ext (λ id. sym (says.1 id)) in
    record {
      news = record { state = Some found; batch = None };
      read = rw (message_read sent.header message is (is_message sent kinds.Schema says.0.header says_it), schema_read sent after.schema is says.0) refl;
      leaves = rw same refl;
      adds = sym says.2;
    }
news_read (Some known) sent None batch is says = absurd says
news_read (Some known) sent (Some after) None is says =
    let message = message_at sent kinds.DictionaryBatch says.header says.message in
    let learns = dictionary_read known sent after is says in
    record {
      news = record { state = Some learns.found; batch = None };
      read = rw (message_read sent.header message is (is_message sent kinds.DictionaryBatch says.header says.message), learns.read) refl;
      leaves = ap Some learns.seen;
      adds = refl;
    }
news_read (Some known) sent (Some after) (Some batch) is says =
    let message = message_at sent kinds.RecordBatch says.0.header says.0.message in
    record {
      news = record { state = Some known; batch = Some batch };
      read = rw (message_read sent.header message is (is_message sent kinds.RecordBatch says.0.header says.0.message), batch_read known sent batch is says.0) refl;
      leaves = ap Some (sym says.1);
      adds = refl;
    }

pub read_is_brought : ReadIsBrought
read_is_brought state sent after batch is = (
  λ found. subst (λ (b : Option BatchAt). Brings (option_map context_of state) sent after b) found.adds
      (subst (λ (a : Option Context). Brings (option_map context_of state) sent a found.news.batch) found.leaves (news_told state sent found.news is found.read)),
  λ says. news_read state sent after batch is says,
)

-- ---- messages, one after another

abbrev HasBytes : Sent → Type 0
HasBytes sent = IsBytes sent.header

follows_told : (state : State) (messages : List Sent) (end : State) (rows : Rows) → AllByRecursion HasBytes messages → Follows state messages end rows →
    BringRows (option_map context_of state) messages (option_map context_of end) rows
follows_told state [] end rows all p = (ap (option_map context_of) p.0, p.1)
follows_told state (sent ∷ more) end rows all p =
    (option_map context_of p.0.state, p.0.batch, p.1, news_told state sent p.0 all.0 p.2, p.3, follows_told p.0.state more end p.1 all.1 p.4)

-- messages that bring rows are read so, and leave after what is known
record AreRead (state : State) (messages : List Sent) (end : Option Context) (rows : Rows) : Type 0 where
  last : State
  same : option_map context_of last ≡ end
  follows : Follows state messages last rows

follows_read : (state : State) (messages : List Sent) (end : Option Context) (rows : Rows) → AllByRecursion HasBytes messages → BringRows (option_map context_of state) messages end rows → AreRead state messages end rows
follows_read state [] end rows all p = record { last = state; same = sym p.0; follows = (refl, p.1) }
follows_read state (sent ∷ more) end rows all p =
    let found = news_read state sent p.0 p.1 all.0 p.3 in
    let behind = subst (λ (context : Option Context). BringRows context more end p.2) (sym found.leaves) p.5 in
    let rest = follows_read found.news.state more end p.2 all.1 behind in
    let rows_is : rows ≡ rows_in found.news.batch ++ p.2 = p.4 ∙ ap (λ (b : Option BatchAt). rows_in b ++ p.2) (sym found.adds) in
    record { last = rest.last; same = rest.same; follows = (found.news, p.2, found.read, rows_is, rest.follows) }

says_read : (messages : List Sent) (end : Context) (schema : Schema) (rows : Rows) → end.schema ≡ schema → AreRead None messages (Some end) rows → Says messages schema rows
says_read messages end schema rows same r = by r.last r.same r.follows
  where
    by : (last : State) → option_map context_of last ≡ Some end → Follows None messages last rows → Says messages schema rows
    by None e follows = absurd (let no : ⊥ = cc in no)
    by (Some known) e follows =
        let context : context_of known ≡ end = cc in
        (known, ap (λ (x : Context). x.schema) context ∙ same, follows)

pub said_is_brought : SaidIsBrought
said_is_brought messages schema rows all =
    let each = recursion_from_All HasBytes messages all in (
      λ p. (context_of p.0, p.1, follows_told None messages (Some p.0) rows each p.2),
      λ q. says_read messages q.0 schema rows q.1 (follows_read None messages (Some q.0) rows each q.2),
    )
