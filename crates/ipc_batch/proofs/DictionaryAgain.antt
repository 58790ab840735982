-- A dictionary that was written is read again with the same values.
use Rattle.std.proofs.Common.{◌≡◌, ℕ, ◌+◌, ◌==◌, ◌^◌, ◌<◌, ◌≤◌, nat_le, not, Bool, true, false, List, [], ◌∷◌, ◌++◌, length, Some, None, Result, Ok, refl, arith, ap, sym, subst, ◌∙◌, append-nil}
use Rattle.std.specs.List.{list_any}
use Rattle.std.proofs.lemmas.Bool.{eq-eqb, eqb-true, eqb-false, ne_eqb, le-leb}
use Rattle.std.proofs.lemmas.List.{length-append}
use Rattle.std.proofs.lemmas.List.FromFn.{length-map-range_with_len}
use Rattle.scan_base.specs.declared.fault.Fault.{Fault}
use Rattle.scan_base.specs.declared.fault.Fault.TheVariants.{BadBatch, LimitReached}
use Rattle.scan_base.specs.declared.value.Value.{Value}
use Rattle.scan_base.specs.Reading.{◌>>=◌, demand}
use Rattle.scan_base.specs.Lists.{each}
use Rattle.flatbuf.specs.Place.{scalar_of}
use Rattle.flatbuf.specs.Block.{Part, Given, Number, Offset, given_at, little, table_part, buffer_of}
use Rattle.flatbuf.specs.Fits.{FitsTable}
use Rattle.flatbuf.specs.WrittenTables.{table_at, LeadsToBlock, SlotReads}
use Rattle.flatbuf.proofs.Standing.{length-little}
use Rattle.flatbuf.proofs.Written.{table_reads}
use Rattle.flatbuf.proofs.Lengths.{whole_table, short_table, fits_table}
use Rattle.flatbuf.proofs.Led.{led_table}
use Rattle.arrow_types.specs.declared.data_type.DataType.{DataType}
use Rattle.arrow_types.specs.declared.data_type.DataType.TheVariants.{Number, Utf8, Bool as Flags, Dictionary}
use Rattle.arrow_schema.specs.declared.header.HeaderKind.TheVariants.{DictionaryBatch}
use Rattle.arrow_schema.specs.TypeTables.{flag}
use Rattle.arrow_schema.specs.Header.{MessageAt, table_wanted}
use Rattle.arrow_schema.specs.Message.{message_part, message_bytes, MessageReads}
use Rattle.arrow_schema.proofs.Messages.{messages_read, short_message}
use Rattle.arrays.specs.declared.layout.Layout.TheVariants as layout
use Rattle.arrays.specs.Texts.{TextsAt, texts_slot, texts_values}
use Rattle.scan_base.specs.Limits.{most_values}
use Rattle.arrays.specs.Dictionary.{extended_by}
use Rattle.arrays.specs.Column.{ColumnAt, slot_of, values_of, whole}
use Rattle.arrays.specs.Batch.{BatchAt}
use Rattle.array_buffers.specs.ColumnBuffers.{values_written}
use Rattle.array_buffers.proofs.Packed.{map_same}
use Rattle.ipc_batch.specs.declared.parts.BufferPlace.{BufferPlace}
use Rattle.ipc_batch.specs.Parts.{DictionaryParts, dictionary_parts, buffer_at}
use Rattle.ipc_batch.specs.Columns.{FrontAt, texts_in_buffers, front_of, values_led_to, one_texts, counts_agree}
use Rattle.ipc_batch.specs.State.{Known, Dictionaries, values_under, with_values}
use Rattle.ipc_batch.specs.SaidRows.{Sent, News, leads_to, kept_of, has_id, dictionary_sent, known_after, news_of}
use Rattle.ipc_batch.specs.WrittenMessages.{WrittenParts, FitsBatch, FitParts, parts_part, dictionary_batch_part, body_of, body_length, batch_buffers_written, node_written, parts_written, values_batch, values_after, dictionary_news, most_header_bytes, SaysDictionaryParts, SaysValues}
use Rattle.ipc_batch.specs.Laws.{DictionariesReadBack}
use Rattle.ipc_batch.proofs.Entries.{under_set, under_other}
use Rattle.ipc_batch.proofs.Lengths.{fine, both}
use Rattle.ipc_batch.proofs.PartsAgain.{few_bytes, parts_read, is_whole, short_parts}
use Rattle.ipc_batch.proofs.BatchAgain.{fit_parts, column_short}
use Rattle.ipc_batch.proofs.WriterLoops.{short_texts}
use Rattle.ipc_batch.proofs.ColumnsAgain.{Front, front_again}

-- ---- the tables

low_flag : (b : Bool) → flag b < 256
low_flag true = omega arith
low_flag false = omega arith

flag_again : (b : Bool) → not (flag b == 0) ≡ b
flag_again true = refl
flag_again false = refl

-- the slots of a dictionary's table
abbrev pub dictionary_slots : ℕ → Part → ℕ → List Given
dictionary_slots id values delta = Number id ∷ Offset values ∷ Number delta ∷ []

pub fits_dictionary : (id : ℕ) (values : Part) (delta : ℕ) → length values.bytes < 2 ^ 29 → FitsTable (dictionary_slots id values delta)
fits_dictionary id values delta short =
    let a = ap length (append-nil values.bytes) in
    fits_table (dictionary_slots id values delta) (omega arith) (omega arith)

pub short_dictionary : (id : ℕ) (values : Part) (delta : ℕ) → length values.bytes < 2 ^ 29 → length (table_part (dictionary_slots id values delta)).bytes < 2 ^ 30
short_dictionary id values delta short =
    let a = ap length (append-nil values.bytes) in
    let b = short_table (dictionary_slots id values delta) in
    omega arith

-- the header of a dictionary's message has few bytes
short_message_of : (id : ℕ) (values : Part) (delta n : ℕ) → length values.bytes ≤ 4176 → length (message_bytes DictionaryBatch (table_part (dictionary_slots id values delta)) n) ≤ most_header_bytes
unfolding buffer_of
short_message_of id values delta n few =
    let block = table_part (dictionary_slots id values delta) in
    let a = ap length (append-nil values.bytes) in
    let b = short_table (dictionary_slots id values delta) in
    let part = message_part DictionaryBatch block n in
    let message = short_message DictionaryBatch block n in
    let all = length-append (little 8 (8 + part.root)) part.bytes in
    let front = length-little 8 (8 + part.root) in
    omega arith

pub dictionary_header_short : (batch : BatchAt) (id delta n : ℕ) (table block : Part) (header : List ℕ) → FitsBatch batch → table ≡ parts_part (parts_written batch) →
    block ≡ table_part (dictionary_slots id table delta) → header ≡ message_bytes DictionaryBatch block n → length header ≤ most_header_bytes
dictionary_header_short batch id delta n table block header fits table_is block_is header_is =
    let is : header ≡ message_bytes DictionaryBatch (table_part (dictionary_slots id (parts_part (parts_written batch)) delta)) n = rw (header_is, block_is, table_is) refl in
    subst (λ (x : List ℕ). length x ≤ most_header_bytes) (sym is) (short_message_of id (parts_part (parts_written batch)) delta n (few_bytes (parts_written batch) (fit_parts batch fits)))

-- the message of a dictionary
abbrev pub dictionary_written : ℕ → WrittenParts → Bool → Sent
dictionary_written id parts is_delta = record {
  header = message_bytes DictionaryBatch (dictionary_batch_part id parts is_delta) (length (body_of parts.buffers));
  body = body_of parts.buffers;
}

dictionary_reads : (id : ℕ) (parts : WrittenParts) (is_delta : Bool) → FitParts parts →
    MessageReads (message_bytes DictionaryBatch (dictionary_batch_part id parts is_delta) (length (body_of parts.buffers))) DictionaryBatch (dictionary_batch_part id parts is_delta) (length (body_of parts.buffers))
unfolding dictionary_batch_part
dictionary_reads id parts is_delta fit =
    let slots = dictionary_slots id (parts_part parts) (flag is_delta) in
    let small = fit.small in
    messages_read DictionaryBatch (table_part slots) (length (body_of parts.buffers)) (whole_table slots (is_whole parts, tt)) (short_dictionary id (parts_part parts) (flag is_delta) (short_parts parts fit)) (omega arith)

-- the parts that a dictionary's message says
pub dictionary_parts_said : (id : ℕ) (parts : WrittenParts) (is_delta : Bool) → id < 2 ^ 64 → FitParts parts →
    (s : SaysDictionaryParts (dictionary_written id parts is_delta) id parts is_delta) × (s.message.kind ≡ DictionaryBatch)
unfolding dictionary_batch_part dictionary_parts table_wanted
dictionary_parts_said id parts is_delta low fit =
    let slots = dictionary_slots id (parts_part parts) (flag is_delta) in
    let bytes = message_bytes DictionaryBatch (dictionary_batch_part id parts is_delta) (length (body_of parts.buffers)) in
    let m = dictionary_reads id parts is_delta fit in
    let t = table_at bytes m.place (dictionary_batch_part id parts is_delta) in
    let told : (slot : ℕ) → SlotReads t slot (given_at slots slot) =
    table_reads slots bytes m.place (fits_dictionary id (parts_part parts) (flag is_delta) (short_parts parts fit)) (is_whole parts, tt) m.stands in
    let number : scalar_of 8 t 0 0 ≡ Ok id = told 0 8 0 (omega arith) (omega arith) in
    let led : LeadsToBlock t 1 (parts_part parts) = told 1 in
    let delta : scalar_of 1 t 2 0 ≡ Ok (flag is_delta) = told 2 1 0 (omega arith) (low_flag is_delta) in
    let same = parts_read parts m.message bytes led.place fit led.stands m.body_length_again in (
      record {
        message = m.message;
        table = table_at bytes led.place (parts_part parts);
        found = m.found;
        claimed = m.body_length_again;
        same = same;
        said = rw (m.header_again, number, led_table t 1 (parts_part parts) led, delta, same.said, flag_again is_delta) refl;
      },
      m.kind_again,
    )

-- ---- the values

-- the texts that a dictionary's message says
record TextsRead (body : List ℕ) (column : ColumnAt) (places : List BufferPlace) : Type 0 where
  pub texts : TextsAt
  pub read : one_texts column.len body (node_written column ∷ []) places ≡ Ok texts
  pub values : texts_values texts ≡ values_of column
  pub many : length places ≡ 3

no_place : (body : List ℕ) (places : List BufferPlace) → each (buffer_at body) places ≡ Ok [] → places ≡ []
no_place body [] e = refl
no_place body (place ∷ more) e =
    let a = both (buffer_at body place) (λ (y : List ℕ). (each (buffer_at body) more >>= λ ys. fine (y ∷ ys))) [] e in
    let b = both (each (buffer_at body) more) (λ (ys : List (List ℕ)). fine (a.0 ∷ ys)) [] a.2 in
    absurd (let c = b.2 in let no : ⊥ = cc in no)

pub texts_whole : (texts : TextsAt) → values_of (whole (layout.Texts texts)) ≡ texts_values texts
texts_whole texts = map_same (slot_of (whole (layout.Texts texts))) (texts_slot texts) 0 texts.len (λ j first low. let z : 0 + j ≡ j = omega arith in ap (texts_slot texts) z)

texts_read : (body : List ℕ) (column : ColumnAt) (places : List BufferPlace) → Front Utf8 [] column.len body column places [] → TextsRead body column places
unfolding front_of
texts_read body column [] front = absurd (let e = front.read in let no : ⊥ = cc in no)
texts_read body column (a ∷ []) front = absurd (let e = front.read in let no : ⊥ = cc in no)
texts_read body column (a ∷ b ∷ []) front = absurd (let e = front.read in let no : ⊥ = cc in no)
texts_read body column (a ∷ b ∷ c ∷ more) front =
    let node = node_written column in
    let made = both (texts_in_buffers column.len body node a b c) (λ (texts : TextsAt). fine (record { layout = layout.Texts texts; behind = more })) front.front front.read in
    let same : record { layout = layout.Texts made.0; behind = more } ≡ front.front = let e = made.2 in cc in
    let none : more ≡ [] = no_place body more (subst (λ (x : FrontAt). each (buffer_at body) x.behind ≡ Ok []) (sym same) front.behind) in
    record {
      texts = made.0;
      read = ap (λ (xs : List BufferPlace). one_texts column.len body (node ∷ []) (a ∷ b ∷ c ∷ xs)) none ∙ made.1;
      values = sym (texts_whole made.0) ∙ subst (λ (x : FrontAt). values_of (whole x.layout) ≡ values_of column) (sym same) front.values;
      many = ap (λ (xs : List BufferPlace). length (a ∷ b ∷ c ∷ xs)) none;
    }

-- what comes after a condition, and then a value
demand_first : {A B C : Type 0} (holds : Bool) (fault : Fault) (x : A) (next : A → Result B Fault) (last : B → Result C Fault) (rest : Result C Fault) →
    (next x >>= last) ≡ rest → (((demand holds fault >>= λ _. fine x) >>= next) >>= last) ≡ (demand holds fault >>= λ _. rest)
demand_first true fault x next last rest e = e
demand_first false fault x next last rest e = refl

demand_last : {A B C : Type 0} (holds : Bool) (fault : Fault) (x : A) (next : A → B) (last : B → C) →
    (((demand holds fault >>= λ _. fine x) >>= λ (y : A). fine (next y)) >>= λ (z : B). fine (last z)) ≡ (demand holds fault >>= λ _. fine (last (next x)))
demand_last true fault x next last = refl
demand_last false fault x next last = refl

-- what is read of a dictionary whose id a field has
sent_again : (known : Known) (message : MessageAt) (body : List ℕ) (d : DictionaryParts) → dictionary_parts message body ≡ Ok d → length d.parts.nodes ≡ 1 → length d.parts.places ≡ 3 →
    dictionary_sent known message body ≡ (demand (list_any (leads_to d.id) known.schema.fields) BadBatch >>= λ _. fine d)
unfolding dictionary_sent counts_agree
sent_again known message body d said one three = rw said (by (list_any (leads_to d.id) known.schema.fields))
  where
    by : (holds : Bool) → (demand holds BadBatch >>= λ _. (counts_agree 1 3 d.parts >>= λ _. fine d)) ≡ (demand holds BadBatch >>= λ _. fine d)
    by true = rw (eq-eqb (length d.parts.nodes) 1 one, eq-eqb (length d.parts.places) 3 three) refl
    by false = refl

-- the values with those of read texts after them
extended_again : (old : List Value) (texts : TextsAt) (values : List Value) → texts_values texts ≡ values →
    extended_by old texts ≡ (demand (nat_le (length (old ++ values)) most_values) LimitReached >>= λ _. fine (old ++ values))
unfolding extended_by
extended_again old texts values same =
    let long = length-append old values in
    let many = length-map-range_with_len (texts_slot texts) 0 texts.len in
    let e : length old + texts.len ≡ length (old ++ values) = omega (arith, long, many, ap length same) in
    rw (e, same) refl

-- the message of a dictionary says its values
pub dictionary_said : (id : ℕ) (values : TextsAt) (is_delta : Bool) → id < 2 ^ 64 → FitsBatch (values_batch values) →
    SaysValues (dictionary_written id (parts_written (values_batch values)) is_delta) id (texts_values values) is_delta
unfolding news_of known_after values_written dictionary_news
dictionary_said id values is_delta low fits known =
    let batch = values_batch values in
    let parts = parts_written batch in
    let column = whole (layout.Texts values) in
    let body = body_of parts.buffers in
    let s = dictionary_parts_said id parts is_delta low (fit_parts batch fits) in
    let places = (s.0).same.places in
    let stands = fits.stand 0 column (omega arith) in
    let short = short_texts column (column_short batch.columns 0 column (omega arith) fits.small) in
    let texts = texts_read body column places (front_again Utf8 [] body column places [] stands tt tt short (s.0).same.buffers) in
    let same : texts_values texts.texts ≡ texts_values values = texts.values ∙ texts_whole values in
    let old = kept_of is_delta (values_under known.dictionaries id) in
    let all = old ++ texts_values values in
    let d : DictionaryParts = record { id = id; parts = record { rows = parts.rows; nodes = parts.nodes; places = places }; is_delta = is_delta } in
    let after : List Value → Known = λ vs. record known { dictionaries = with_values id vs known.dictionaries } in
    let news : Known → News = λ k. record { state = Some k; batch = None } in
    let next : DictionaryParts → Result Known Fault = λ x. (one_texts x.parts.rows body x.parts.nodes x.parts.places >>= λ read.
    (extended_by (kept_of x.is_delta (values_under known.dictionaries x.id)) read >>= λ vs. fine (record known { dictionaries = with_values x.id vs known.dictionaries }))) in
    rw ((s.0).found, s.1, sent_again known (s.0).message body d (s.0).said refl texts.many)
    (demand_first (list_any (leads_to id) known.schema.fields) BadBatch d next (λ (k : Known). fine (news k)) (demand (nat_le (length all) most_values) LimitReached >>= λ _. fine (news (after all)))
    (rw (texts.read, extended_again old texts.texts (texts_values values) same) (demand_last (nat_le (length all) most_values) LimitReached all after news)))

-- what the bytes say that are made of a dictionary
pub tells : (id : ℕ) (values : TextsAt) (is_delta : Bool) (batch : BatchAt) (header body : List ℕ) → id < 2 ^ 64 → batch ≡ values_batch values → FitsBatch batch →
    header ≡ message_bytes DictionaryBatch (dictionary_batch_part id (parts_written batch) is_delta) (body_length batch) → body ≡ body_of (batch_buffers_written batch.columns) →
    SaysDictionaryParts (record { header = header; body = body }) id (parts_written (values_batch values)) is_delta × SaysValues (record { header = header; body = body }) id (texts_values values) is_delta
tells id values is_delta batch header body low same fits header_is body_is =
    let fits2 : FitsBatch (values_batch values) = subst FitsBatch same fits in
    let parts = parts_written (values_batch values) in
    let is : dictionary_written id parts is_delta ≡ record { header = header; body = body } = rw (header_is, body_is, same) refl in (
      subst (λ (x : Sent). SaysDictionaryParts x id parts is_delta) is (dictionary_parts_said id parts is_delta low (fit_parts (values_batch values) fits2)).0,
      subst (λ (x : Sent). SaysValues x id (texts_values values) is_delta) is (dictionary_said id values is_delta low fits2),
    )

-- ---- what is known after it

led_own : (dictionaries : Dictionaries) (id : ℕ) (values : List Value) (data_type : DataType) → has_id id data_type ≡ true → values_led_to data_type (with_values id values dictionaries) ≡ values
led_own dictionaries id values (Dictionary encoding) is = rw (eqb-true encoding.id id is) (under_set dictionaries id values)
led_own dictionaries id values (Number kind) is = cc
led_own dictionaries id values Utf8 is = cc
led_own dictionaries id values Flags is = cc

led_others : (dictionaries : Dictionaries) (id : ℕ) (values : List Value) (data_type : DataType) → has_id id data_type ≡ false →
    values_led_to data_type (with_values id values dictionaries) ≡ values_led_to data_type dictionaries
led_others dictionaries id values (Dictionary encoding) other = under_other dictionaries id encoding.id values (ne_eqb id encoding.id (λ same. eqb-false encoding.id id other (sym same)))
led_others dictionaries id values (Number kind) other = refl
led_others dictionaries id values Utf8 other = refl
led_others dictionaries id values Flags other = refl

pub dictionaries_again : DictionariesReadBack
unfolding dictionary_news
dictionaries_again sent id values is_delta says known has room =
    let all = values_after known.dictionaries id values is_delta in
    let after : Known = record known { dictionaries = with_values id all known.dictionaries } in
    let news : news_of (Some known) sent ≡ Ok (record { state = Some after; batch = None }) = says known ∙ rw (has, le-leb (length all) most_values room) refl in (
      after,
      record { schema = refl; own = led_own known.dictionaries id all; others = led_others known.dictionaries id all },
      λ more end rows follows. (record { state = Some after; batch = None }, rows, news, refl, follows),
    )
