-- What an info is made of, from what was found.
use Rattle.std.proofs.Common.{◌≡◌, ◌≤◌, ◌<◌, ◌^◌, ◌++◌, ◌+◌, ◌*◌, ◌/◌, ℕ, zero, suc, nat_le, Bool, true, false, List, [], ◌∷◌, length, map, replicate, All, Ok, refl, sym, ap, subst, ◌∙◌, arith, rules, length-append}
use Rattle.std.specs.Prelude.{IsUtf8}
use Rattle.std.proofs.lemmas.List.{length-map, length-replicate}
use Rattle.std.proofs.lemmas.List.Elements.{All-nil, All-cons}
use Rattle.scan_base.specs.declared.fault.Fault.TheVariants.{LimitReached}
use Rattle.scan_base.specs.Limits.{most_endpoints, most_message_bytes, most_query_bytes}
use Rattle.scan_base.specs.Reading.{demand, RefusesFirst}
use Rattle.flatbuf.specs.Block.{little, padded}
use Rattle.flatbuf.proofs.Standing.{length-little}
use Rattle.arrow_schema.specs.WrittenHeader.{encapsulated}
use Rattle.arrow_schema.proofs.Framed.{length_header}
use Rattle.endpoint_split.specs.declared.ranges.Range.{Range}
use Rattle.endpoint_split.specs.Handle.{HandleAt, Query, Tables, IsHandle}
use Rattle.endpoint_split.specs.Split.{count_of, range_at, first_ranges, ranges_of, IsPartition}
use Rattle.endpoint_split.proofs.Cuts.{ranges_are_partition}
use Rattle.proto_wire.specs.Calls.{chunk_entry}
use Rattle.proto_wire.specs.Writing.{field_spelling}
use Rattle.flight_proto.specs.InfoCommand.{rows_of, tables}
use Rattle.flight_proto.specs.WrappedBytes.{wrapped_bytes}
use Rattle.sql_query.specs.Sentence.{is_grouped}
use Rattle.table_versions.specs.Database.{Database}
use Rattle.typed_plan.specs.Plan.{PlanAt}
use Rattle.flight_info.specs.QueryMeaning.{first_rows, result_over}
use Rattle.flight_info.specs.QueryPlan.{IsPlanned}
use Rattle.flight_info.specs.Tables.{tables_schema, tables_listed}
use Rattle.flight_info.specs.Forms.{IsSchemaForm}
use Rattle.flight_info.specs.Infos.{ranges_over, ranges_asked}
use Rattle.flight_info.specs.inside.InfoParts.{ticket_bytes, text_in, most_form_bytes, HasForm, Describes}
use Rattle.flight_info.proofs.Sizes.{short_chunk, short_set}

-- ---- a schema in IPC form

form_len : (header : List ℕ) → length header ≤ 2 ^ 15 → length (encapsulated header) ≤ most_form_bytes
unfolding encapsulated
form_len header short =
    let whole = length-append (replicate 4 255) (little 4 (length (padded header)) ++ padded header) in
    let behind = length-append (little 4 (length (padded header))) (padded header) in
    let count = length-little 4 (length (padded header)) in
    let zeros = length_header header in
    let mark = length-replicate {A = ℕ} 4 255 in
    omega arith

pub form_small : (header form : List ℕ) → length header ≤ 2 ^ 15 → form ≡ encapsulated header → length form ≤ most_form_bytes
form_small header form short framed = omega (arith, ap length framed, form_len header short)

-- the payload of a SchemaResult
pub result_fits : (form payload : List ℕ) → payload ≡ wrapped_bytes form → length form ≤ most_form_bytes → length payload ≤ most_message_bytes
result_fits form payload is small =
    let first = chunk_entry 1 form in
    omega (arith, small, ap length is, short_set (first ∷ []), length-append (field_spelling first) [], short_chunk 1 form)

-- ---- handles

abbrev query_at : ℕ → List ℕ → Range → HandleAt
query_at n text range = Query n range.from range.to text

rises : (a b : ℕ) (ranges : List Range) → IsPartition a b ranges → a ≤ b
rises a b [] e = omega (arith, e)
rises a b (range ∷ ranges) p = omega (arith, p.0, p.1, rises range.to b ranges p.2)

sound_handles : (n : ℕ) (text : List ℕ) → n < 2 ^ 64 → IsUtf8 text → (a b : ℕ) (ranges : List Range) → IsPartition a b ranges → b < 2 ^ 32
    → All IsHandle (map (query_at n text) ranges)
sound_handles n text small utf8 a b [] p few = All-nil IsHandle
sound_handles n text small utf8 a b (range ∷ ranges) p few =
    let within : range.to ≤ b = rises range.to b ranges p.2 in
    let ordered : range.from ≤ range.to = p.1 in
    All-cons IsHandle (query_at n text range) (map (query_at n text) ranges) (small, omega arith, omega arith, utf8) (sound_handles n text small utf8 range.to b ranges p.2 few)

short_handles : (n : ℕ) (text : List ℕ) → length text ≤ most_query_bytes → (ranges : List Range)
    → All (λ (handle : HandleAt). length (text_in handle) ≤ most_query_bytes) (map (query_at n text) ranges)
short_handles n text short [] = All-nil (λ (handle : HandleAt). length (text_in handle) ≤ most_query_bytes)
short_handles n text short (range ∷ ranges) =
    All-cons (λ (handle : HandleAt). length (text_in handle) ≤ most_query_bytes) (query_at n text range) (map (query_at n text) ranges) short (short_handles n text short ranges)

how_many : (rows p n : ℕ) → length (first_ranges rows p n) ≡ n
how_many rows p zero = refl
how_many rows p (suc n) = omega (arith, length-append (first_ranges rows p n) (range_at rows p n ∷ []), how_many rows p n)

few_ranges : (rows parts : ℕ) → length (ranges_of rows parts) ≤ most_endpoints
unfolding ranges_of
few_ranges rows parts = omega (arith, how_many rows (count_of rows parts) (count_of rows parts))

tickets_are : (n : ℕ) (text : List ℕ) (ranges : List Range) → map (λ (range : Range). ticket_bytes (query_at n text range)) ranges ≡ map ticket_bytes (map (query_at n text) ranges)
tickets_are n text [] = refl
tickets_are n text (range ∷ ranges) = ap (λ more. ticket_bytes (query_at n text range) ∷ more) (tickets_are n text ranges)

-- ---- a query

-- a text that was not refused first is short
pub text_short : {X : Type 0} (x : X) (text : List ℕ) → RefusesFirst (Ok x) (demand (nat_le (length text) most_query_bytes) LimitReached) → length text ≤ most_query_bytes
text_short {X} x text first = by (nat_le (length text) most_query_bytes) refl first
  where
    by : (short : Bool) → nat_le (length text) most_query_bytes ≡ short → RefusesFirst (Ok x) (demand short LimitReached) → length text ≤ most_query_bytes
    by true e first = search (rules, e)
    by false e first = absurd cc

-- of so many rows one part is the whole
pub one_range : (rows : ℕ) → ranges_of rows 1 ≡ record { from = 0; to = rows } ∷ []
unfolding ranges_of
one_range rows =
    let one : count_of rows 1 ≡ 1 = omega arith in
    let begin : 0 * rows / 1 ≡ 0 = omega arith in
    let end : (0 + 1) * rows / 1 ≡ rows = omega arith in
    rw (one, begin, end) refl

parts_are : (grouped : Bool) (rows parts : ℕ) → IsPartition 0 rows (ranges_over grouped rows parts)
parts_are true rows parts = (refl, omega arith, refl)
parts_are false rows parts = ranges_are_partition rows parts

few_parts : (grouped : Bool) (rows parts : ℕ) → length (ranges_over grouped rows parts) ≤ most_endpoints
few_parts true rows parts = omega arith
few_parts false rows parts = few_ranges rows parts

module _ (database : Database) (text : List ℕ) (plan : PlanAt) (rows : ℕ) (grouped : Bool) (planned : IsPlanned database text plan rows grouped)
    (form : List ℕ) (is : IsSchemaForm form plan.schema) (small : length form ≤ most_form_bytes) where
  formed : IsSchemaForm form (result_over planned.query database 0 (first_rows database planned.query)).schema
  formed = subst (IsSchemaForm form) planned.of.schema is

  pub query_form : HasForm database (rows_of text) form
  query_form = record {
    answer = result_over planned.query database 0 (first_rows database planned.query);
    answers = (planned.query, planned.asks, refl);
    schema = formed;
    small = small;
  }

  -- the ranges of the rows are those that the query is asked for
  same_ranges : (parts : ℕ) → ranges_asked planned.query database parts ≡ ranges_over grouped rows parts
  same_ranges parts = ap (λ (n : ℕ). ranges_over (is_grouped planned.query) n parts) (sym planned.counted) ∙ ap (λ (g : Bool). ranges_over g rows parts) (sym planned.groups)

  pub query_described : (n parts : ℕ) (tickets : List (List ℕ)) → n < 2 ^ 64 → IsUtf8 text → length text ≤ most_query_bytes
      → tickets ≡ map (λ (range : Range). ticket_bytes (query_at n text range)) (ranges_over grouped rows parts) → Describes database n parts (rows_of text) form tickets
  query_described n parts tickets here utf8 short are =
      let ranges = ranges_over grouped rows parts in
      record {
        answer = result_over planned.query database 0 (first_rows database planned.query);
        answers = (planned.query, planned.asks, refl);
        schema = formed;
        handles = map (query_at n text) ranges;
        right = (planned.query, planned.asks, ap (map (query_at n text)) (sym (same_ranges parts)));
        written = are ∙ tickets_are n text ranges;
        sound = sound_handles n text here utf8 0 rows ranges (parts_are grouped rows parts) (omega (arith, planned.few));
        short = short_handles n text short ranges;
        few = omega (arith, few_parts grouped rows parts, length-map ranges (query_at n text));
        small = small;
      }

-- ---- the list of tables

module _ (database : Database) (form : List ℕ) (is : IsSchemaForm form tables_schema) (small : length form ≤ most_form_bytes) where
  pub tables_form : HasForm database tables form
  tables_form = record { answer = tables_listed database; answers = refl; schema = is; small = small }

  pub tables_described : (n parts : ℕ) (tickets : List (List ℕ)) → n < 2 ^ 64 → tickets ≡ ticket_bytes (Tables n) ∷ [] → Describes database n parts tables form tickets
  tables_described n parts tickets here are = record {
    answer = tables_listed database;
    answers = refl;
    schema = is;
    handles = Tables n ∷ [];
    right = refl;
    written = are;
    sound = All-cons IsHandle (Tables n) [] here (All-nil IsHandle);
    short = All-cons (λ (handle : HandleAt). length (text_in handle) ≤ most_query_bytes) (Tables n) [] (omega arith) (All-nil (λ (handle : HandleAt). length (text_in handle) ≤ most_query_bytes));
    few = omega arith;
    small = small;
  }
