-- The columns of the batches that a stream and rows hold.
use Rattle.std.proofs.Common.{◌≡◌, ◌&&◌, ◌++◌, Bool, true, false, List, [], ◌∷◌, All, Option, Some, None, Ok, Err, refl, sym, subst, ◌∙◌}
use Rattle.std.specs.Prelude.{IfSome, option_map}
use Rattle.arrow_types.specs.Schema.{IsSchema}
use Rattle.std.specs.List.{list_all, AllByRecursion}
use Rattle.std.proofs.lemmas.List.Elements.{All-head, All-tail, All-push, All-append, All-weaker, All-from_recursion}
use Rattle.scan_base.specs.declared.fault.Fault.TheVariants.{BadBatch, SchemaMismatch}
use Rattle.scan_base.specs.Reading.{◌>>=◌, wanted}
use Rattle.scan_base.specs.Lists.{each}
use Rattle.arrow_types.specs.declared.schema.Schema.{Schema}
use Rattle.arrays.specs.Batch.{BatchAt}
use Rattle.arrays.specs.TypedLayouts.{AreOfTypes}
use Rattle.ipc_batch.specs.State.{Known, State}
use Rattle.ipc_batch.specs.SaidRows.{Sent, News, news_of, HasColumns}
use Rattle.ipc_batch.proofs.Lengths.{fine, both}
use Rattle.ipc_batch.proofs.Messages.{keeps}
use Rattle.table_versions.specs.Table.{Table, same_fields}
use Rattle.flight_info.specs.Payloads.{Payload, message_in}
use Rattle.flight_client.specs.Stream.{StreamAt, payload_news, schema_said}
use Rattle.flight_client.proofs.Arrivals.{carried_by}
use Rattle.flight_client.specs.Join.{one_schema, schema_of_all}
use Rattle.flight_client.specs.inside.GatheredStreams.{gathered_with}
use Rattle.table_versions.proofs.Alike.{typed_alike}
use Rattle.flight_client.specs.inside.TypedColumns.{AreTyped, HaveColumns, HasSchema, FitsRows, FitRows}
use Rattle.flight_client.proofs.Together.{has_columns, knows}

-- ---- a stream

-- a batch has the columns of the schema after a further message, too
stays_typed : (old : State) (sent : Sent) (news : News) → news_of old sent ≡ Ok news → (batch : BatchAt) → HasColumns (Some batch) old → HasColumns (Some batch) news.state
stays_typed None sent news e batch has = absurd has
stays_typed (Some known) sent news e batch has =
    let k = keeps known sent news e in
    subst (HasColumns (Some batch)) (sym k.state) (subst (λ (schema : Schema). AreOfTypes schema.fields batch.columns) (sym k.schema) has)

-- so have all
pub typed_on : (old : State) (payload : Payload) (news : News) (batches : List BatchAt) → payload_news old payload ≡ Ok news → AreTyped old batches → AreTyped news.state batches
typed_on old payload news batches e typed =
    let said = carried_by old payload news e in
    All-weaker (λ (batch : BatchAt). HasColumns (Some batch) old) (λ (batch : BatchAt). HasColumns (Some batch) news.state) (stays_typed old (message_in said.0) news said.2) batches typed

-- and one more
pub typed_more : (old new : State) (payload : Payload) (batches items : List BatchAt) (batch : BatchAt) → payload_news old payload ≡ Ok (record { state = new; batch = Some batch }) → HasColumns (Some batch) new
    → items ≡ batches ++ batch ∷ [] → AreTyped old batches → AreTyped new items
typed_more old new payload batches items batch e has grown typed =
    subst (AreTyped new) (sym grown)
    (All-push (λ (batch : BatchAt). HasColumns (Some batch) new) batches batch (typed_on old payload (record { state = new; batch = Some batch }) batches e typed) has)

-- ---- streams together

both_hold : (a b : Bool) → (a && b) ≡ true → (a ≡ true) × (b ≡ true)
both_hold true b e = (refl, e)
both_hold false b e = absurd (let no : false ≡ true = e in let none : ⊥ = cc in none)

-- the others have the columns of the first
others_fit : (first : Schema) (streams : List StreamAt) (schemas : List Schema) → each schema_said streams ≡ Ok schemas → list_all (has_columns first) schemas ≡ true
    → AllByRecursion (HasSchema first) streams
others_fit first [] schemas said same = tt
others_fit first (s ∷ ss) schemas said same =
    let front = both (schema_said s) (λ (y : Schema). (each schema_said ss >>= λ ys. fine (y ∷ ys))) schemas said in
    let rest = both (each schema_said ss) (λ (ys : List Schema). fine (front.0 ∷ ys)) schemas front.2 in
    let is : front.0 ∷ rest.0 ≡ schemas = let last = rest.2 in cc in
    let parts = both_hold (has_columns first front.0) (list_all (has_columns first) rest.0) (rw (← is) at same) in
    let known = knows s front.0 front.1 in
    ((known.0, known.1, subst (λ (schema : Schema). same_fields first.fields schema.fields ≡ true) (sym known.2) parts.0), others_fit first ss rest.0 rest.1 parts.1)

one_first : (first : Schema) (others : List Schema) (schema : Schema) → one_schema (first ∷ others) ≡ Ok schema → list_all (has_columns first) others ≡ true
one_first first others schema e = by (list_all (has_columns first) others) refl
  where
    by : (test : Bool) → list_all (has_columns first) others ≡ test → test ≡ true
    by true is = refl
    by false is = let no : Err SchemaMismatch ≡ Ok schema = rw is at e in cc

-- streams of one schema fit
pub alike : (streams : List StreamAt) (schema : Schema) → schema_of_all streams ≡ Ok schema → FitRows None streams
alike [] schema e = tt
alike (s ∷ ss) schema e =
    let all = both (each schema_said (s ∷ ss)) one_schema schema e in
    let front = both (schema_said s) (λ (y : Schema). (each schema_said ss >>= λ ys. fine (y ∷ ys))) all.0 all.1 in
    let rest = both (each schema_said ss) (λ (ys : List Schema). fine (front.0 ∷ ys)) all.0 front.2 in
    let is : front.0 ∷ rest.0 ≡ all.0 = let last = rest.2 in cc in
    let known = knows s front.0 front.1 in
    let same = one_first front.0 rest.0 schema (rw (← is) at all.2) in
    (known.0, known.1, subst (λ (schema : Schema). All (HasSchema schema) ss) (sym known.2) (All-from_recursion (HasSchema front.0) ss (others_fit front.0 ss rest.0 rest.1 same)))

-- the first of some
pub fit_head : (rows : Option Table) (stream : StreamAt) (rest : List StreamAt) → FitRows rows (stream ∷ rest) → FitsRows rows stream
fit_head None stream rest fit = tt
fit_head (Some table) stream rest fit = All-head (HasSchema table.schema) stream rest fit

-- and those after it
pub fit_tail : (rows : Option Table) (stream : StreamAt) (rest : List StreamAt) (table : Table) → gathered_with rows stream ≡ Ok table → FitRows rows (stream ∷ rest) → FitRows (Some table) rest
fit_tail (Some before) stream rest table e fit =
    let is : record before { rows = before.rows ++ stream.rows } ≡ table = cc in
    subst (λ (t : Table). All (HasSchema t.schema) rest) is (All-tail (HasSchema before.schema) stream rest fit)
fit_tail None stream rest table e fit =
    let known = fit.0 in
    let read : (wanted stream.state BadBatch >>= λ known. fine (let t : Table = record { schema = known.schema; rows = stream.rows } in t)) ≡ Ok table = e in
    let is : record { schema = known.schema; rows = stream.rows } ≡ table = let said = rw fit.1 at read in cc in
    subst (λ (t : Table). All (HasSchema t.schema) rest) is fit.2

-- ---- rows

-- the rows of the first stream may be written
pub rows_begun : (state : State) (found : Option Schema) (schema : Schema) (batches : List BatchAt) → found ≡ option_map (λ (known : Known). known.schema) state → IfSome found IsSchema → found ≡ Some schema
    → AreTyped state batches → IsSchema schema × HaveColumns schema batches
rows_begun None found schema batches value valid is typed = let no : None ≡ Some schema = sym value ∙ is in absurd (let none : ⊥ = cc in none)
rows_begun (Some known) found schema batches value valid is typed =
    let same : Some known.schema ≡ Some schema = sym value ∙ is in
    (subst (λ (o : Option Schema). IfSome o IsSchema) is valid, subst (λ (o : Option Schema). IfSome o (λ (s : Schema). HaveColumns s batches)) same typed)

-- the batches of the first stream
pub rows_first : (state : State) (known : Known) (batches : List BatchAt) → state ≡ Some known → AreTyped state batches → HaveColumns known.schema batches
rows_first state known batches is typed = subst (λ (s : State). AreTyped s batches) is typed

-- and after them those of a further one
pub rows_more : (schema : Schema) (stream : StreamAt) (state : State) (batches more : List BatchAt) → state ≡ stream.state → HasSchema schema stream → HaveColumns schema batches → AreTyped state more
    → HaveColumns schema (batches ++ more)
rows_more schema stream state batches more is has typed others =
    All-append (λ (batch : BatchAt). AreOfTypes schema.fields batch.columns) batches more typed
    (typed_alike schema.fields (has.0).schema.fields more has.2 (rows_first state has.0 more (is ∙ has.1) others))
