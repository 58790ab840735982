-- Payloads come to a stream.
use Rattle.std.proofs.Common.{◌≡◌, List, [], ◌∷◌, ◌++◌, map, Option, Some, None, Result, Ok, Err, refl, sym, ap, subst, ◌∙◌, append-nil, append_assoc}
use Rattle.std.specs.List.{flat_map}
use Rattle.std.proofs.lemmas.List.{map-append}
use Rattle.scan_base.specs.declared.fault.Fault.{Fault}
use Rattle.scan_base.specs.declared.fault.Fault.TheVariants.{BadBatch}
use Rattle.scan_base.specs.Reading.{◌>>=◌, wanted}
use Rattle.scan_base.specs.Lists.{each}
use Rattle.arrow_types.specs.declared.schema.Schema.{Schema}
use Rattle.arrow_schema.specs.declared.header.HeaderKind.{HeaderKind}
use Rattle.arrow_schema.specs.declared.header.HeaderKind.TheVariants as header
use Rattle.arrow_schema.specs.Header.{MessageAt, message_of}
use Rattle.arrays.specs.Batch.{BatchAt, rows_of}
use Rattle.flight_proto.specs.FlightData.{DataSaid, data_of}
use Rattle.ipc_batch.specs.State.{Known, State}
use Rattle.ipc_batch.specs.SaidRows.{Sent, News, Rows, rows_in, next_news, news_in, news_of, glance_of as message_glance, batch_sent, known_after, Follows}
use Rattle.ipc_batch.proofs.Glances.{glances_come_first}
use Rattle.ipc_batch.proofs.Lengths.{fine, both}
use Rattle.ipc_batch.proofs.Messages.{first, joined, keeps, once}
use Rattle.flight_info.specs.Payloads.{Payload, message_in, PayloadsSay}
use Rattle.flight_client.specs.Stream.{StreamAt, payload_glance, payload_news, with_news, Came, schema_said}
use Rattle.flight_client.specs.Laws.{StreamsHoldWhatIsSaid}

-- ---- one payload more

each_step : {A B : Type 0} (read : A → Result B Fault) (x : A) (xs : List A) (y : B) (ys : List B) → read x ≡ Ok y → each read xs ≡ Ok ys → each read (x ∷ xs) ≡ Ok (y ∷ ys)
each_step read x xs y ys one all = rw (one, all) refl

-- one item more is read
each_more : {A B : Type 0} (read : A → Result B Fault) (xs : List A) (x : A) (ys : List B) (y : B) → each read xs ≡ Ok ys → read x ≡ Ok y → each read (xs ++ x ∷ []) ≡ Ok (ys ++ y ∷ [])
each_more {B = B} read [] x ys y all one =
    let same : [] ≡ ys = cc in
    rw (one, ← same) refl
each_more {B = B} read (a ∷ xs) x ys y all one =
    let front = both (read a) (λ (b : B). (each read xs >>= λ bs. fine (b ∷ bs))) ys all in
    let rest = both (each read xs) (λ (bs : List B). fine (front.0 ∷ bs)) ys front.2 in
    let same : front.0 ∷ rest.0 ≡ ys = let last = rest.2 in cc in
    subst (λ (l : List B). each read (a ∷ (xs ++ x ∷ [])) ≡ fine (l ++ y ∷ [])) same (each_step read a (xs ++ x ∷ []) front.0 (rest.0 ++ y ∷ []) front.1 (each_more read xs x rest.0 y rest.1 one))

-- what a payload carries, where it says something
pub carried_by : (state : State) (payload : Payload) (news : News) → payload_news state payload ≡ Ok news → (carried : DataSaid) × (data_of payload ≡ Ok carried) × (news_of state (message_in carried) ≡ Ok news)
unfolding payload_news
carried_by state payload news e = both (data_of payload) (λ (carried : DataSaid). news_of state (message_in carried)) news e

-- one payload more came
pub came_more : (payloads : List Payload) (payload : Payload) (old : StreamAt) (news : News) → payload_news old.state payload ≡ Ok news → Came payloads old → Came (payloads ++ payload ∷ []) (with_news old news)
came_more payloads payload old news e came =
    let said = carried_by old.state payload news e in
    let carried = said.0 in
    let one : Follows old.state (message_in carried ∷ []) news.state (rows_in news.batch) = (news, [], said.2, sym (append-nil (rows_in news.batch)), (refl, refl)) in
    let all = joined None (map message_in came.0) (message_in carried ∷ []) old.state news.state old.rows (rows_in news.batch) came.2 one in (
      came.0 ++ carried ∷ [],
      each_more data_of payloads payload came.0 carried came.1 said.1,
      subst (λ (messages : List Sent). Follows None messages news.state (old.rows ++ rows_in news.batch)) (sym (map-append message_in came.0 (carried ∷ []))) all,
    )

-- the first payload says a schema, and no batch
pub schema_first : (payload : Payload) (news : News) → payload_news None payload ≡ Ok news → (known : Known) × (news.state ≡ Some known) × (news.batch ≡ None)
schema_first payload news e = let said = carried_by None payload news e in first (message_in said.0) news said.2

-- and those after it keep that schema
pub schema_kept : (known : Known) (payload : Payload) (news : News) → payload_news (Some known) payload ≡ Ok news → (after : Known) × (news.state ≡ Some after) × (after.schema ≡ known.schema)
schema_kept known payload news e =
    let said = carried_by (Some known) payload news e in
    let kept = keeps known (message_in said.0) news said.2 in
    (kept.after, kept.state, kept.schema)

-- ---- what a glance refuses

-- what is refused at a glance is what the payload says
pub glance_stops : (state : State) (payload : Payload) (fault : Fault) → payload_glance state payload ≡ Err fault → payload_news state payload ≡ Err fault
unfolding payload_glance payload_news
glance_stops state payload fault e = by (data_of payload) refl e
  where
    by : (read : Result DataSaid Fault) → data_of payload ≡ read → (read >>= λ carried. message_glance state (message_in carried)) ≡ Err fault
        → (read >>= λ carried. news_of state (message_in carried)) ≡ Err fault
    by (Ok carried) is e = glances_come_first state (message_in carried) fault e
    by (Err one) is e = let same : one ≡ fault = cc in ap (λ (x : Fault). Err x) same

-- what a stream of these batches is
abbrev pub stream_of : State → List BatchAt → Option (Result (Unit {0}) Fault) → StreamAt
stream_of state batches end = record { state = state; rows = flat_map rows_of batches; end = end }

rows_push : (batches : List BatchAt) (batch : BatchAt) → flat_map rows_of (batches ++ batch ∷ []) ≡ flat_map rows_of batches ++ rows_of batch
rows_push [] batch = append-nil (rows_of batch)
rows_push (b ∷ bs) batch = ap (λ (rows : Rows). rows_of b ++ rows) (rows_push bs batch) ∙ sym (append_assoc (rows_of b) (flat_map rows_of bs) (rows_of batch))

-- a payload came that carries a batch
pub came_batch : (payloads : List Payload) (payload : Payload) (now : StreamAt) (old new : State) (batches items : List BatchAt) (end : Option (Result (Unit {0}) Fault)) (batch : BatchAt)
    → stream_of old batches end ≡ now → payload_news old payload ≡ Ok (record { state = new; batch = Some batch }) → items ≡ batches ++ batch ∷ []
    → Came payloads now → Came (payloads ++ payload ∷ []) (stream_of new items end)
came_batch payloads payload now old new batches items end batch is tells grown came =
    let rows : flat_map rows_of items ≡ flat_map rows_of batches ++ rows_of batch = ap (flat_map rows_of) grown ∙ rows_push batches batch in
    let made = came_more payloads payload (stream_of old batches end) (record { state = new; batch = Some batch }) tells (subst (Came payloads) (sym is) came) in
    subst (λ (rows : Rows). Came (payloads ++ payload ∷ []) (record { state = new; rows = rows; end = end })) (sym rows) made

-- a payload came that carries none
pub came_none : (payloads : List Payload) (payload : Payload) (now : StreamAt) (old new : State) (batches : List BatchAt) (end : Option (Result (Unit {0}) Fault))
    → stream_of old batches end ≡ now → payload_news old payload ≡ Ok (record { state = new; batch = None })
    → Came payloads now → Came (payloads ++ payload ∷ []) (stream_of new batches end)
came_none payloads payload now old new batches end is tells came =
    let made = came_more payloads payload (stream_of old batches end) (record { state = new; batch = None }) tells (subst (Came payloads) (sym is) came) in
    subst (λ (rows : Rows). Came (payloads ++ payload ∷ []) (record { state = new; rows = rows; end = end })) (append-nil (flat_map rows_of batches)) made

-- ---- a batch leaves what is known as it was

no_batch : (batch : BatchAt) → None ≡ Some batch → ⊥
no_batch batch e = cc

next_same : (kind : HeaderKind) (known : Known) (message : MessageAt) (body : List _) (new : State) (batch : BatchAt)
    → next_news kind known message body ≡ Ok (record { state = new; batch = Some batch }) → new ≡ Some known
next_same header.Schema known message body new batch e = cc
next_same header.DictionaryBatch known message body new batch e =
    let a = both (known_after known message body) (λ (after : Known). fine (record { state = Some after; batch = None })) (record { state = new; batch = Some batch }) e in
    let same : record { state = Some a.0; batch = None } ≡ record { state = new; batch = Some batch } = let b = a.2 in cc in
    absurd (no_batch batch (ap (λ (news : News). news.batch) same))
next_same header.RecordBatch known message body new batch e =
    let a = both (batch_sent known message body) (λ (batch : BatchAt). fine (record { state = Some known; batch = Some batch })) (record { state = new; batch = Some batch }) e in
    let same : record { state = Some known; batch = Some a.0 } ≡ record { state = new; batch = Some batch } = let b = a.2 in cc in
    sym (ap (λ (news : News). news.state) same)

batches_leave : (old new : State) (sent : Sent) (batch : BatchAt) → news_of old sent ≡ Ok (record { state = new; batch = Some batch }) → new ≡ old
unfolding news_of
batches_leave None new sent batch e =
    let a = first sent (record { state = new; batch = Some batch }) e in
    let no = a.2 in cc
batches_leave (Some known) new sent batch e =
    let a = both (message_of sent.header) (λ (message : MessageAt). news_in (Some known) message sent.body) (record { state = new; batch = Some batch }) e in
    next_same a.0.kind known a.0 sent.body new batch a.2

-- a batch that was not kept leaves the stream as it was
pub stays : (now : StreamAt) (old new : State) (batches items : List BatchAt) (end : Option (Result (Unit {0}) Fault)) (payload : Payload) (batch : BatchAt) → stream_of old batches end ≡ now
    → payload_news old payload ≡ Ok (record { state = new; batch = Some batch }) → items ≡ batches → stream_of new items end ≡ now
stays now old new batches items end payload batch is tells same =
    let said = carried_by old payload (record { state = new; batch = Some batch }) tells in
    rw (same, batches_leave old new (message_in said.0) batch said.2) is

-- ---- what a stream holds its payloads say

-- what payloads say, a stream to which they came holds
pub held : (payloads : List Payload) (stream : StreamAt) (schema : Schema) (rows : Rows) → Came payloads stream → PayloadsSay payloads schema rows
    → (known : Known) × (stream.state ≡ Some known) × (known.schema ≡ schema) × (stream.rows ≡ rows)
held payloads stream schema rows came said =
    let same : came.0 ≡ said.0 = let a = came.1 in let b = said.1 in cc in
    let known = said.2.0 in
    let follows : Follows None (map message_in said.0) stream.state stream.rows = subst (λ (all : List DataSaid). Follows None (map message_in all) stream.state stream.rows) same came.2 in
    let is = once None (map message_in said.0) stream.state (Some known) stream.rows rows follows said.2.2 in
    (known, is.0, said.2.1, is.1)

-- what is wanted and there
pub wanted_there : {A : Type 0} (found : Option A) (fault : Fault) (x : A) → wanted found fault ≡ Ok x → found ≡ Some x
wanted_there (Some y) fault x e = cc
wanted_there None fault x e = cc

-- the schema of a stream that ended without a fault
pub schema_there : (stream : StreamAt) (known : Known) → stream.end ≡ Some (Ok tt) → stream.state ≡ Some known → schema_said stream ≡ Ok known.schema
schema_there stream known ended there = rw (ended, there) refl

pub holds_what_is_said : StreamsHoldWhatIsSaid
holds_what_is_said payloads stream schema rows came ended = (
  λ said. (let is = held payloads stream schema rows came said in
      (schema_there stream is.0 ended is.1 ∙ ap (λ (s : Schema). fine s) is.2, is.3)),
  λ holds. (let read : (wanted stream.state BadBatch >>= λ known. fine known.schema) ≡ Ok schema = rw ended at holds.0 in
      let known = both (wanted stream.state BadBatch) (λ (known : Known). fine known.schema) schema read in
      let there : stream.state ≡ Some known.0 = wanted_there stream.state BadBatch known.0 known.1 in
      let is : (known.0).schema ≡ schema = let last = known.2 in cc in
      let follows : Follows None (map message_in came.0) (Some known.0) stream.rows = subst (λ (s : State). Follows None (map message_in came.0) s stream.rows) there came.2 in
      (came.0, came.1, (known.0, is, subst (Follows None (map message_in came.0) (Some known.0)) holds.1 follows))),
)
