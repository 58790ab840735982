-- What payloads say.
use Rattle.std.proofs.Common.{◌≡◌, ◌==◌, Bool, true, false, List, [], ◌∷◌, ◌++◌, length, map, filter, Option, Some, None, Result, Ok, refl, sym, ap, ◌∙◌, subst}
use Rattle.std.specs.Prelude.{if◌then◌else◌}
use Rattle.scan_base.specs.declared.fault.Fault.{Fault}
use Rattle.scan_base.specs.declared.fault.Fault.TheVariants.{BadBatch}
use Rattle.scan_base.specs.Reading.{◌>>=◌, wanted}
use Rattle.scan_base.specs.Lists.{each}
use Rattle.arrow_types.specs.declared.schema.Schema.{Schema}
use Rattle.flight_proto.specs.FlightData.{DataSaid, data_of}
use Rattle.flight_proto.specs.Ingest.{IngestSaid, ingest_of}
use Rattle.ipc_batch.specs.State.{Known, State}
use Rattle.ipc_batch.specs.Laws.{SayOneThing}
use Rattle.ipc_batch.specs.SaidRows.{Sent, News, Rows, Says, rows_in, news_of, Follows}
use Rattle.ipc_batch.proofs.Lengths.{both}
use Rattle.table_versions.specs.Database.{Put}
use Rattle.endpoint_split.specs.Handle.{Query, Tables}
use Rattle.sql_query.specs.Sentence.{Sentence}
use Rattle.flight_info.specs.Payloads.{Payload, message_in}
use Rattle.flight_info.specs.QueryMeaning.{result_over}
use Rattle.flight_info.proofs.Meaning.{one_sentence}
use Rattle.fetch_stream.specs.Fetches.{HandlesMeanOne}
use Rattle.flight_core.specs.Laws.{carries_message, PutSays, AnswersSayOneThing, SayPut, PutsAreSaid}
use Rattle.flight_core.specs.Puts.{Told, news_in_payload, told_by, put_made, put_said}

-- the messages of FlightData
abbrev messages_in : List DataSaid → List Sent
messages_in all = map message_in (filter carries_message all)

-- what a FlightData says, after those that left this after
abbrev news_carried : State → DataSaid → Result News Fault
news_carried state carried =
    if length carried.data_header == 0 then Ok (record { state = state; batch = None })
    else news_of state (message_in carried)

-- payloads are read, and their messages follow
pub record Follow (state : State) (payloads : List Payload) (end : State) (rows : Rows) : Type 0 where
  pub all : List DataSaid
  pub read : each data_of payloads ≡ Ok all
  pub follows : Follows state (map message_in (filter carries_message all)) end rows

-- one payload before others
follow_more : (state : State) (payload : Payload) (payloads : List Payload) (carried : DataSaid) (news : News) (end : State) (rows : Rows) → data_of payload ≡ Ok carried
    → news_carried state carried ≡ Ok news → Follow news.state payloads end rows → Follow state (payload ∷ payloads) end (rows_in news.batch ++ rows)
follow_more state payload payloads carried news end rows carries told rest = record {
  all = carried ∷ rest.all;
  read = rw (carries, rest.read) refl;
  follows = by (length carried.data_header == 0) refl;
}
  where
    by : (empty : Bool) → (length carried.data_header == 0) ≡ empty → Follows state (map message_in (filter carries_message (carried ∷ rest.all))) end (rows_in news.batch ++ rows)
    by true e =
        let same : record { state = state; batch = None } ≡ news = let t = rw e at told in cc in
        rw (e, ← same) (subst (λ (n : News). Follows n.state (map message_in (filter carries_message rest.all)) end rows) (sym same) rest.follows)
    by false e = rw e (news, rows, rw e at told, refl, rest.follows)

-- what payloads tell, their messages say
told_follows : (state : State) (payloads : List Payload) (told : Told) → told_by state payloads ≡ Ok told → Follow state payloads told.state told.rows
unfolding news_in_payload
told_follows state [] told e =
    let same : record { state = state; rows = [] } ≡ told = cc in
    rw (← same) (record { all = []; read = refl; follows = (refl, refl) })
told_follows state (payload ∷ payloads) told e =
    let news = both (news_in_payload state payload) (λ (news : News). (told_by news.state payloads >>= λ told. Ok (record { state = told.state; rows = rows_in news.batch ++ told.rows }))) told e in
    let carried = both (data_of payload) (news_carried state) news.0 news.1 in
    let rest = both (told_by (news.0).state payloads) (λ (told : Told). good_told (record { state = told.state; rows = rows_in (news.0).batch ++ told.rows })) told news.2 in
    let same : record { state = (rest.0).state; rows = rows_in (news.0).batch ++ (rest.0).rows } ≡ told = let last = rest.2 in cc in
    rw (← same) (follow_more state payload payloads carried.0 news.0 (rest.0).state (rest.0).rows carried.1 carried.2 (told_follows (news.0).state payloads rest.0 rest.1))
  where
    good_told : Told → Result Told Fault
    good_told told = Ok told

-- payloads that follow say
pub says : (payloads : List Payload) (known : Known) (rows : Rows) → Follow None payloads (Some known) rows → PutSays payloads known.schema rows
says payloads known rows f = (f.all, f.read, (known, refl, f.follows))

wanted_there : {A : Type 0} (found : Option A) (fault : Fault) (x : A) → wanted found fault ≡ Ok x → found ≡ Some x
wanted_there (Some y) fault x e = cc
wanted_there None fault x e = cc

-- what is read of payloads they say
put_is_said : (payloads : List Payload) (put : Put) → put_said payloads ≡ Ok put → SayPut payloads put
unfolding put_said
put_is_said [] put e = cc
put_is_said (first ∷ payloads) put e =
    let ingest = both (ingest_of first) (λ (ingest : IngestSaid). (told_by None (first ∷ payloads) >>= λ told. (wanted told.state BadBatch >>= λ known. Ok (put_made ingest known.schema told.rows)))) put e in
    let told = both (told_by None (first ∷ payloads)) (λ (told : Told). (wanted told.state BadBatch >>= λ known. Ok (put_made ingest.0 known.schema told.rows))) put ingest.2 in
    let known = both (wanted (told.0).state BadBatch) (λ (known : Known). good_put (put_made ingest.0 known.schema (told.0).rows)) put told.2 in
    let same : put_made ingest.0 (known.0).schema (told.0).rows ≡ put = let last = known.2 in cc in
    let follows = told_follows None (first ∷ payloads) told.0 told.1 in
    subst (SayPut (first ∷ payloads)) same (record {
      first = first;
      others = payloads;
      whole = refl;
      ingest = ingest.0;
      command = ingest.1;
      said = says (first ∷ payloads) known.0 (told.0).rows (subst (λ (s : State). Follow None (first ∷ payloads) s (told.0).rows) (wanted_there (told.0).state BadBatch known.0 known.1) follows);
      made = refl;
    })
  where
    good_put : Put → Result Put Fault
    good_put put = Ok put

-- one payload before others that tell
told_step : (state : State) (payload : Payload) (payloads : List Payload) (carried : DataSaid) (news : News) (end : State) (rows : Rows) → data_of payload ≡ Ok carried
    → news_carried state carried ≡ Ok news → told_by news.state payloads ≡ Ok (record { state = end; rows = rows })
    → told_by state (payload ∷ payloads) ≡ Ok (record { state = end; rows = rows_in news.batch ++ rows })
unfolding news_in_payload
told_step state payload payloads carried news end rows here says behind = rw (here, says, behind) refl

-- what messages say, payloads that carry them tell
told_again : (state : State) (payloads : List Payload) (all : List DataSaid) (end : State) (rows : Rows) → each data_of payloads ≡ Ok all
    → Follows state (messages_in all) end rows → told_by state payloads ≡ Ok (record { state = end; rows = rows })
told_again state [] all end rows e follows =
    let none : [] ≡ all = cc in
    let ends : Follows state [] end rows = subst (λ (l : List DataSaid). Follows state (messages_in l) end rows) (sym none) follows in
    rw (ends.0, ends.1) refl
told_again state (payload ∷ payloads) all end rows e follows =
    let first = both (data_of payload) (λ (carried : DataSaid). (each data_of payloads >>= λ more. good_data (carried ∷ more))) all e in
    let rest = both (each data_of payloads) (λ (more : List DataSaid). good_data (first.0 ∷ more)) all first.2 in
    let same : first.0 ∷ rest.0 ≡ all = let last = rest.2 in cc in
    by first.0 rest.0 first.1 (λ st said f. told_again st payloads rest.0 end said rest.1 f) (length (first.0).data_header == 0) refl (subst (λ (l : List DataSaid). Follows state (messages_in l) end rows) (sym same) follows)
  where
    good_data : List DataSaid → Result (List DataSaid) Fault
    good_data all = Ok all

    good_told : Rows → Result Told Fault
    good_told said = Ok (record { state = end; rows = said })

    by : (carried : DataSaid) (more : List DataSaid) → data_of payload ≡ Ok carried
        → ((st : State) (said : Rows) → Follows st (messages_in more) end said → told_by st payloads ≡ Ok (record { state = end; rows = said }))
        → (empty : Bool) → (length carried.data_header == 0) ≡ empty → Follows state (messages_in (carried ∷ more)) end rows
        → told_by state (payload ∷ payloads) ≡ Ok (record { state = end; rows = rows })
    by carried more here behind true none follows =
        told_step state payload payloads carried (record { state = state; batch = None }) end rows here (rw none refl) (behind state rows (rw none at follows))
    by carried more here behind false some follows =
        let step : Follows state (message_in carried ∷ messages_in more) end rows = rw some at follows in
        told_step state payload payloads carried step.0 end step.1 here (rw some step.2) (behind (step.0).state step.1 step.4) ∙ ap good_told (sym step.3)

-- and what they say is read
put_read : (first : Payload) (others : List Payload) (ingest : IngestSaid) (known : Known) (rows : Rows) → ingest_of first ≡ Ok ingest
    → told_by None (first ∷ others) ≡ Ok (record { state = Some known; rows = rows }) → put_said (first ∷ others) ≡ Ok (put_made ingest known.schema rows)
unfolding put_said
put_read first others ingest known rows command told = rw (command, told) refl

put_is_read : (payloads : List Payload) (put : Put) → SayPut payloads put → put_said payloads ≡ Ok put
put_is_read payloads put is =
    let said : PutSays (is.first ∷ is.others) put.schema put.rows = subst (λ (p : List Payload). PutSays p put.schema put.rows) is.whole is.said in
    let known = said.2.0 in
    let told = told_again None (is.first ∷ is.others) said.0 (Some known) put.rows said.1 said.2.2 in
    let made : known.schema ≡ put.schema = said.2.1 in
    subst (λ (p : List Payload). put_said p ≡ good_put put) (sym is.whole)
    (put_read is.first is.others is.ingest known put.rows is.command told ∙ ap (λ (schema : Schema). good_put (put_made is.ingest schema put.rows)) made ∙ ap good_put (sym is.made))
  where
    good_put : Put → Result Put Fault
    good_put put = Ok put

pub puts_are_said : PutsAreSaid
puts_are_said payloads put = (put_is_said payloads put, put_is_read payloads put)

pub answers_say_one_thing : SayOneThing → AnswersSayOneThing
answers_say_one_thing law payloads one other rows others p q =
    let same : p.0 ≡ q.0 = let a = p.1 in let b = q.1 in cc in
    law (map message_in q.0) one other rows others (subst (λ (all : List DataSaid). Says (map message_in all) one rows) same p.2) q.2

-- ---- handles

pub handles_mean_one : HandlesMeanOne
handles_mean_one database (Query number from to text) one other a b =
    let same = one_sentence text a.query b.query a.asks.says b.asks.says in
    a.is ∙ ap (λ (s : Sentence). result_over s database from to) same ∙ sym b.is
handles_mean_one database (Tables number) one other a b = a ∙ sym b
