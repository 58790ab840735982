-- Payloads of a put, one after another.
use Rattle.std.proofs.Common.{◌≡◌, ◌≢◌, ◌==◌, length, if◌then◌else◌, Bool, true, false, List, [], ◌∷◌, ◌++◌, Option, Some, None, Result, Ok, Err, refl, sym, ap, ◌∙◌, append_assoc, append-nil}
use Rattle.scan_base.specs.declared.fault.Fault.{Fault}
use Rattle.scan_base.specs.declared.fault.Fault.TheVariants.{UnknownCommand, BadBatch, OutOfMemory}
use Rattle.std.specs.Prelude.{IfErr}
use Rattle.scan_base.specs.Reading.{◌>>=◌, wanted, Gives}
use Rattle.flight_proto.specs.FlightData.{DataSaid, data_of}
use Rattle.flight_proto.specs.Ingest.{IngestSaid, ingest_of}
use Rattle.ipc_batch.specs.State.{State}
use Rattle.ipc_batch.specs.SaidRows.{News, rows_in, news_of, glance_of}
use Rattle.ipc_batch.proofs.Glances.{glances_come_first}
use Rattle.table_versions.specs.Database.{Put}
use Rattle.flight_info.specs.Payloads.{Payload, message_in}
use Rattle.flight_core.specs.Refusals.{RefusedFor, GivesBehind}
use Rattle.flight_core.specs.Puts.{Told, news_in_payload, message_glance, told_by, first_glance, put_glance, put_said, put_made}
use Rattle.flight_core.specs.Arriving.{StartedPutAt, said_so_far, HasRead, after_payload, glance_next, said_next, whole_put}

-- what is told after one payload more
abbrev told_after : Payload → Told → Result Told Fault
told_after payload told = news_in_payload told.state payload >>= λ news. Ok (record { state = news.state; rows = told.rows ++ rows_in news.batch })

-- the rows of a message stand before the rest
abbrev before_rest : News → Told → Result Told Fault
before_rest news told = Ok (record { state = told.state; rows = rows_in news.batch ++ told.rows })

told_by-append : (state : State) (payloads : List Payload) (payload : Payload) → told_by state (payloads ++ payload ∷ []) ≡ (told_by state payloads >>= told_after payload)
told_by-append state [] payload = one (news_in_payload state payload)
  where
    one : (read : Result News Fault) → (read >>= λ news. before_rest news (record { state = news.state; rows = [] })) ≡ (read >>= λ news. Ok (record { state = news.state; rows = rows_in news.batch }))
    one (Ok news) = rw (append-nil (rows_in news.batch)) refl
    one (Err fault) = refl
told_by-append state (first ∷ payloads) payload = by (news_in_payload state first) (λ (after : State). told_by-append after payloads payload)
  where
    swap : (news : News) (rest : Result Told Fault) → ((rest >>= told_after payload) >>= before_rest news) ≡ ((rest >>= before_rest news) >>= told_after payload)
    swap news (Err fault) = refl
    swap news (Ok told) = inner (news_in_payload told.state payload)
      where
        inner : (read : Result News Fault) → ((read >>= λ next. Ok (record { state = next.state; rows = told.rows ++ rows_in next.batch })) >>= before_rest news)
            ≡ (read >>= λ next. Ok (record { state = next.state; rows = (rows_in news.batch ++ told.rows) ++ rows_in next.batch }))
        inner (Ok next) = rw (append_assoc (rows_in news.batch) told.rows (rows_in next.batch)) refl
        inner (Err fault) = refl

    by : (read : Result News Fault) → ((after : State) → told_by after (payloads ++ payload ∷ []) ≡ (told_by after payloads >>= told_after payload))
        → (read >>= λ news. (told_by news.state (payloads ++ payload ∷ []) >>= before_rest news)) ≡ ((read >>= λ news. (told_by news.state payloads >>= before_rest news)) >>= told_after payload)
    by (Err fault) rest = refl
    by (Ok news) rest = rw (rest news.state) (swap news (told_by news.state payloads))

-- a put that was begun, as a result
abbrev begun_good : IngestSaid → Told → Result (Option StartedPutAt) Fault
begun_good ingest told = Ok (Some (record { ingest = ingest; told = told }))

begun_more : (ingest : IngestSaid) (told : Told) (payload : Payload) → (told_after payload told >>= begun_good ingest) ≡ after_payload (record { ingest = ingest; told = told }) payload
begun_more ingest told payload = by (news_in_payload told.state payload)
  where
    by : (read : Result News Fault) → ((read >>= λ news. Ok (record { state = news.state; rows = told.rows ++ rows_in news.batch })) >>= begun_good ingest)
        ≡ (read >>= λ news. begun_good ingest (record { state = news.state; rows = told.rows ++ rows_in news.batch }))
    by (Ok news) = refl
    by (Err fault) = refl

-- what is said so far, after one payload more
said_so_far-append : (payloads : List Payload) (payload : Payload) → said_so_far (payloads ++ payload ∷ []) ≡ (said_so_far payloads >>= λ begun. said_next begun payload)
unfolding said_so_far
said_so_far-append [] payload = by (ingest_of payload)
  where
    by : (read : Result IngestSaid Fault) → (read >>= λ ingest. (told_by None (payload ∷ []) >>= begun_good ingest))
        ≡ ((read >>= λ ingest. Ok (record { ingest = ingest; told = record { state = None; rows = [] } })) >>= λ begun. after_payload begun payload)
    by (Ok ingest) = rw (told_by-append None [] payload) (begun_more ingest (record { state = None; rows = [] }) payload)
    by (Err fault) = refl
said_so_far-append (first ∷ payloads) payload = by (ingest_of first)
  where
    onward : (ingest : IngestSaid) (rest : Result Told Fault) → ((rest >>= told_after payload) >>= begun_good ingest) ≡ ((rest >>= begun_good ingest) >>= λ begun. said_next begun payload)
    onward ingest (Ok told) = begun_more ingest told payload
    onward ingest (Err fault) = refl

    by : (read : Result IngestSaid Fault) → (read >>= λ ingest. (told_by None (first ∷ (payloads ++ payload ∷ [])) >>= begun_good ingest))
        ≡ ((read >>= λ ingest. (told_by None (first ∷ payloads) >>= begun_good ingest)) >>= λ begun. said_next begun payload)
    by (Ok ingest) = rw (told_by-append None (first ∷ payloads) payload) (onward ingest (told_by None (first ∷ payloads)))
    by (Err fault) = refl

-- the put that payloads say is what they say so far, where none follows
put_said-is : (payloads : List Payload) → put_said payloads ≡ (said_so_far payloads >>= whole_put)
unfolding said_so_far put_said
put_said-is [] = refl
put_said-is (first ∷ payloads) = by (ingest_of first)
  where
    onward : (ingest : IngestSaid) (rest : Result Told Fault) → (rest >>= λ told. (wanted told.state BadBatch >>= λ known. Ok (put_made ingest known.schema told.rows))) ≡ ((rest >>= begun_good ingest) >>= whole_put)
    onward ingest (Ok told) = refl
    onward ingest (Err fault) = refl

    by : (read : Result IngestSaid Fault) → (read >>= λ ingest. (told_by None (first ∷ payloads) >>= λ told. (wanted told.state BadBatch >>= λ known. Ok (put_made ingest known.schema told.rows))))
        ≡ ((read >>= λ ingest. (told_by None (first ∷ payloads) >>= begun_good ingest)) >>= whole_put)
    by (Ok ingest) = onward ingest (told_by None (first ∷ payloads))
    by (Err fault) = refl

-- ---- refusals

-- after a glance that is not refused
pub behind : {X Y : Type 0} (glance : Result X Fault) (read : Result Y Fault) (fault : Fault) → ((cause : Fault) → glance ≡ Err cause → ⊥)
    → (fault ≢ OutOfMemory → read ≡ Err fault) → RefusedFor glance read fault
behind (Ok seen) read fault good is = is
behind (Err cause) read fault good is = absurd (good cause refl)

-- what refuses one reading refuses another one
pub refused_on : {X Y Z : Type 0} (glance : Result X Fault) (one : Result Y Fault) (other : Result Z Fault) (fault : Fault) → (one ≡ Err fault → other ≡ Err fault)
    → RefusedFor glance one fault → RefusedFor glance other fault
refused_on (Ok seen) one other fault step is = λ memory. step (is memory)
refused_on (Err cause) one other fault step is = is

-- ---- what a glance refuses is what is said

pub message_stops : (state : State) (payload : Payload) (fault : Fault) → message_glance state payload ≡ Err fault → news_in_payload state payload ≡ Err fault
unfolding message_glance news_in_payload
message_stops state payload fault e = by (data_of payload) e
  where
    skipped : (carried : DataSaid) (empty : Bool) → (if empty then Ok tt else glance_of state (message_in carried)) ≡ Err fault
        → (if empty then Ok (record { state = state; batch = None }) else news_of state (message_in carried)) ≡ Err fault
    skipped carried true e = absurd (let no : ⊥ = cc in no)
    skipped carried false e = glances_come_first state (message_in carried) fault e

    by : (read : Result DataSaid Fault) → (read >>= λ carried. if length carried.data_header == 0 then Ok tt else glance_of state (message_in carried)) ≡ Err fault
        → (read >>= λ carried. if length carried.data_header == 0 then Ok (record { state = state; batch = None }) else news_of state (message_in carried)) ≡ Err fault
    by (Ok carried) e = skipped carried (length carried.data_header == 0) e
    by (Err one) e = let same : one ≡ fault = cc in ap Err same

after_stops : (begun : StartedPutAt) (payload : Payload) (fault : Fault) → message_glance begun.told.state payload ≡ Err fault → after_payload begun payload ≡ Err fault
after_stops begun payload fault e = rw (message_stops begun.told.state payload fault e) refl

first_stops : (payload : Payload) (fault : Fault) → first_glance payload ≡ Err fault → said_next None payload ≡ Err fault
first_stops payload fault e = by (ingest_of payload) e
  where
    by : (command : Result IngestSaid Fault) → (command >>= λ _. message_glance None payload) ≡ Err fault
        → ((command >>= λ ingest. Ok (record { ingest = ingest; told = record { state = None; rows = [] } })) >>= λ b. after_payload b payload) ≡ Err fault
    by (Ok ingest) e = after_stops (record { ingest = ingest; told = record { state = None; rows = [] } }) payload fault e
    by (Err one) e = let same : one ≡ fault = cc in ap Err same

next_stops : (begun : Option StartedPutAt) (payload : Payload) (fault : Fault) → glance_next begun payload ≡ Err fault → said_next begun payload ≡ Err fault
next_stops None payload fault e = first_stops payload fault e
next_stops (Some begun) payload fault e = after_stops begun payload fault e

-- what the first payload is refused for, all of them are
so_far_stops : (first : Payload) (rest : List Payload) (fault : Fault) → first_glance first ≡ Err fault → said_so_far (first ∷ rest) ≡ Err fault
unfolding said_so_far
so_far_stops first rest fault e = by (ingest_of first) e
  where
    begun : (ingest : IngestSaid) (read : Result News Fault) → read ≡ Err fault → ((read >>= λ news. (told_by news.state rest >>= before_rest news)) >>= begun_good ingest) ≡ Err fault
    begun ingest read e = rw e refl

    by : (command : Result IngestSaid Fault) → (command >>= λ _. message_glance None first) ≡ Err fault → (command >>= λ ingest. (told_by None (first ∷ rest) >>= begun_good ingest)) ≡ Err fault
    by (Ok ingest) e = begun ingest (news_in_payload None first) (message_stops None first fault e)
    by (Err one) e = let same : one ≡ fault = cc in ap Err same

-- what was read is not refused at a glance
passed : {X Y : Type 0} (glance : Result X Fault) (read : Result Y Fault) (y : Y) → ((fault : Fault) → glance ≡ Err fault → read ≡ Err fault) → read ≡ Ok y → (cause : Fault) → glance ≡ Err cause → ⊥
passed glance read y stops good cause e = let bad = stops cause e in let no : ⊥ = cc in no

-- the first payload of those that were read
command_read : (first : Payload) (rest : List Payload) (begun : Option StartedPutAt) → said_so_far (first ∷ rest) ≡ Ok begun → (cause : Fault) → first_glance first ≡ Err cause → ⊥
command_read first rest begun said = passed (first_glance first) (said_so_far (first ∷ rest)) begun (so_far_stops first rest) said

none_said : (fault : Fault) → put_glance [] ≡ Err fault → put_said [] ≡ Err fault
unfolding put_said
none_said fault e = let same : UnknownCommand ≡ fault = cc in ap Err same

-- payloads that say a put
pub glance_good : (payloads : List Payload) (put : Put) → put_said payloads ≡ Ok put → (cause : Fault) → put_glance payloads ≡ Err cause → ⊥
glance_good payloads put said = passed (put_glance payloads) (put_said payloads) put (by payloads) said
  where
    by : (payloads : List Payload) (fault : Fault) → put_glance payloads ≡ Err fault → put_said payloads ≡ Err fault
    by [] fault e = none_said fault e
    by (first ∷ rest) fault e = put_said-is (first ∷ rest) ∙ rw (so_far_stops first rest fault e) refl

-- a reader without a fault holds what is said so far
said_ok : (payloads : List Payload) (begun : Option StartedPutAt) → HasRead payloads (Ok begun) → said_so_far payloads ≡ Ok begun
unfolding said_so_far
said_ok [] begun has = sym has
said_ok (first ∷ rest) begun has = has

-- of no payloads there is nothing
begun_none : (begun : Option StartedPutAt) → HasRead [] (Ok begun) → begun ≡ None
begun_none begun has = cc

-- ---- the next payload

-- what refuses a reading is its fault, want of memory apart
refused_is : {X Y : Type 0} (glance : Result X Fault) (read : Result Y Fault) (fault : Fault) → ((cause : Fault) → glance ≡ Err cause → read ≡ Err cause) → RefusedFor glance read fault → fault ≢ OutOfMemory → read ≡ Err fault
refused_is (Ok seen) read fault stops is other = is other
refused_is (Err cause) read fault stops is other = stops cause refl ∙ ap Err (sym is)

next_refused : (begun : Option StartedPutAt) (payload : Payload) (fault : Fault) → RefusedFor (glance_next begun payload) (said_next begun payload) fault
    → fault ≢ OutOfMemory → said_next begun payload ≡ Err fault
next_refused begun payload fault is other = refused_is (glance_next begun payload) (said_next begun payload) fault (next_stops begun payload) is other

-- a reader with a fault
abbrev refusal : Fault → Result (Option StartedPutAt) Fault
refusal fault = Err fault

-- what refuses a payload at a glance is kept
pub kept_first : (begun held : Option StartedPutAt) (payload : Payload) (fault : Fault) (old : Result (Option StartedPutAt) Fault) → old ≡ Ok begun → old ≡ Ok held → RefusedFor (glance_next held payload) (said_next held payload) fault
    → IfErr (glance_next begun payload) (λ cause. refusal fault ≡ Err cause)
kept_first begun held payload fault old is holds refused = let same : begun ≡ held = cc in rw same (by (glance_next held payload) refused)
  where
    by : (glance : Result (Unit {0}) Fault) → RefusedFor glance (said_next held payload) fault → IfErr glance (λ cause. refusal fault ≡ Err cause)
    by (Ok seen) refused = tt
    by (Err cause) refused = ap refusal refused

-- a payload that was read was not refused at a glance
pub passed_first : (begun held new : Option StartedPutAt) (payload : Payload) (old reader : Result (Option StartedPutAt) Fault) → old ≡ Ok begun → old ≡ Ok held → said_next held payload ≡ Ok new
    → IfErr (glance_next begun payload) (λ cause. reader ≡ Err cause)
passed_first begun held new payload old reader is holds read =
    let same : begun ≡ held = cc in
    rw same (by (glance_next held payload) (passed (glance_next held payload) (said_next held payload) new (next_stops held payload) read))
  where
    by : (glance : Result (Unit {0}) Fault) → ((cause : Fault) → glance ≡ Err cause → ⊥) → IfErr glance (λ cause. reader ≡ Err cause)
    by (Ok seen) good = tt
    by (Err cause) good = absurd (good cause refl)

-- ---- readers

-- one payload more was read
pub read_on : (payloads : List Payload) (payload : Payload) (begun new : Option StartedPutAt) (old : Result (Option StartedPutAt) Fault) → old ≡ Ok begun → said_next begun payload ≡ Ok new
    → HasRead payloads old → HasRead (payloads ++ payload ∷ []) (Ok new)
read_on payloads payload begun new old is next has = by payloads (said_so_far-append payloads payload ∙ rw before next)
  where
    before : said_so_far payloads ≡ Ok begun
    before = said_ok payloads begun (rw is at has)

    by : (payloads : List Payload) → said_so_far (payloads ++ payload ∷ []) ≡ Ok new → HasRead (payloads ++ payload ∷ []) (Ok new)
    by [] e = e
    by (first ∷ rest) e = e

-- one payload more is faulty
pub read_faulty : (payloads : List Payload) (payload : Payload) (begun : Option StartedPutAt) (fault : Fault) (old : Result (Option StartedPutAt) Fault) → old ≡ Ok begun
    → RefusedFor (glance_next begun payload) (said_next begun payload) fault → HasRead payloads old → HasRead (payloads ++ payload ∷ []) (Err fault)
unfolding said_so_far
read_faulty [] payload begun fault old is next has =
    let none : begun ≡ None = begun_none begun (rw is at has) in
    refused_on (first_glance payload) (said_next None payload) (said_so_far (payload ∷ [])) fault (λ e. said_so_far-append [] payload ∙ (first ∙ e)) (rw none at next)
  where
    first : (said_so_far [] >>= λ begun. said_next begun payload) ≡ said_next None payload
    first = refl
read_faulty (first ∷ rest) payload begun fault old is next has =
    let before : said_so_far (first ∷ rest) ≡ Ok begun = rw is at has in
    behind (first_glance first) (said_so_far (first ∷ (rest ++ payload ∷ []))) fault (command_read first rest begun before)
    (λ other. said_so_far-append (first ∷ rest) payload ∙ rw before (next_refused begun payload fault next other))

-- the first fault is kept
pub read_past : (payloads : List Payload) (payload : Payload) (fault : Fault) (old : Result (Option StartedPutAt) Fault) → old ≡ Err fault → HasRead payloads old → HasRead (payloads ++ payload ∷ []) old
read_past [] payload fault old is has = absurd cc
read_past (first ∷ rest) payload fault old is has = rw is
    (refused_on (first_glance first) (said_so_far (first ∷ rest)) (said_so_far (first ∷ (rest ++ payload ∷ []))) fault
    (λ before. said_so_far-append (first ∷ rest) payload ∙ rw before refl) (rw is at has))

-- nothing more comes
pub read_whole : {X : Type 0} (view : X → Put) (result : Result X Fault) (payloads : List Payload) (begun : Option StartedPutAt) (reader : Result (Option StartedPutAt) Fault) → reader ≡ Ok begun
    → Gives view result (whole_put begun) → HasRead payloads reader → GivesBehind (put_glance payloads) view result (put_said payloads)
read_whole view result payloads begun reader is gives has = by payloads result gives (rw is at has)
  where
    same : (payloads : List Payload) → HasRead payloads (Ok begun) → put_said payloads ≡ whole_put begun
    same payloads has = put_said-is payloads ∙ rw (said_ok payloads begun has) refl

    by : (payloads : List Payload) (result : Result _ Fault) → Gives view result (whole_put begun) → HasRead payloads (Ok begun) → GivesBehind (put_glance payloads) view result (put_said payloads)
    by payloads (Ok x) gives has = same payloads has ∙ gives
    by [] (Err fault) gives has = let none : begun ≡ None = begun_none begun has in let both = rw none at gives in cc
    by (first ∷ rest) (Err fault) gives has =
        behind (first_glance first) (put_said (first ∷ rest)) fault (command_read first rest begun has) (λ other. same (first ∷ rest) has ∙ gives)

-- nothing more comes after a fault
pub read_refused : (payloads : List Payload) (fault : Fault) (reader : Result (Option StartedPutAt) Fault) → reader ≡ Err fault → HasRead payloads reader
    → RefusedFor (put_glance payloads) (put_said payloads) fault
read_refused [] fault reader is has = absurd cc
read_refused (first ∷ rest) fault reader is has =
    refused_on (first_glance first) (said_so_far (first ∷ rest)) (put_said (first ∷ rest)) fault (λ before. put_said-is (first ∷ rest) ∙ rw before refl) (rw is at has)
