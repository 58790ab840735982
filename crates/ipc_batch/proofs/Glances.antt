-- What is refused at a glance is what a message says.
use Rattle.std.proofs.Common.{◌≡◌, List, ℕ, Some, None, Result, Ok, Err, refl, ap}
use Rattle.scan_base.specs.declared.fault.Fault.{Fault}
use Rattle.scan_base.specs.declared.fault.Fault.TheVariants.{BadBatch, OutOfMemory}
use Rattle.scan_base.specs.Reading.{◌>>=◌, RefusesFirst}
use Rattle.arrow_types.specs.declared.schema.Schema.{Schema}
use Rattle.arrow_schema.specs.declared.header.HeaderKind.{HeaderKind}
use Rattle.arrow_schema.specs.declared.header.HeaderKind.TheVariants as header
use Rattle.arrow_schema.specs.Header.{MessageAt, message_of, schema_in}
use Rattle.ipc_batch.specs.Parts.{PartsAt, DictionaryParts, body_claimed}
use Rattle.ipc_batch.specs.Columns.{columns_placed}
use Rattle.ipc_batch.specs.State.{Known, State}
use Rattle.ipc_batch.specs.SaidRows.{schema_sent, first_schema, first_glance, batch_parts, batch_sent, dictionary_sent, known_after, next_news, next_glance, news_in, glance_in, news_of, glance_of}
use Rattle.ipc_batch.specs.Laws.{GlancesComeFirst}
use Rattle.ipc_batch.proofs.Only.{Only}
use Rattle.ipc_batch.proofs.Placed.{unplaced_batch, unplaced_dictionary}
use Rattle.ipc_batch.proofs.Unstinted.{IsOther, schema_unstinted, first_unstinted}

-- a refusal, whatever would have been read
abbrev met : {A : Type 0} → Fault → Result A Fault
met fault = Err fault

same_fault : {A B : Type 0} (one other : Fault) → met {A = A} one ≡ Err other → met {A = B} one ≡ Err other
same_fault one other e = let same : one ≡ other = cc in ap (λ (fault : Fault). Err fault) same

-- a reading stops the whole of which it is the first part, or a check after it does
stops : {A B : Type 0} (read : Result A Fault) (check : A → Result (Unit {0}) Fault) (whole : Result B Fault) (fault : Fault) → (read >>= check) ≡ Err fault →
    ((one : Fault) → read ≡ Err one → whole ≡ Err one) → ((x : A) → read ≡ Ok x → check x ≡ Err fault → whole ≡ Err fault) → whole ≡ Err fault
stops (Ok x) check whole fault e at_once behind = behind x refl e
stops (Err one) check whole fault e at_once behind = let same : one ≡ fault = cc in at_once fault (ap (λ (x : Fault). Err x) same)

batch_stops : (known : Known) (message : MessageAt) (body : List ℕ) (fault : Fault) → (batch_parts known message body >>= λ parts. columns_placed body parts) ≡ Err fault → batch_sent known message body ≡ Err fault
unfolding batch_sent
batch_stops known message body fault e =
    stops (batch_parts known message body) _ (batch_sent known message body) fault e (λ one read. rw read refl) (λ (parts : PartsAt) read out. unplaced_batch known message body parts fault read out)

dictionary_stops : (known : Known) (message : MessageAt) (body : List ℕ) (fault : Fault) → (dictionary_sent known message body >>= λ sent. columns_placed body sent.parts) ≡ Err fault → known_after known message body ≡ Err fault
unfolding known_after
dictionary_stops known message body fault e =
    stops (dictionary_sent known message body) _ (known_after known message body) fault e (λ one read. rw read refl) (λ (sent : DictionaryParts) read out. unplaced_dictionary known message body sent fault read out)

next_stops : (kind : HeaderKind) (known : Known) (message : MessageAt) (body : List ℕ) (fault : Fault) → next_glance kind known message body ≡ Err fault → next_news kind known message body ≡ Err fault
next_stops header.RecordBatch known message body fault e = rw (batch_stops known message body fault e) refl
next_stops header.DictionaryBatch known message body fault e = rw (dictionary_stops known message body fault e) refl
next_stops header.Schema known message body fault e = same_fault BadBatch fault e

in_stops : (state : State) (message : MessageAt) (body : List ℕ) (fault : Fault) → glance_in state message body ≡ Err fault → news_in state message body ≡ Err fault
in_stops None message body fault e =
    stops (first_schema message.kind message body) _ (news_in None message body) fault e (λ one read. rw read refl) (λ (schema : Schema) read none. let no : ⊥ = cc in absurd no)
in_stops (Some known) message body fault e = next_stops message.kind known message body fault e

read_stops : (state : State) (read : Result MessageAt Fault) (body : List ℕ) (fault : Fault) →
    (read >>= λ message. glance_in state message body) ≡ Err fault → (read >>= λ message. news_in state message body) ≡ Err fault
read_stops state (Ok message) body fault e = in_stops state message body fault e
read_stops state (Err one) body fault e = same_fault one fault e

pub glances_come_first : GlancesComeFirst
unfolding glance_of news_of
glances_come_first state sent fault e = read_stops state (message_of sent.header) sent.body fault e

-- A schema that was refused memory is one that its header says.
pub schema_there : {X : Type 0} (message : MessageAt) (result : Result X Fault) → RefusesFirst result (schema_in message) → result ≡ Err OutOfMemory → (schema : Schema) × (schema_in message ≡ Ok schema)
schema_there message result refused short = by (schema_in message) refl refused (schema_unstinted message)
  where
    by : (read : Result Schema Fault) → schema_in message ≡ read → RefusesFirst result read → Only IsOther read → (schema : Schema) × (schema_in message ≡ Ok schema)
    by (Ok schema) e refused only = (schema, e)
    by (Err fault) e refused only = absurd (only (let same : fault ≡ OutOfMemory = cc in same))

-- a schema whose names were refused memory, and which claims a longer body than there is
pub short_body : {X : Type 0} (message : MessageAt) (body : List ℕ) (result : Result X Fault) (fault : Fault) → RefusesFirst result (schema_in message) → result ≡ Err OutOfMemory → body_claimed message body ≡ Err fault →
    schema_sent message body ≡ Err fault
unfolding schema_sent
short_body message body result fault refused short claimed =
    let there = schema_there message result refused short in
    rw (there.1, claimed) refl

abbrev done : Result (Unit {0}) Fault
done = Ok tt

-- a first message that was refused memory is refused for nothing else
pub first_there : {X : Type 0} (kind : HeaderKind) (message : MessageAt) (body : List ℕ) (result : Result X Fault) → RefusesFirst result (first_schema kind message body) → result ≡ Err OutOfMemory → first_glance kind message body ≡ done
first_there kind message body result refused short = by (first_schema kind message body) refused (first_unstinted kind message body)
  where
    by : (read : Result Schema Fault) → RefusesFirst result read → Only IsOther read → (read >>= λ _. done) ≡ done
    by (Ok schema) refused only = refl
    by (Err fault) refused only = absurd (only (let same : fault ≡ OutOfMemory = cc in same))
