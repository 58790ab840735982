-- Payloads that are collected, and what they say.
use Rattle.std.proofs.Common.{◌≡◌, ◌≤◌, List, ◌++◌, length, Some, None, Ok, Err, inl, refl, subst}
use Rattle.std.proofs.lemmas.List.Elements.{All-append}
use Rattle.scan_base.specs.declared.fault.Fault.{Fault}
use Rattle.scan_base.specs.declared.fault.Fault.TheVariants.{OutOfMemory, ResultTooLarge}
use Rattle.scan_base.specs.Limits.{most_message_bytes}
use Rattle.endpoint_split.specs.Handle.{HandleAt}
use Rattle.table_versions.specs.Table.{Table}
use Rattle.table_versions.specs.Database.{Database}
use Rattle.flight_info.specs.Payloads.{Payload, FitMessages}
use Rattle.fetch_stream.specs.Fetches.{FetchAt, HandleMeans}
use Rattle.fetch_stream.specs.Streams.{StreamAt, Gives, HasGiven}
use Rattle.fetch_stream.proofs.Answering.{streams_answer, was_refused}
use Rattle.flight_core.specs.PayloadCollector.{Collects}

-- those that fit, and more that do
pub all_fit : (payloads more : List Payload) → FitMessages payloads → FitMessages more → FitMessages (payloads ++ more)
unfolding FitMessages
all_fit payloads more before behind = All-append (λ (payload : Payload). length payload ≤ most_message_bytes) payloads more before behind

-- up to where a stream is refused
pub collected_before : (answer : Table) (payloads : List Payload) (before after : StreamAt) (fault : Fault) → (before.refused ≡ None) × HasGiven answer payloads before
    → Gives before (Err fault) after → Collects answer payloads (Err fault)
collected_before answer payloads before after fault has gives = record { stream = before; given = has.1; stops = was_refused before after fault has.0 gives }

-- or where memory was refused for what it gave
pub collected_short : (answer : Table) (payloads : List Payload) (stream : StreamAt) → HasGiven answer payloads stream → Collects answer payloads (Err OutOfMemory)
collected_short answer payloads stream has = record { stream = stream; given = has; stops = inl refl }

pub collected_whole : (database : Database) (handle : HandleAt) (answer : Table) (payloads : List Payload) (done : Unit {0}) → HandleMeans database handle answer
    → Collects answer payloads (Ok done) → FetchAt database handle payloads None
collected_whole database handle answer payloads done means all = streams_answer.end database handle answer payloads all.stream means all.given all.stops.0 all.stops.1

pub collected_large : (database : Database) (handle : HandleAt) (answer : Table) (payloads : List Payload) (fault : Fault) → fault ≡ ResultTooLarge → HandleMeans database handle answer
    → Collects answer payloads (Err fault) → FetchAt database handle payloads (Some ResultTooLarge)
collected_large database handle answer payloads fault is means all =
    subst (λ (f : Fault). FetchAt database handle payloads (Some f)) is (streams_answer.refused database handle answer payloads all.stream fault means all.given all.stops)
