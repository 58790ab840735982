-- Inside: the payloads of an answer, all together.
use Rattle.std.specs.Prelude.{◌≡◌, true, List, [], Result, Ok, Err}
use Rattle.scan_base.specs.declared.fault.Fault.{Fault}
use Rattle.table_versions.specs.Table.{Table}
use Rattle.flight_info.specs.Payloads.{Payload, FitMessages}
use Rattle.fetch_stream.specs.Streams.{StreamAt, HasGiven, MayRefuse, opened}

-- why a stream gives no more: nothing is left, or what refuses it
abbrev pub Stops : StreamAt → Result (Unit {0}) Fault → Type 0
Stops stream (Ok done) = (stream.begun ≡ true) × (stream.left ≡ [])
Stops stream (Err fault) = MayRefuse stream fault

-- the payloads of an answer up to where its stream stops
pub record Collects (answer : Table) (payloads : List Payload)
    (result : Result (Unit {0}) Fault) : Type 0 where
  pub stream : StreamAt
  pub given : HasGiven answer payloads stream
  pub stops : Stops stream result

-- the payloads of a stream from its beginning up to where it stops, each of which fits a message
pub record CollectsAll (stream : StreamAt) (payloads : List Payload)
    (result : Result (Unit {0}) Fault) : Type 0 where
  pub said : (answer : Table) → stream ≡ opened answer → Collects answer payloads result
  pub fits : FitMessages payloads
