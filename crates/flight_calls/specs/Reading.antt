-- Inside: what reading one call gives.
use Rattle.std.specs.Prelude.{◌≡◌, ◌≢◌, ◌⊎◌, ℕ, List, [], ◌∷◌, ◌++◌, map, All, Option, Some, None}
use Rattle.std.specs.Prelude.{Result, Ok, Err}
use Rattle.std.specs.List.{flat_map}
use Rattle.scan_base.specs.declared.fault.Fault.{Fault}
use Rattle.scan_base.specs.declared.fault.Fault.TheVariants.{OutOfMemory, Transport}
use Rattle.grpc_frame.specs.declared.place.Place.TheVariants.{BetweenCalls}
use Rattle.grpc_frame.specs.declared.record.Record.{Record}
use Rattle.grpc_frame.specs.declared.record.Record.TheVariants.{Message, End}
use Rattle.grpc_frame.specs.Records.{spelling, IsRecord, place_after_all, Received, with_more}
use Rattle.grpc_frame.specs.Records.{broken}
use Rattle.grpc_frame.specs.Arrivals.{IsSound}
use Rattle.flight_info.specs.Payloads.{Payload}
use Rattle.flight_calls.specs.declared.call.Arrival.{Arrival}
use Rattle.flight_calls.specs.declared.call.Arrival.TheVariants as arrival
use Rattle.flight_calls.specs.declared.request.Request.{Request}
use Rattle.flight_calls.specs.Calls.{Call, call_records}
use Rattle.flight_calls.specs.OwedAnswers.{EndsIn, EndsInside}
use Rattle.flight_calls.specs.Requests.{Holds}

-- the records stand in front, and the rest, which begins after a call, follows them
pub record Fronts (records : List Record) (old new : Received) : Type 0 where
  pub whole : old.bytes ≡ flat_map spelling records ++ new.bytes
  pub fits : All IsRecord records
  pub behind : new.place ≡ BetweenCalls

-- these records stand in front, none ends a call, and what is left follows them
pub record Passed (from : Received) (records : List Record) (left : Received) : Type 0 where
  pub whole : from.bytes ≡ flat_map spelling records ++ left.bytes
  pub fits : All IsRecord records
  pub places : place_after_all from.place records ≡ Some left.place
  pub no_end : All (λ found. found ≢ End) records

-- no faulty record stands where this is left, after records of which none ends a call
abbrev pub IsSoundAt : Received → Received → Type 0
IsSoundAt from left = (records : List Record) × Passed from records left × IsSound left

-- why reading a call may stop: a read failed before the call's End had come, memory was refused, of
-- which this holds, or a record of the call is faulty
abbrev pub Stops : Fault → Received → Type 0 → Type 0
Stops fault left holds =
    ((fault ≡ Transport) × EndsInside left)
    ⊎ (((fault ≡ OutOfMemory) × holds) ⊎ EndsIn left (broken fault))

-- The messages of a call to a path, up to its End, of which these bytes came after what was there:
-- a request holds what they ask. Nothing where the input ends before.
abbrev pub RequestArrives : Result (Option Request) Fault → List ℕ → Received → Received →
    List ℕ → Type 0
RequestArrives (Ok (Some request)) path old new came = (messages : List Payload)
    × Holds request (record { path = path; messages = messages })
    × Fronts (map Message messages ++ End ∷ []) (with_more old came) new
RequestArrives (Ok None) path old new came = EndsInside (with_more old came)
RequestArrives (Err fault) path old new came =
    Stops fault (with_more old came) (IsSoundAt (with_more old came) new)

-- A call, of which these bytes came after what was there; or the input ended, after a call or
-- inside one.
abbrev pub CallArrives : Result Arrival Fault → Received → Received → List ℕ → Type 0
CallArrives (Ok (arrival.Whole request)) old new came =
    (call : Call) × Holds request call × Fronts (call_records call) (with_more old came) new
CallArrives (Ok arrival.Nothing) old new came =
    with_more old came ≡ record { bytes = []; place = BetweenCalls }
CallArrives (Ok arrival.CutShort) old new came =
    ((with_more old came).bytes ≢ []) × EndsInside (with_more old came)
CallArrives (Err fault) old new came =
    Stops fault (with_more old came)
    (IsSound (with_more old came) × IsSoundAt (with_more old came) new)

-- this holds of a call that came
abbrev pub FallsForCall : Arrival → Type 0 → Type 0
FallsForCall (arrival.Whole request) holds = holds
FallsForCall _ holds = Unit {0}
