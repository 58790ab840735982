-- Streams that are fetched, one after the other.
use Rattle.std.proofs.Common.{◌≡◌, ℕ, ◌+◌, ◌<◌, List, [], ◌∷◌, ◌++◌, length, map, take, drop, get_or, Result, Ok, Err, refl, subst, sym, ap, ◌∙◌, inl, inr}
use Rattle.std.proofs.lemmas.List.{map-append, take-append-drop, take_more, drop_more}
use Rattle.scan_base.specs.declared.fault.Fault.{Fault}
use Rattle.scan_base.specs.declared.fault.Fault.TheVariants.{OutOfMemory}
use Rattle.scan_base.specs.Reading.{RefusesFirst}
use Rattle.flight_proto.specs.FlightInfo.{EndpointSaid, InfoSaid, info_of}
use Rattle.flight_proto.specs.InfoCommand.{InfoCommand, wanted_bytes}
use Rattle.grpc_frame.specs.Records.{Received}
use Rattle.flight_client.specs.Stream.{StreamAt}
use Rattle.client_calls.specs.declared.call.Method.TheVariants.{GetFlightInfo, DoGet}
use Rattle.client_calls.specs.declared.failure.Failure.{Failure}
use Rattle.client_calls.specs.declared.failure.Failure.TheVariants.{Answered, Found}
use Rattle.client_calls.specs.Answers.{Incoming, Stop, AnswersOne}
use Rattle.client_calls.specs.StreamAnswers.{AnswersStream}
use Rattle.client_calls.specs.Commands.{ReadsEndpoints}
use Rattle.client_calls.specs.Outcome.{Line, Calls, CallsAt}
use Rattle.client_commands.specs.Fetching.{AsksPlaces, FetchesEach, FetchesOne, FailsAt, FetchStops}

-- a stream more
pub fetched_more : (front : List EndpointSaid) (streams : List StreamAt) (next : EndpointSaid) (stream : StreamAt) (old middle new : Line)
    → FetchesEach front streams old middle → FetchesOne next (Ok stream) middle new → FetchesEach (front ++ next ∷ []) (streams ++ stream ∷ []) old new
fetched_more [] [] next stream old middle new same one = (new, subst (λ (from : Line). FetchesOne next (Ok stream) from new) same one, refl)
fetched_more [] (s ∷ ss) next stream old middle new same one = absurd same
fetched_more (e ∷ es) [] next stream old middle new same one = absurd same
fetched_more (e ∷ es) (s ∷ ss) next stream old middle new fetched one =
    (fetched.0, fetched.1, fetched_more es ss next stream fetched.0 middle new fetched.2 one)

-- memory was refused before the next one
memory : (endpoints : List EndpointSaid) (line : Line) → FailsAt endpoints (Found OutOfMemory) line line
memory [] line = (refl, refl)
memory (e ∷ es) line = inr (refl, refl)

pub stops_before : (endpoints : List EndpointSaid) (line : Line) → FetchStops endpoints (Found OutOfMemory) line line
stops_before endpoints line = record {
  front = [];
  rest = endpoints;
  splits = refl;
  streams = [];
  middle = line;
  fetched = refl;
  why = memory endpoints line;
}

-- ---- the next of some items

module _ {X : Type 0} (said : X → EndpointSaid) (items : List X) (i : ℕ) (x : X) (inside : i < length items) (is : x ≡ get_or items i x) where
  pub split_at : map said items ≡ map said (take i items) ++ said x ∷ map said (drop (i + 1) items)
  split_at =
      ap (map said) (sym (take-append-drop i items) ∙ ap (λ (l : List X). take i items ++ l) (drop_more items i x inside ∙ ap (λ (y : X). y ∷ drop (i + 1) items) (sym is)))
      ∙ map-append said (take i items) (x ∷ drop (i + 1) items)

  pub front_more : map said (take (i + 1) items) ≡ map said (take i items) ++ said x ∷ []
  front_more =
      ap (map said) (take_more items i x inside ∙ ap (λ (y : X). take i items ++ y ∷ []) (sym is))
      ∙ map-append said (take i items) (x ∷ [])

  pub next_fetched : (streams : List StreamAt) (stream : StreamAt) (old middle new : Line) → FetchesEach (map said (take i items)) streams old middle
      → FetchesOne (said x) (Ok stream) middle new → FetchesEach (map said (take (i + 1) items)) (streams ++ stream ∷ []) old new
  next_fetched streams stream old middle new fetched one =
      subst (λ (l : List EndpointSaid). FetchesEach l (streams ++ stream ∷ []) old new) (sym front_more)
      (fetched_more (map said (take i items)) streams (said x) stream old middle new fetched one)

  pub stops_at : (failure : Failure) (streams : List StreamAt) (old middle new : Line) → FetchesEach (map said (take i items)) streams old middle
      → FetchesOne (said x) (Err failure) middle new → FetchStops (map said items) failure old new
  stops_at failure streams old middle new fetched one = record {
    front = map said (take i items);
    rest = said x ∷ map said (drop (i + 1) items);
    splits = split_at;
    streams = streams;
    middle = middle;
    fetched = fetched;
    why = inl one;
  }

  pub stops_behind : (streams : List StreamAt) (stream : StreamAt) (old middle new : Line) → FetchesEach (map said (take i items)) streams old middle
      → FetchesOne (said x) (Ok stream) middle new → FetchStops (map said items) (Found OutOfMemory) old new
  stops_behind streams stream old middle new fetched one = record {
    front = map said (take (i + 1) items);
    rest = map said (drop (i + 1) items);
    splits = ap (map said) (sym (take-append-drop (i + 1) items)) ∙ map-append said (take (i + 1) items) (drop (i + 1) items);
    streams = streams ++ stream ∷ [];
    middle = new;
    fetched = next_fetched streams stream old middle new fetched one;
    why = memory (map said (drop (i + 1) items)) new;
  }

-- ---- failures of the ends

-- no read and no write of a fetch failed that gave a stream
pub quiet : (endpoint : EndpointSaid) (stream : StreamAt) (old new : Line) → FetchesOne endpoint (Ok stream) old new
    → (new.incoming.failed ≡ old.incoming.failed) × (new.outgoing.failed ≡ old.outgoing.failed)
quiet endpoint stream old new = by old.incoming.left
  where
    by : (left : Result Received Stop) → CallsAt left DoGet (endpoint.ticket ∷ []) AnswersStream (Ok stream) old new
        → (new.incoming.failed ≡ old.incoming.failed) × (new.outgoing.failed ≡ old.outgoing.failed)
    by (Ok left) (inl called) = (called.answers.is.quiet, called.written.quiet)
    by (Ok left) (inr refused) = let e = refused.1 in absurd cc
    by (Err fault) stopped = let e = stopped.0 in absurd cc

-- ---- the endpoints, as plain data

-- the endpoints as they are
abbrev alone : List EndpointSaid → List EndpointSaid
alone endpoints = endpoints

module _ {A : Type 0} (view : A → List EndpointSaid) (wanted : InfoCommand) (old new : Line) where
  pub asked : (x : A) → Calls GetFlightInfo (wanted_bytes wanted ∷ []) (AnswersOne (ReadsEndpoints view)) (Ok x) old new → AsksPlaces wanted (Ok (view x)) old new
  asked x = by old.incoming.left
    where
      by : (left : Result Received Stop) → CallsAt left GetFlightInfo (wanted_bytes wanted ∷ []) (AnswersOne (ReadsEndpoints view)) (Ok x) old new
          → CallsAt left GetFlightInfo (wanted_bytes wanted ∷ []) (AnswersOne (ReadsEndpoints alone)) (Ok (view x)) old new
      by (Ok left) (inl called) = inl (record { written = called.written; came = called.came; consumed = called.consumed; answers = said called.answers })
        where
          seen : A → Result A Fault
          seen x = Ok x

          read_so : List EndpointSaid → Result (List EndpointSaid) Fault
          read_so endpoints = Ok endpoints

          not_refused : (cause : Fault) → seen x ≡ Err cause → ⊥
          not_refused cause e = absurd cc

          first : (read : Result InfoSaid Fault) → RefusesFirst (seen x) read → RefusesFirst (read_so (view x)) read
          first (Ok info) is = tt
          first (Err cause) is = absurd (not_refused cause is)

          said : {a b : Incoming} {r : Received} → AnswersOne (ReadsEndpoints view) (Ok x) a b r → AnswersOne (ReadsEndpoints alone) (Ok (view x)) a b r
          said one = (one.0, one.1, (one.2.0, first (info_of one.0) one.2.1))
      by (Ok left) (inr refused) = let e = refused.1 in absurd cc
      by (Err fault) stopped = let e = stopped.0 in absurd cc

  pub not_asked : (failure : Failure) → Calls GetFlightInfo (wanted_bytes wanted ∷ []) (AnswersOne (ReadsEndpoints view)) (Err failure) old new → AsksPlaces wanted (Err failure) old new
  not_asked failure = by old.incoming.left
    where
      wrong : Failure → Result A Failure
      wrong failure = Err failure

      none : Failure → Result (List EndpointSaid) Failure
      none failure = Err failure

      refused : Fault → Result A Fault
      refused fault = Err fault

      read_none : Fault → Result (List EndpointSaid) Fault
      read_none fault = Err fault

      -- a refusal that comes first, whatever would be read
      first : (fault : Fault) (read : Result InfoSaid Fault) → RefusesFirst (refused fault) read → RefusesFirst (read_none fault) read
      first fault (Ok info) is = tt
      first fault (Err cause) is = ap read_none (is_cause is)
        where
          is_cause : refused fault ≡ refused cause → fault ≡ cause
          is_cause e = cc

      same : (failure : Failure) (a b : Incoming) (r : Received) → AnswersOne (ReadsEndpoints view) (Err failure) a b r → AnswersOne (ReadsEndpoints alone) (Err failure) a b r
      same (Answered fault) a b r answers = answers
      same (Found fault) a b r (inl stops) = inl stops
      same (Found fault) a b r (inr (inl other)) = inr (inl other)
      same (Found fault) a b r (inr (inr one)) = inr (inr (one.0, one.1, (one.2.0, first fault (info_of one.0) one.2.1)))

      which : (fault : Fault) (e : wrong failure ≡ wrong (Found fault)) → failure ≡ Found fault
      which fault e = cc

      by : (left : Result Received Stop) → CallsAt left GetFlightInfo (wanted_bytes wanted ∷ []) (AnswersOne (ReadsEndpoints view)) (Err failure) old new
          → CallsAt left GetFlightInfo (wanted_bytes wanted ∷ []) (AnswersOne (ReadsEndpoints alone)) (Err failure) old new
      by (Ok left) (inl called) =
          inl (record { written = called.written; came = called.came; consumed = called.consumed; answers = same failure _ _ _ called.answers })
      by (Ok left) (inr other) = inr (other.0, ap none (which other.0 other.1), other.2)
      by (Err stop) stopped = (ap none (which stop.fault stopped.0), stopped.1)
