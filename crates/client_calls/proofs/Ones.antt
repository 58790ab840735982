-- An answer of one message.
use Rattle.std.proofs.Common.{◌≡◌, ℕ, List, [], ◌∷◌, Result, Ok, Err, refl, subst, inl, inr}
use Rattle.scan_base.specs.declared.fault.Fault.{Fault}
use Rattle.scan_base.specs.declared.fault.Fault.TheVariants.{BadProto}
use Rattle.grpc_frame.specs.declared.place.Place.TheVariants.{InAnswer}
use Rattle.grpc_frame.specs.Ends.{Advances, Tape}
use Rattle.grpc_frame.specs.Records.{Received, with_more}
use Rattle.flight_info.specs.Payloads.{Payload}
use Rattle.client_calls.specs.declared.answer.Arrival.{Arrival}
use Rattle.client_calls.specs.declared.answer.Arrival.TheVariants as arrival
use Rattle.client_calls.specs.declared.failure.Failure.{Failure}
use Rattle.client_calls.specs.declared.failure.Failure.TheVariants.{Answered, Found}
use Rattle.client_calls.specs.Answers.{Incoming, AnswersOne}
use Rattle.client_calls.specs.inside.Arriving.{ArrivesAs}
use Rattle.client_calls.specs.inside.Parts.{incoming_of, left_behind, given}
use Rattle.client_calls.proofs.Taking.{Taken, taken_none, taken_more, more_quiet, taken_stop, answered, finished}

-- the message as it came
abbrev pub AnswersMessage : Result Payload Failure → Incoming → Incoming → Received → Type 0
AnswersMessage result old new all = AnswersOne (λ (given : Result Payload Fault) (message : Payload). given ≡ Ok message) result old new all

-- what an answer is read as
abbrev pub Read : Type 0
Read = Result (Result Payload Failure) Fault

module _ (a b : Tape) (x y : ℕ) (old mid : Received) (place : old.place ≡ InAnswer) where
  abbrev First : Result Arrival Fault → Type 0
  First result = (came : List ℕ) × Advances a b came × ArrivesAs result (incoming_of a x (Ok old)) (incoming_of b y (Ok mid)) (with_more old came) mid

  abbrev One : Read → Type 0
  One result = (came : List ℕ) × Advances a b came × AnswersMessage (given result) (incoming_of a x (Ok old)) (incoming_of b y (left_behind result mid)) (with_more old came)

  pub first_stops : (fault : Fault) → First (Err fault) → One (Err fault)
  first_stops fault q = let s = taken_stop a a b x x y old old mid [] (taken_none a old place) refl fault q in (s.0, s.1, inl (inl s.2))

  pub first_ends : First (Ok (arrival.End (Ok tt))) → One (Ok (Err (Found BadProto)))
  first_ends q = let e = finished a a b x x y old old mid [] (taken_none a old place) refl q in (e.0, e.1, inr (inl (refl, inl e.2)))

  pub first_answers : (fault : Fault) → First (Ok (arrival.End (Err fault))) → One (Ok (Err (Answered fault)))
  first_answers fault q = answered a a b x x y old old mid [] (taken_none a old place) refl fault q

  -- the message came
  pub first_taken : (message : Payload) → First (Ok (arrival.Message message)) → Taken a b old mid (message ∷ [])
  first_taken message q = taken_more a a b x x y old old mid [] (taken_none a old place) refl message q

  pub first_quiet : (message : Payload) → First (Ok (arrival.Message message)) → y ≡ x
  first_quiet message q = more_quiet a a b x x y old old mid [] (taken_none a old place) refl message q

module _ (a b c : Tape) (x y z : ℕ) (old mid new : Received) (place : old.place ≡ InAnswer) (message : Payload)
    (p : (came : List ℕ) × Advances a b came × ArrivesAs (Ok (arrival.Message message)) (incoming_of a x (Ok old)) (incoming_of b y (Ok mid)) (with_more old came) mid) where
  abbrev Second : Result Arrival Fault → Type 0
  Second result = (came : List ℕ) × Advances b c came × ArrivesAs result (incoming_of b y (Ok mid)) (incoming_of c z (Ok new)) (with_more mid came) new

  abbrev Both : Read → Type 0
  Both result = (came : List ℕ) × Advances a c came × AnswersMessage (given result) (incoming_of a x (Ok old)) (incoming_of c z (left_behind result new)) (with_more old came)

  taken : Taken a b old mid (message ∷ [])
  taken = first_taken a b x y old mid place message p

  quiet : y ≡ x
  quiet = first_quiet a b x y old mid place message p

  pub second_stops : (fault : Fault) → Second (Err fault) → Both (Err fault)
  second_stops fault q = let s = taken_stop a b c x y z old mid new (message ∷ []) taken quiet fault q in (s.0, s.1, inl (inr (message, s.2)))

  pub second_more : (second : Payload) → Second (Ok (arrival.Message second)) → Both (Err BadProto)
  second_more second q =
      let t = taken_more a b c x y z old mid new (message ∷ []) taken quiet second q in
      (t.came, t.consumed, inr (inl (refl, inr (message, second, new, t.fronts, refl, more_quiet a b c x y z old mid new (message ∷ []) taken quiet second q))))

  pub second_ends : Second (Ok (arrival.End (Ok tt))) → Both (Ok (Ok message))
  second_ends q = let e = finished a b c x y z old mid new (message ∷ []) taken quiet q in (e.0, e.1, (message, e.2, refl))

  pub second_answers : (fault : Fault) → Second (Ok (arrival.End (Err fault))) → Both (Ok (Err (Answered fault)))
  second_answers fault q = answered a b c x y z old mid new (message ∷ []) taken quiet fault q

-- ---- the message is read

abbrev plain : Payload → Result Payload Fault
plain message = Ok message

same : (message other : Payload) → plain message ≡ plain other → message ≡ other
same message other e = cc

module _ {A : Type 0} (Reads : Result A Fault → Payload → Type 0) (old new : Incoming) (all : Received) where
  pub reads : (message : Payload) (x : A) → AnswersMessage (Ok message) old new all → Reads (Ok x) message → AnswersOne Reads (Ok x) old new all
  reads message x p is = (p.0, p.1, subst (Reads (Ok x)) (same message p.0 p.2) is)

  pub does_not_read : (message : Payload) (fault : Fault) → AnswersMessage (Ok message) old new all → Reads (Err fault) message → AnswersOne Reads (Err (Found fault)) old new all
  does_not_read message fault p is = inr (inr (p.0, p.1, subst (Reads (Err fault)) (same message p.0 p.2) is))

  pub gives_none : (failure : Failure) → AnswersMessage (Err failure) old new all → AnswersOne Reads (Err failure) old new all
  gives_none (Answered fault) p = p
  gives_none (Found fault) (inl stops) = inl stops
  gives_none (Found fault) (inr (inl e)) = inr (inl e)
  gives_none (Found fault) (inr (inr e)) = absurd (let is = e.2 in cc)
