-- The stream of an answer.
use Rattle.std.proofs.Common.{◌≡◌, ◌≢◌, ℕ, List, [], ◌∷◌, ◌++◌, Some, Result, Ok, Err, refl, ap, inl, inr}
use Rattle.scan_base.specs.declared.fault.Fault.{Fault}
use Rattle.scan_base.specs.declared.fault.Fault.TheVariants.{OutOfMemory}
use Rattle.scan_base.specs.Reading.{RefusesFirst}
use Rattle.grpc_frame.specs.Ends.{Advances, Tape}
use Rattle.grpc_frame.specs.Records.{Received, with_more}
use Rattle.flight_info.specs.Payloads.{Payload}
use Rattle.flight_client.specs.Stream.{StreamAt, after_payload, glance_of, Came, Ends}
use Rattle.client_calls.specs.declared.answer.Arrival.{Arrival}
use Rattle.client_calls.specs.declared.answer.Arrival.TheVariants as arrival
use Rattle.client_calls.specs.declared.failure.Failure.{Failure}
use Rattle.client_calls.specs.declared.failure.Failure.TheVariants.{Answered}
use Rattle.client_calls.specs.Answers.{stopped_at}
use Rattle.client_calls.specs.StreamAnswers.{AnswersStream, Stands, IsRefused}
use Rattle.client_calls.specs.inside.Arriving.{ArrivesAs}
use Rattle.client_calls.specs.inside.Parts.{incoming_of, left_behind, given}
use Rattle.client_calls.proofs.Taking.{Taken, taken_more, more_quiet, taken_stop, answered, finished}

module _ (a b c : Tape) (x y z : ℕ) (old mid new : Received) (payloads : List Payload) (p : Taken a b old mid payloads) (same : y ≡ x) (stream : StreamAt) (came : Came payloads stream) where
  abbrev Since : Result Arrival Fault → Type 0
  Since result = (more : List ℕ) × Advances b c more × ArrivesAs result (incoming_of b y (Ok mid)) (incoming_of c z (Ok new)) (with_more mid more) new

  abbrev Gives : Result (Result StreamAt Failure) Fault → Type 0
  Gives result = (more : List ℕ) × Advances a c more × AnswersStream (given result) (incoming_of a x (Ok old)) (incoming_of c z (left_behind result new)) (with_more old more)

  pub stream_stops : (fault : Fault) → Since (Err fault) → Gives (Err fault)
  stream_stops fault q = let s = taken_stop a b c x y z old mid new payloads p same fault q in (s.0, s.1, inl (payloads, stream, came, s.2))

  pub stream_answers : (fault : Fault) → Since (Ok (arrival.End (Err fault))) → Gives (Ok (Err (Answered fault)))
  stream_answers fault q = answered a b c x y z old mid new payloads p same fault q

  -- a payload is refused
  pub stream_refused : (last : Payload) (found fault : Fault) → Since (Ok (arrival.Message last)) → RefusesFirst {X = Unit {0}} (Err found) (glance_of stream last)
      → (found ≢ OutOfMemory → after_payload stream last ≡ Err found) → Stands new found fault → Gives (Err fault)
  stream_refused last found fault q first why instead = (t.came, t.consumed, inr refused)
    where
      t : Taken a c old new (payloads ++ last ∷ [])
      t = taken_more a b c x y z old mid new payloads p same last q

      quiet : z ≡ x
      quiet = more_quiet a b c x y z old mid new payloads p same last q

      refused : IsRefused fault (incoming_of a x (Ok old)) (incoming_of c z (stopped_at fault new)) (with_more old t.came)
      refused = record {
        payloads = payloads;
        last = last;
        stream = stream;
        came = came;
        found = found;
        first = first;
        refused = why;
        at = new;
        instead = instead;
        fronts = t.fronts;
        stopped = refl;
        quiet = quiet;
      }

  -- status 0
  pub stream_ends : (ended : StreamAt) → Since (Ok (arrival.End (Ok tt))) → Ends stream 0 [] ended → Gives (Ok (Ok ended))
  stream_ends ended q ends =
      let e = finished a b c x y z old mid new payloads p same q in
      (e.0, e.1, record { payloads = payloads; text = e.2.0; is = e.2.1; came = still ends; ended = done ends })
    where
      still : Ends stream 0 [] ended → Came payloads ended
      still (end, says, is) = rw is came

      done : Ends stream 0 [] ended → ended.end ≡ Some (Ok tt)
      done (Ok x, says, is) = ap (λ (s : StreamAt). s.end) is
      done (Err fault, says, is) = absurd (says.0 refl)
