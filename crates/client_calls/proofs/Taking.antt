-- Records taken one after another from an answer.
use Rattle.std.proofs.Common.{◌≡◌, ◌≢◌, ℕ, List, [], ◌∷◌, ◌++◌, map, Option, Some, None, Result, Ok, Err, refl, sym, ap, subst, ◌∙◌, append_assoc, append-nil, inl, inr}
use Rattle.std.specs.List.{flat_map}
use Rattle.std.specs.Io.KnownBytes.{IsAtEnd}
use Rattle.std.proofs.lemmas.Grind.{flat_map-append}
use Rattle.std.proofs.lemmas.List.{map-append}
use Rattle.std.proofs.lemmas.List.Elements.{All-append, All-cons, All-nil}
use Rattle.scan_base.specs.declared.fault.Fault.{Fault}
use Rattle.scan_base.specs.declared.fault.Fault.TheVariants.{OutOfMemory, Transport}
use Rattle.grpc_frame.specs.declared.place.Place.{Place}
use Rattle.grpc_frame.specs.declared.place.Place.TheVariants.{InAnswer}
use Rattle.grpc_frame.specs.declared.record.Record.{Record}
use Rattle.grpc_frame.specs.declared.record.Record.TheVariants.{Open, Message, End, Status}
use Rattle.grpc_frame.specs.Ends.{Advances, Tape}
use Rattle.grpc_frame.specs.Records.{spelling, IsRecord, place_after, Received, with_more, Leads, Breaks, Flaw, fault_of, wrong_kind, long_path, wrong_flag, long_message, bad_text}
use Rattle.grpc_frame.specs.Arrivals.{Arrives, IsReason, CountsTransport}
use Rattle.grpc_frame.proofs.Tapes.{Advances-nil, Advances-trans}
use Rattle.flight_info.specs.Payloads.{Payload}
use Rattle.flight_client.specs.Status.{StatusSays}
use Rattle.client_calls.specs.declared.answer.Arrival.{Arrival}
use Rattle.client_calls.specs.declared.answer.Arrival.TheVariants as arrival
use Rattle.client_calls.specs.Answers.{Fronts, stopped_at, IsAnswer, NoMore, Halts, StopsBehind}
use Rattle.client_calls.specs.Answers.{IsAnswered}
pub use Rattle.client_calls.specs.Taking.{Taken}
use Rattle.client_calls.specs.inside.Arriving.{ArrivesAs}
use Rattle.client_calls.specs.inside.Parts.{incoming_of}

-- ---- records in front

-- more bytes came
pub fronts_then : (all left : Received) (records : List Record) (more : List ℕ) → Fronts records all left → Fronts records (with_more all more) (with_more left more)
fronts_then all left records more p = record {
  whole = ap (λ (b : List ℕ). b ++ more) p.whole ∙ append_assoc (flat_map spelling records) left.bytes more;
  fits = p.fits;
  place = p.place;
}

-- others after them
pub fronts_both : (all mid left : Received) (records others : List Record) → Fronts records all mid → Fronts others mid left → Fronts (records ++ others) all left
fronts_both all mid left records others p q = record {
  whole = p.whole ∙ ap (λ (b : List ℕ). flat_map spelling records ++ b) q.whole
      ∙ sym (append_assoc (flat_map spelling records) (flat_map spelling others) left.bytes)
      ∙ ap (λ (b : List ℕ). b ++ left.bytes) (sym (flat_map-append spelling records others));
  fits = All-append IsRecord records others p.fits q.fits;
  place = q.place;
}

-- the place stays
still : (found : Record) (place next : Place) → place ≡ InAnswer → place_after place found ≡ Some next → next ≡ InAnswer
still (Open path) place next is moves = let m = rw is at moves in absurd cc
still (Message message) place next is moves = let m = rw is at moves in cc
still End place next is moves = let m = rw is at moves in absurd cc
still (Status code text) place next is moves = let m = rw is at moves in cc

pub fronts_one : (all left : Received) (found : Record) → all.place ≡ InAnswer → Leads found all left → Fronts (found ∷ []) all left
fronts_one all left found place leads = record {
  whole = leads.whole ∙ ap (λ (b : List ℕ). b ++ left.bytes) (sym (append-nil (spelling found)));
  fits = All-cons IsRecord found [] leads.fits (All-nil IsRecord);
  place = still found all.place left.place place leads.moves;
}

-- bytes that came in two parts
twice : (old : Received) (came more : List ℕ) → with_more (with_more old came) more ≡ with_more old (came ++ more)
twice old came more = ap (λ (b : List ℕ). with_place old.place b) (append_assoc old.bytes came more)
  where
    with_place : Place → List ℕ → Received
    with_place place bytes = record { bytes = bytes; place = place }

-- ---- what comes next

-- no flaw is a failed transport
flaw_no_transport : (flaw : Flaw) → fault_of flaw ≢ Transport
flaw_no_transport (wrong_kind kind) e = absurd cc
flaw_no_transport (long_path len) e = absurd cc
flaw_no_transport (wrong_flag flag) e = absurd cc
flaw_no_transport (long_message len) e = absurd cc
flaw_no_transport (bad_text code text) e = absurd cc

-- the place stays, whatever came
pub place_stays : (result : Result (Option Record) Fault) (old new : Received) (came : List ℕ) → old.place ≡ InAnswer → Arrives result old new came → new.place ≡ InAnswer
place_stays (Ok (Some found)) old new came place leads = still found old.place new.place place leads.moves
place_stays (Ok None) old new came place q = ap (λ (r : Received). r.place) q.0 ∙ place
place_stays (Err fault) old new came place q = ap (λ (r : Received). r.place) q.0 ∙ place

module _ (a b : Tape) (failed failed' : ℕ) (old new : Received) (place : old.place ≡ InAnswer) where
  abbrev Next : Result (Option Record) Fault → Type 0
  Next result = (came : List ℕ) × Advances a b came × Arrives result old new came

  abbrev Gave : Result Arrival Fault → Type 0
  Gave result = (came : List ℕ) × Advances a b came × ArrivesAs result (incoming_of a failed (Ok old)) (incoming_of b failed' (Ok new)) (with_more old came) new

  pub next_place : (result : Result (Option Record) Fault) → Next result → new.place ≡ InAnswer
  next_place result q = place_stays result old new q.0 place q.2

  pub next_message : (message : Payload) → Next (Ok (Some (Message message))) → failed' ≡ failed → Gave (Ok (arrival.Message message))
  next_message message q quiet = (q.0, q.1, (fronts_one (with_more old q.0) new (Message message) place q.2, quiet))

  pub next_status : (code : ℕ) (text : List ℕ) (end : Result (Unit {0}) Fault) → StatusSays code text end → Next (Ok (Some (Status code text))) → failed' ≡ failed → Gave (Ok (arrival.End end))
  next_status code text end says q quiet = (q.0, q.1, (code, text, says, fronts_one (with_more old q.0) new (Status code text) place q.2, quiet))

  pub next_open : (path : List ℕ) → Next (Ok (Some (Open path))) → ⊥
  next_open path q = let moves = rw place at q.2.moves in absurd cc

  pub next_end : Next (Ok (Some End)) → ⊥
  next_end q = let moves = rw place at q.2.moves in absurd cc

  pub next_none : Next (Ok None) → IsAtEnd b.left → failed' ≡ failed → Gave (Err Transport)
  next_none q at_end quiet = (q.0, q.1, (q.2.0, inl (refl, q.2.1, inr (at_end, quiet))))

  pub next_stop : (fault : Fault) → Next (Err fault) → CountsTransport {A = Option Record} (Err fault) failed failed' → Gave (Err fault)
  next_stop fault q counted = (q.0, q.1, (q.2.0, by q.2.1))
    where
      no_memory : fault ≡ OutOfMemory → fault ≢ Transport
      no_memory e is = let both : OutOfMemory ≡ Transport = sym e ∙ is in absurd cc

      no_flaw : Breaks new fault → fault ≢ Transport
      no_flaw breaks is = flaw_no_transport breaks.flaw (sym breaks.fault_is ∙ is)

      by : IsReason fault new → Halts fault new (incoming_of a failed (Ok old)) (incoming_of b failed' (Ok new))
      by (inl e) = inl (e.0, e.1, inl (counted.0 e.0))
      by (inr (inl e)) = inr (inr e, counted.1 (no_memory e.0))
      by (inr (inr breaks)) = inr (inl breaks, counted.1 (no_flaw breaks))

-- ---- the messages so far

pub taken_none : (source : Tape) (old : Received) → old.place ≡ InAnswer → Taken source source old old []
taken_none source old place = record {
  came = [];
  consumed = Advances-nil source;
  fronts = record { whole = append-nil old.bytes; fits = All-nil IsRecord; place = place };
}

module _ (a b c : Tape) (x y z : ℕ) (old mid new : Received) (messages : List Payload) (p : Taken a b old mid messages) (same : y ≡ x) where
  abbrev Since : Result Arrival Fault → Type 0
  Since result = (came : List ℕ) × Advances b c came × ArrivesAs result (incoming_of b y (Ok mid)) (incoming_of c z (Ok new)) (with_more mid came) new

  abbrev all_came : List ℕ → List ℕ
  all_came more = p.came ++ more

  -- they stand before what came since
  stand : (more : List ℕ) → Fronts (map Message messages) (with_more old (all_came more)) (with_more mid more)
  stand more = subst (λ (all : Received). Fronts (map Message messages) all (with_more mid more)) (twice old p.came more) (fronts_then (with_more old p.came) mid (map Message messages) more p.fronts)

  all_consumed : (more : List ℕ) → Advances b c more → Advances a c (all_came more)
  all_consumed more q = Advances-trans a b c p.came more p.consumed q

  -- one message more
  pub taken_more : (message : Payload) → Since (Ok (arrival.Message message)) → Taken a c old new (messages ++ message ∷ [])
  taken_more message q = record {
    came = all_came q.0;
    consumed = all_consumed q.0 q.1;
    fronts = rw (map-append Message messages (message ∷ [])) (fronts_both (with_more old (all_came q.0)) (with_more mid q.0) new (map Message messages) (Message message ∷ []) (stand q.0) q.2.0);
  }

  pub more_quiet : (message : Payload) → Since (Ok (arrival.Message message)) → z ≡ x
  more_quiet message q = q.2.1 ∙ same

  -- the status
  pub taken_end : (end : Result (Unit {0}) Fault) → Since (Ok (arrival.End end))
      → (came : List ℕ) × Advances a c came × ((code : ℕ) × (text : List ℕ) × IsAnswer messages code text (incoming_of a x (Ok old)) (incoming_of c z (Ok new)) (with_more old came) × StatusSays code text end)
  taken_end end q = (all_came q.0, all_consumed q.0 q.1, (q.2.0, q.2.1, is, q.2.2))
    where
      is : IsAnswer messages q.2.0 q.2.1 (incoming_of a x (Ok old)) (incoming_of c z (Ok new)) (with_more old (all_came q.0))
      is = record {
        left = new;
        fronts = fronts_both (with_more old (all_came q.0)) (with_more mid q.0) new (map Message messages) (Status q.2.0 q.2.1 ∷ []) (stand q.0) q.2.3;
        is_left = refl;
        quiet = q.2.4 ∙ same;
      }

  -- the answer does not come to it
  pub taken_stop : (fault : Fault) → Since (Err fault)
      → (came : List ℕ) × Advances a c came × StopsBehind messages fault (incoming_of a x (Ok old)) (incoming_of c z (stopped_at fault new)) (with_more old came)
  taken_stop fault q = (all_came q.0, all_consumed q.0 q.1, record { at = new; fronts = here; stopped = refl; halts = by q.2.1 })
    where
      here : Fronts (map Message messages) (with_more old (all_came q.0)) new
      here = subst (λ (left : Received). Fronts (map Message messages) (with_more old (all_came q.0)) left) (sym q.2.0) (stand q.0)

      no_more : NoMore (incoming_of b y (Ok mid)) (incoming_of c z (Ok new)) → NoMore (incoming_of a x (Ok old)) (incoming_of c z (stopped_at fault new))
      no_more e = rw same at e

      by : Halts fault new (incoming_of b y (Ok mid)) (incoming_of c z (Ok new)) → Halts fault new (incoming_of a x (Ok old)) (incoming_of c z (stopped_at fault new))
      by (inl e) = inl (e.0, e.1, no_more e.2)
      by (inr e) = inr (e.0, e.1 ∙ same)

  -- the server's fault
  pub answered : (fault : Fault) → Since (Ok (arrival.End (Err fault)))
      → (came : List ℕ) × Advances a c came × IsAnswered fault (incoming_of a x (Ok old)) (incoming_of c z (Ok new)) (with_more old came)
  answered fault q = let e = taken_end (Err fault) q in (e.0, e.1, (messages, e.2.0, e.2.1, e.2.2, e.2.3))

  -- status 0
  pub finished : Since (Ok (arrival.End (Ok tt)))
      → (came : List ℕ) × Advances a c came × ((text : List ℕ) × IsAnswer messages 0 text (incoming_of a x (Ok old)) (incoming_of c z (Ok new)) (with_more old came))
  finished q =
      let e = taken_end (Ok tt) q in
      (e.0, e.1, (e.2.1, subst (λ (code : ℕ). IsAnswer messages code e.2.1 (incoming_of a x (Ok old)) (incoming_of c z (Ok new)) (with_more old e.0)) e.2.3 e.2.2))
