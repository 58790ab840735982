-- Records taken one after another from what comes.
use Rattle.std.proofs.Common.{◌≡◌, ◌≢◌, ℕ, List, [], ◌∷◌, ◌++◌, map, Option, Some, None, Result, Ok, Err, refl, sym, ap, subst, ◌∙◌, append_assoc, append-nil, inl, inr}
use Rattle.std.specs.List.{flat_map}
use Rattle.std.specs.Option.{option_and_then}
use Rattle.std.proofs.lemmas.Grind.{flat_map-append}
use Rattle.std.proofs.lemmas.List.{map-append}
use Rattle.std.proofs.lemmas.List.Elements.{All-append, All-cons, All-nil}
use Rattle.scan_base.specs.declared.fault.Fault.{Fault}
use Rattle.grpc_frame.specs.declared.place.Place.{Place}
use Rattle.grpc_frame.specs.declared.place.Place.TheVariants.{BetweenCalls, InsideCall, InAnswer}
use Rattle.grpc_frame.specs.declared.record.Record.{Record}
use Rattle.grpc_frame.specs.declared.record.Record.TheVariants.{Open, Message, End, Status}
use Rattle.grpc_frame.specs.Records.{spelling, IsRecord, place_after, Received, with_more, Leads, IsCut, Ending, nothing_more, cut, broken, Ends}
use Rattle.grpc_frame.specs.Arrivals.{Arrives, IsReason, IsSound}
use Rattle.grpc_frame.specs.Ends.{Advances, Tape}
use Rattle.grpc_frame.proofs.Coming.{led_sound}
use Rattle.grpc_frame.proofs.Splitting.{place_after_all-append}
use Rattle.grpc_frame.proofs.Tapes.{Advances-nil, Advances-trans}
use Rattle.flight_info.specs.Payloads.{Payload}
use Rattle.flight_calls.specs.OwedAnswers.{EndsIn, EndsInside}
use Rattle.flight_calls.specs.Requests.{Holds}
use Rattle.flight_calls.specs.Reading.{Fronts, Passed, IsSoundAt, Stops, RequestArrives, CallArrives}
use Rattle.flight_calls.specs.declared.call.Arrival.TheVariants as arrival
use Rattle.flight_calls.specs.declared.request.Request.{Request}

pub passed_none : (from : Received) → Passed from [] from
passed_none from = record { whole = refl; fits = All-nil IsRecord; places = refl; no_end = All-nil (λ found. found ≢ End) }

-- more bytes came
pub passed_then : (from left : Received) (records : List Record) (more : List ℕ) → Passed from records left → Passed (with_more from more) records (with_more left more)
passed_then from left records more p = record {
  whole = ap (λ (b : List ℕ). b ++ more) p.whole ∙ append_assoc (flat_map spelling records) left.bytes more;
  fits = p.fits;
  places = p.places;
  no_end = p.no_end;
}

-- the bytes of one record more
one_more : (records : List Record) (found : Record) → flat_map spelling (records ++ found ∷ []) ≡ flat_map spelling records ++ spelling found
one_more records found = flat_map-append spelling records (found ∷ []) ∙ ap (λ l. flat_map spelling records ++ l) (append-nil (spelling found))

whole_more : (from left new : Received) (records : List Record) (found : Record) → from.bytes ≡ flat_map spelling records ++ left.bytes → Leads found left new
    → from.bytes ≡ flat_map spelling (records ++ found ∷ []) ++ new.bytes
whole_more from left new records found whole leads =
    whole ∙ ap (λ (b : List ℕ). flat_map spelling records ++ b) leads.whole
    ∙ sym (append_assoc (flat_map spelling records) (spelling found) new.bytes)
    ∙ ap (λ (b : List ℕ). b ++ new.bytes) (sym (one_more records found))

pub passed_more : (from left new : Received) (records : List Record) (found : Record) → Passed from records left → Leads found left new → found ≢ End → Passed from (records ++ found ∷ []) new
passed_more from left new records found p leads not_end = record {
  whole = whole_more from left new records found p.whole leads;
  fits = All-append IsRecord records (found ∷ []) p.fits (All-cons IsRecord found [] leads.fits (All-nil IsRecord));
  places = place_after_all-append from.place left.place records (found ∷ []) p.places ∙ ap (λ (o : Option Place). option_and_then (λ next. Some next) o) leads.moves;
  no_end = All-append (λ r. r ≢ End) records (found ∷ []) p.no_end (All-cons (λ r. r ≢ End) found [] not_end (All-nil (λ r. r ≢ End)));
}

-- the place after an End
behind_end : (place next : Place) → place_after place End ≡ Some next → next ≡ BetweenCalls
behind_end BetweenCalls next e = absurd cc
behind_end InsideCall next e = cc
behind_end InAnswer next e = absurd cc

-- the call's End
pub passed_end : (from left new : Received) (records : List Record) → Passed from records left → Leads End left new → Fronts (records ++ End ∷ []) from new
passed_end from left new records p leads = record {
  whole = whole_more from left new records End p.whole leads;
  fits = All-append IsRecord records (End ∷ []) p.fits (All-cons IsRecord End [] leads.fits (All-nil IsRecord));
  behind = behind_end left.place new.place leads.moves;
}

-- others after them
passed_both : (from left rest : Received) (records others : List Record) → Passed from records left → Passed left others rest → Passed from (records ++ others) rest
passed_both from left rest records others p q = record {
  whole = p.whole ∙ ap (λ (b : List ℕ). flat_map spelling records ++ b) q.whole
      ∙ sym (append_assoc (flat_map spelling records) (flat_map spelling others) rest.bytes)
      ∙ ap (λ (b : List ℕ). b ++ rest.bytes) (sym (flat_map-append spelling records others));
  fits = All-append IsRecord records others p.fits q.fits;
  places = place_after_all-append from.place left.place records others p.places ∙ q.places;
  no_end = All-append (λ r. r ≢ End) records others p.no_end q.no_end;
}

-- no flaw where reading stopped
sound_at : (from left left' : Received) (records : List Record) → left' ≡ left → Passed from records left → IsSound left → IsSoundAt from left'
sound_at from left left' records same p sound = subst (λ (l : Received). IsSoundAt from l) (sym same) (records, p, sound)

-- how it ends after them
pub passed_ends : (from left : Received) (records : List Record) (ending : Ending) → Passed from records left → Ends left ending → EndsIn from ending
passed_ends from left records ending p ends = record {
  records = records;
  rest = left;
  splits = record { whole = p.whole; each = p.fits; places = p.places; ends = ends };
  no_end = p.no_end;
}

-- more has to come after them
pub passed_cut : (from left : Received) (records : List Record) → Passed from records left → IsCut left → EndsInside from
passed_cut from left records p is_cut = by left.bytes refl
  where
    by : (bytes : List ℕ) → left.bytes ≡ bytes → EndsInside from
    by [] e = inr (passed_ends from left records nothing_more p e)
    by (byte ∷ bytes) e = inl (passed_ends from left records cut p ((λ none. let both : byte ∷ bytes ≡ [] = sym e ∙ none in cc), is_cut))

-- ---- a call's messages

-- bytes that came in two parts
twice : (old : Received) (came more : List ℕ) → with_more (with_more old came) more ≡ with_more old (came ++ more)
twice old came more = ap (λ (b : List ℕ). with_place old.place b) (append_assoc old.bytes came more)
  where
    with_place : Place → List ℕ → Received
    with_place place bytes = record { bytes = bytes; place = place }

-- the messages so far
pub record Collected (source source' : Tape) (old left : Received) (messages : List Payload) : Type 0 where
  pub came : List ℕ
  pub consumed : Advances source source' came
  pub passed : Passed (with_more old came) (map Message messages) left
  pub inside : left.place ≡ InsideCall

pub collected_none : (source : Tape) (old : Received) → old.place ≡ InsideCall → Collected source source old old []
collected_none source old inside = record {
  came = [];
  consumed = Advances-nil source;
  passed = record { whole = append-nil old.bytes; fits = All-nil IsRecord; places = refl; no_end = All-nil (λ found. found ≢ End) };
  inside = inside;
}

-- and of what came since, what arrived
pub record Since (source source' : Tape) (old new : Received) (arrived : Result (Option Record) Fault) : Type 0 where
  pub came : List ℕ
  pub consumed : Advances source source' came
  pub arrives : Arrives arrived old new came

pub since : (source source' : Tape) (old new : Received) (arrived : Result (Option Record) Fault) → (came : List ℕ) × Advances source source' came × Arrives arrived old new came
    → Since source source' old new arrived
since source source' old new arrived p = record { came = p.0; consumed = p.1; arrives = p.2 }

module _ (a b c : Tape) (old mid new : Received) (messages : List Payload) (p : Collected a b old mid messages) where
  abbrev all_came : List ℕ → List ℕ
  all_came more = p.came ++ more

  -- they stand before what came since
  stand : (more : List ℕ) → Passed (with_more old (all_came more)) (map Message messages) (with_more mid more)
  stand more = subst (λ (from : Received). Passed from (map Message messages) (with_more mid more)) (twice old p.came more) (passed_then (with_more old p.came) mid (map Message messages) more p.passed)

  all_consumed : (more : List ℕ) → Advances b c more → Advances a c (all_came more)
  all_consumed more q = Advances-trans a b c p.came more p.consumed q

  pub collected_more : (message : Payload) → Since b c mid new (Ok (Some (Message message))) → Collected a c old new (messages ++ message ∷ [])
  collected_more message q = record {
    came = all_came q.came;
    consumed = all_consumed q.came q.consumed;
    passed = rw (map-append Message messages (message ∷ [])) (passed_more (with_more old (all_came q.came)) (with_more mid q.came) new (map Message messages) (Message message) (stand q.came) q.arrives (λ e. cc));
    inside = stays new.place (rw p.inside at q.arrives.moves);
  }
    where
      stays : (next : Place) → place_after InsideCall (Message message) ≡ Some next → next ≡ InsideCall
      stays next e = cc

  pub collected_end : (path : List ℕ) (request : Request) → Holds request (record { path = path; messages = messages }) → (found : Record) → ((message : Payload) → found ≢ Message message)
      → Since b c mid new (Ok (Some found)) → (came : List ℕ) × Advances a c came × RequestArrives (Ok (Some request)) path old new came
  collected_end path request holds found other q = (all_came q.came, all_consumed q.came q.consumed, (messages, holds, by found other q.arrives))
    where
      by : (found : Record) → ((message : Payload) → found ≢ Message message) → Leads found (with_more mid q.came) new → Fronts (map Message messages ++ End ∷ []) (with_more old (all_came q.came)) new
      by (Open path) other leads = let moves = rw p.inside at leads.moves in absurd cc
      by (Message message) other leads = absurd (other message refl)
      by End other leads = passed_end (with_more old (all_came q.came)) (with_more mid q.came) new (map Message messages) (stand q.came) leads
      by (Status code text) other leads = let moves = rw p.inside at leads.moves in absurd cc

  pub collected_cut : (path : List ℕ) → Since b c mid new (Ok None) → (came : List ℕ) × Advances a c came × RequestArrives (Ok None) path old new came
  collected_cut path q = (
    all_came q.came,
    all_consumed q.came q.consumed,
    passed_cut (with_more old (all_came q.came)) (with_more mid q.came) (map Message messages) (stand q.came) (rw q.arrives.0 at q.arrives.1),
  )

  pub collected_stop : (path : List ℕ) (fault : Fault) → Since b c mid new (Err fault) → (came : List ℕ) × Advances a c came × RequestArrives (Err fault) path old new came
  collected_stop path fault q = (all_came q.came, all_consumed q.came q.consumed, by (subst (IsReason fault) q.arrives.0 q.arrives.1))
    where
      by : IsReason fault (with_more mid q.came) → Stops fault (with_more old (all_came q.came)) (IsSoundAt (with_more old (all_came q.came)) new)
      by (inl e) = inl (e.0, passed_cut (with_more old (all_came q.came)) (with_more mid q.came) (map Message messages) (stand q.came) e.1)
      by (inr (inl e)) = inr (inl (e.0, sound_at (with_more old (all_came q.came)) (with_more mid q.came) new (map Message messages) q.arrives.0 (stand q.came) e.1))
      by (inr (inr breaks)) = inr (inr (passed_ends (with_more old (all_came q.came)) (with_more mid q.came) (map Message messages) (broken fault) (stand q.came) breaks))

-- ---- a call

-- records that end so after others
ends_after : (from left : Received) (records : List Record) (ending : Ending) → Passed from records left → EndsIn left ending → EndsIn from ending
ends_after from left records ending p q = record {
  records = records ++ q.records;
  rest = q.rest;
  splits = record {
    whole = p.whole ∙ ap (λ (b : List ℕ). flat_map spelling records ++ b) q.splits.whole
        ∙ sym (append_assoc (flat_map spelling records) (flat_map spelling q.records) q.rest.bytes)
        ∙ ap (λ (b : List ℕ). b ++ q.rest.bytes) (sym (flat_map-append spelling records q.records));
    each = All-append IsRecord records q.records p.fits q.splits.each;
    places = place_after_all-append from.place left.place records q.records p.places ∙ q.splits.places;
    ends = q.splits.ends;
  };
  no_end = All-append (λ r. r ≢ End) records q.records p.no_end q.no_end;
}

-- a fault before the first record
pub first_stops : (a b : Tape) (old new : Received) (fault : Fault) → Since a b old new (Err fault) → (came : List ℕ) × Advances a b came × CallArrives (Err fault) old new came
first_stops a b old new fault q = (q.came, q.consumed, by (subst (IsReason fault) q.arrives.0 q.arrives.1))
  where
    by : IsReason fault (with_more old q.came) → Stops fault (with_more old q.came) (IsSound (with_more old q.came) × IsSoundAt (with_more old q.came) new)
    by (inl e) = inl (e.0, passed_cut (with_more old q.came) (with_more old q.came) [] (passed_none (with_more old q.came)) e.1)
    by (inr (inl e)) = inr (inl (e.0, (e.1, sound_at (with_more old q.came) (with_more old q.came) new [] q.arrives.0 (passed_none (with_more old q.came)) e.1)))
    by (inr (inr breaks)) = inr (inr (passed_ends (with_more old q.came) (with_more old q.came) [] (broken fault) (passed_none (with_more old q.came)) breaks))

-- the input ended before the first record was whole
pub first_cut : (a b : Tape) (old new : Received) → old.place ≡ BetweenCalls → ¬ (new ≡ record { bytes = []; place = BetweenCalls }) → Since a b old new (Ok None)
    → (came : List ℕ) × Advances a b came × CallArrives (Ok arrival.CutShort) old new came
first_cut a b old new between some q = (
  q.came,
  q.consumed,
  (
    (λ none. some (q.arrives.0 ∙ empty (with_more old q.came) none between)),
    passed_cut (with_more old q.came) (with_more old q.came) [] (passed_none (with_more old q.came)) (rw q.arrives.0 at q.arrives.1),
  ),
)
  where
    empty : (left : Received) → left.bytes ≡ [] → left.place ≡ BetweenCalls → left ≡ record { bytes = []; place = BetweenCalls }
    empty left none place = ap (λ (b : List ℕ). received b left.place) none ∙ ap (λ (p : Place). received [] p) place
      where
        received : List ℕ → Place → Received
        received bytes place = record { bytes = bytes; place = place }

module _ (a b c : Tape) (old mid new : Received) (path : List ℕ) (between : old.place ≡ BetweenCalls) (p : Since a b old mid (Ok (Some (Open path)))) where
  abbrev together : List ℕ → List ℕ
  together more = p.came ++ more

  -- the Open stands in front
  opened : (more : List ℕ) → Passed (with_more old (together more)) (Open path ∷ []) (with_more mid more)
  opened more = subst (λ (from : Received). Passed from (Open path ∷ []) (with_more mid more)) (twice old p.came more)
      (passed_then (with_more old p.came) mid (Open path ∷ []) more (passed_more (with_more old p.came) (with_more old p.came) mid [] (Open path) (passed_none (with_more old p.came)) p.arrives (λ e. cc)))

  leads : (more : List ℕ) → Leads (Open path) (with_more old (together more)) (with_more mid more)
  leads more = record {
    whole = (opened more).whole ∙ ap (λ (front : List ℕ). front ++ (with_more mid more).bytes) (append-nil (spelling (Open path)));
    fits = p.arrives.fits;
    moves = p.arrives.moves;
  }

  both_consumed : (more : List ℕ) → Advances b c more → Advances a c (together more)
  both_consumed more q = Advances-trans a b c p.came more p.consumed q

  pub call_whole : (request : Request) → (more : List ℕ) × Advances b c more × RequestArrives (Ok (Some request)) path mid new more
      → (came : List ℕ) × Advances a c came × CallArrives (Ok (arrival.Whole request)) old new came
  call_whole request q = (
    together q.0,
    both_consumed q.0 q.1,
    (
      record { path = path; messages = q.2.0 },
      q.2.1,
      record {
        whole = (opened q.0).whole ∙ ap (λ (t : List ℕ). flat_map spelling (Open path ∷ []) ++ t) q.2.2.whole
            ∙ sym (append_assoc (flat_map spelling (Open path ∷ [])) (flat_map spelling (map Message q.2.0 ++ End ∷ [])) new.bytes)
            ∙ ap (λ (t : List ℕ). t ++ new.bytes) (sym (flat_map-append spelling (Open path ∷ []) (map Message q.2.0 ++ End ∷ [])));
        fits = All-append IsRecord (Open path ∷ []) (map Message q.2.0 ++ End ∷ []) (opened q.0).fits q.2.2.fits;
        behind = q.2.2.behind;
      },
    ),
  )

  -- what ends inside the messages ends inside the call
  still_inside : (more : List ℕ) → EndsInside (with_more mid more) → EndsInside (with_more old (together more))
  still_inside more (inl ends) = inl (ends_after (with_more old (together more)) (with_more mid more) (Open path ∷ []) cut (opened more) ends)
  still_inside more (inr ends) = inr (ends_after (with_more old (together more)) (with_more mid more) (Open path ∷ []) nothing_more (opened more) ends)

  pub call_cut : (more : List ℕ) × Advances b c more × RequestArrives (Ok None) path mid new more → (came : List ℕ) × Advances a c came × CallArrives (Ok arrival.CutShort) old new came
  call_cut q = (together q.0, both_consumed q.0 q.1, ((λ none. some (sym none ∙ (opened q.0).whole)), still_inside q.0 q.2))
    where
      some : ¬ ([] ≡ flat_map spelling (Open path ∷ []) ++ (with_more mid q.0).bytes)
      some e = cc

  pub call_stops : (fault : Fault) → (more : List ℕ) × Advances b c more × RequestArrives (Err fault) path mid new more → (came : List ℕ) × Advances a c came × CallArrives (Err fault) old new came
  call_stops fault q = (together q.0, both_consumed q.0 q.1, by q.2)
    where
      behind_open : IsSoundAt (with_more mid q.0) new → IsSoundAt (with_more old (together q.0)) new
      behind_open s = (Open path ∷ s.0, passed_both (with_more old (together q.0)) (with_more mid q.0) new (Open path ∷ []) s.0 (opened q.0) s.1, s.2)

      by : Stops fault (with_more mid q.0) (IsSoundAt (with_more mid q.0) new)
          → Stops fault (with_more old (together q.0)) (IsSound (with_more old (together q.0)) × IsSoundAt (with_more old (together q.0)) new)
      by (inl (e, ends)) = inl (e, still_inside q.0 ends)
      by (inr (inl e)) = inr (inl (e.0, (led_sound (with_more old (together q.0)) (with_more mid q.0) (Open path) (leads q.0), behind_open e.1)))
      by (inr (inr ends)) = inr (inr (ends_after (with_more old (together q.0)) (with_more mid q.0) (Open path ∷ []) (broken fault) (opened q.0) ends))
