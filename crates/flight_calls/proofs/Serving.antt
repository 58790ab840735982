-- How far a server is: what came, and what it wrote for it.
use Rattle.std.proofs.Common.{◌≡◌, ◌≢◌, ℕ, ◌+◌, List, [], ◌∷◌, ◌++◌, map, All, Option, Some, None, Result, Ok, Err, refl, sym, ap, subst, ◌∙◌, append_assoc, append-nil, inl, inr, arith}
use Rattle.std.specs.List.{flat_map}
use Rattle.std.specs.Io.KnownBytes.{Appends, IsAtEnd}
use Rattle.std.proofs.KnownBytes.{Appends-nil, Appends-trans}
use Rattle.std.proofs.lemmas.Grind.{flat_map-append}
use Rattle.std.proofs.lemmas.List.{map-append}
use Rattle.std.proofs.lemmas.List.Elements.{All-append, All-cons, All-nil}
use Rattle.scan_base.specs.declared.fault.Fault.{Fault}
use Rattle.scan_base.specs.declared.fault.Fault.TheVariants.{OutOfMemory, Transport}
use Rattle.grpc_frame.specs.declared.place.Place.{Place}
use Rattle.grpc_frame.specs.declared.place.Place.TheVariants.{BetweenCalls}
use Rattle.grpc_frame.specs.Records.{spelling, IsRecord, Received, with_more, broken, Flaw, fault_of, wrong_kind, long_path, wrong_flag, long_message, bad_text}
use Rattle.grpc_frame.specs.Arrivals.{IsSound}
use Rattle.grpc_frame.specs.Ends.{Advances, AppendsBeginning, Tape}
use Rattle.grpc_frame.specs.Outgoing.{Outgoing}
use Rattle.grpc_frame.proofs.Coming.{none_sound}
use Rattle.grpc_frame.proofs.Tapes.{Advances-nil, Advances-trans}
use Rattle.flight_info.specs.Replies.{ReplyAt}
use Rattle.flight_info.specs.Payloads.{FitMessages}
use Rattle.flight_calls.specs.declared.call.Arrival.TheVariants as arrival
use Rattle.flight_calls.specs.declared.setting.Options.{Options}
use Rattle.flight_calls.specs.declared.request.Request.{Request}
use Rattle.flight_calls.specs.Calls.{Call, call_records, asked_by}
use Rattle.flight_core.specs.Seats.{Seat, Moves}
use Rattle.flight_calls.specs.Responds.{Responds, Answers}
use Rattle.flight_calls.specs.OwedAnswers.{calls_bytes, answer_bytes, EndsIn, EndsInside, behind_calls, connection_of, IsCause, last_status, Connection, items_owed, Wrote, Why, Serves, Fails}
use Rattle.flight_calls.specs.Ending.{RefusesBy}
use Rattle.flight_calls.specs.Reading.{IsSoundAt, Stops, CallArrives}
use Rattle.flight_calls.proofs.Taking.{passed_none}

-- each payload fits a message
abbrev FitsMessages : ReplyAt → Type 0
FitsMessages reply = FitMessages reply.payloads

abbrev pub joined : List (List ℕ) → List ℕ
joined items = flat_map (λ item. item) items

-- what came is whole calls and then this rest, and the replies answer the calls, one each, from one seat to the other
pub record Served (moves : Moves) (options : Options) (seat : Seat) (came rest : List ℕ) (replies : List ReplyAt) (new : Seat) : Type 0 where
  pub calls : List Call
  pub whole : came ≡ calls_bytes calls ++ rest
  pub fits : All IsRecord (flat_map call_records calls)
  pub answers : Answers moves options seat calls replies new
  pub sent : All FitsMessages replies

pub record Progress (moves : Moves) (options : Options) (old now : Connection) (left : Received) : Type 0 where
  pub came : List ℕ
  pub consumed : Advances old.input now.input came
  pub replies : List ReplyAt
  pub served : Served moves options old.seat came left.bytes replies now.seat
  pub wrote : Appends old.output now.output (joined (map answer_bytes replies))
  pub between : left.place ≡ BetweenCalls

pub started : (moves : Moves) (options : Options) (old : Connection) (left : Received) → left ≡ behind_calls [] → Progress moves options old old left
started moves options old left e = rw e (record {
  came = [];
  consumed = Advances-nil old.input;
  replies = [];
  served = record { calls = []; whole = refl; fits = All-nil IsRecord; answers = refl; sent = All-nil FitsMessages };
  wrote = Appends-nil old.output;
  between = refl;
})

-- ---- what was served

-- more came, after what is left
served_then : (moves : Moves) (options : Options) (log new : Seat) (came rest more : List ℕ) (replies : List ReplyAt) → Served moves options log came rest replies new → Served moves options log (came ++ more) (rest ++ more) replies new
served_then moves options log new came rest more replies s = record {
  calls = s.calls;
  whole = ap (λ (l : List ℕ). l ++ more) s.whole ∙ append_assoc (calls_bytes s.calls) rest more;
  fits = s.fits;
  answers = s.answers;
  sent = s.sent;
}

answers_more : (moves : Moves) (options : Options) (old mid new : Seat) (calls : List Call) (replies : List ReplyAt) (call : Call) (reply : ReplyAt) → Answers moves options old calls replies mid → Responds moves options.keep (asked_by options call) mid reply new
    → Answers moves options old (calls ++ call ∷ []) (replies ++ reply ∷ []) new
answers_more moves options old mid new [] [] call reply s r = (new, subst (λ (seat : Seat). Responds moves options.keep (asked_by options call) seat reply new) s r, refl)
answers_more moves options old mid new [] (one ∷ replies) call reply s r = absurd s
answers_more moves options old mid new (one ∷ calls) [] call reply s r = absurd s
answers_more moves options old mid new (one ∷ calls) (answer ∷ replies) call reply s r = (s.0, s.1, answers_more moves options s.0 mid new calls replies call reply s.2 r)

-- one call more, with its reply
served_more : (moves : Moves) (options : Options) (log mid new : Seat) (came rest rest' : List ℕ) (replies : List ReplyAt) (call : Call) (reply : ReplyAt) → Served moves options log came rest replies mid
    → rest ≡ flat_map spelling (call_records call) ++ rest' → All IsRecord (call_records call) → Responds moves options.keep (asked_by options call) mid reply new → FitsMessages reply
    → Served moves options log came rest' (replies ++ reply ∷ []) new
served_more moves options log mid new came rest rest' replies call reply s whole fits replied sent = record {
  calls = s.calls ++ call ∷ [];
  whole = s.whole ∙ ap (λ (l : List ℕ). calls_bytes s.calls ++ l) whole ∙ sym (append_assoc (calls_bytes s.calls) (flat_map spelling (call_records call)) rest') ∙ ap (λ (l : List ℕ). l ++ rest') (sym bytes);
  fits = rw records (All-append IsRecord (flat_map call_records s.calls) (call_records call) s.fits fits);
  answers = answers_more moves options log mid new s.calls replies call reply s.answers replied;
  sent = All-append FitsMessages replies (reply ∷ []) s.sent (All-cons FitsMessages reply [] sent (All-nil FitsMessages));
}
  where
    records : flat_map call_records (s.calls ++ call ∷ []) ≡ flat_map call_records s.calls ++ call_records call
    records = flat_map-append call_records s.calls (call ∷ []) ∙ ap (λ l. flat_map call_records s.calls ++ l) (append-nil (call_records call))

    bytes : calls_bytes (s.calls ++ call ∷ []) ≡ calls_bytes s.calls ++ flat_map spelling (call_records call)
    bytes = ap (flat_map spelling) records ∙ flat_map-append spelling (flat_map call_records s.calls) (call_records call)

-- one answer more
pub joined_more : (done : List (List ℕ)) (item : List ℕ) → joined (done ++ item ∷ []) ≡ joined done ++ item
joined_more done item = flat_map-append (λ (i : List ℕ). i) done (item ∷ []) ∙ ap (λ l. joined done ++ l) (append-nil item)

items_more : (replies : List ReplyAt) (reply : ReplyAt) → map answer_bytes (replies ++ reply ∷ []) ≡ map answer_bytes replies ++ answer_bytes reply ∷ []
items_more replies reply = map-append answer_bytes replies (reply ∷ [])

-- ---- a call is served

module _ (moves : Moves) (options : Options) (old mid : Connection) (left : Received) (p : Progress moves options old mid left) where
  -- what is left, once more came, is after calls
  behind : (more : List ℕ) → with_more left more ≡ behind_calls (left.bytes ++ more)
  behind more = ap (λ (place : Place). received (left.bytes ++ more) place) p.between
    where
      received : List ℕ → Place → Received
      received bytes place = record { bytes = bytes; place = place }

  -- a call came, and a reply to it is due
  call_replied : (new : Connection) (left' : Received) (request : Request) (reply : ReplyAt) (q : (more : List ℕ) × Advances mid.input new.input more × CallArrives (Ok (arrival.Whole request)) left left' more)
      → Responds moves options.keep (asked_by options q.2.0) mid.seat reply new.seat → FitsMessages reply
      → Served moves options old.seat (p.came ++ q.0) left'.bytes (p.replies ++ reply ∷ []) new.seat
  call_replied new left' request reply q replied sent =
      served_more moves options old.seat mid.seat new.seat (p.came ++ q.0) (left.bytes ++ q.0) left'.bytes p.replies q.2.0 reply (served_then moves options old.seat mid.seat p.came left.bytes q.0 p.replies p.served) q.2.2.whole q.2.2.fits replied sent

  -- the record of a connection, by its parts
  served_so : (result : Result (Unit {0}) Fault) (new : Connection) (came rest : List ℕ) (replies : List ReplyAt) (last : Option Fault) (done begun : List (List ℕ)) → Advances old.input new.input came
      → Served moves options old.seat came rest replies new.seat → items_owed replies last ≡ done ++ begun → Wrote old.output new.output done begun → Why result old new rest last begun → Serves moves options result old new
  served_so result new came rest replies last done begun consumed s owes wrote why = record {
    calls = s.calls;
    rest = rest;
    fits = s.fits;
    consumed = subst (λ (bytes : List ℕ). Advances old.input new.input bytes) s.whole consumed;
    replies = replies;
    answers = s.answers;
    sent = s.sent;
    last = last;
    done = done;
    begun = begun;
    owes = owes;
    wrote = wrote;
    why = why;
  }

  -- it was written
  pub call_served : (new : Connection) (left' : Received) (request : Request) (reply : ReplyAt) → (q : (more : List ℕ) × Advances mid.input new.input more × CallArrives (Ok (arrival.Whole request)) left left' more)
      → Responds moves options.keep (asked_by options q.2.0) mid.seat reply new.seat → FitsMessages reply → Appends mid.output new.output (answer_bytes reply) → Progress moves options old new left'
  call_served new left' request reply q replied sent wrote = record {
    came = p.came ++ q.0;
    consumed = Advances-trans old.input mid.input new.input p.came q.0 p.consumed q.1;
    replies = p.replies ++ reply ∷ [];
    served = call_replied new left' request reply q replied sent;
    wrote = rw (items_more p.replies reply, joined_more (map answer_bytes p.replies) (answer_bytes reply))
        (Appends-trans old.output mid.output new.output (joined (map answer_bytes p.replies)) (answer_bytes reply) p.wrote wrote);
    between = q.2.2.behind;
  }

  -- or begun
  pub answer_failed : (new : Connection) (left' : Received) (request : Request) (reply : ReplyAt) → (q : (more : List ℕ) × Advances mid.input new.input more × CallArrives (Ok (arrival.Whole request)) left left' more)
      → Responds moves options.keep (asked_by options q.2.0) mid.seat reply new.seat → FitsMessages reply → AppendsBeginning mid.output new.output (answer_bytes reply) → Fails 0 1 old new
      → Serves moves options (Err Transport) old new
  answer_failed new left' request reply q replied sent begun counted = served_so (Err Transport) new (p.came ++ q.0) left'.bytes (p.replies ++ reply ∷ []) None
      (map answer_bytes p.replies) (answer_bytes reply ∷ []) (Advances-trans old.input mid.input new.input p.came q.0 p.consumed q.1)
      (call_replied new left' request reply q replied sent) (items_more p.replies reply) (mid.output, p.wrote, begun) counted

  -- nothing is done for what came after the calls
  pub ends : (result : Result (Unit {0}) Fault) (new : Connection) (more : List ℕ) (last : Option Fault) (done begun : List (List ℕ)) → Advances mid.input new.input more → new.seat ≡ mid.seat
      → items_owed p.replies last ≡ done ++ begun → Wrote old.output new.output done begun → Why result old new (left.bytes ++ more) last begun → Serves moves options result old new
  ends result new more last done begun consumed log owes wrote why =
      served_so result new (p.came ++ more) (left.bytes ++ more) p.replies last done begun (Advances-trans old.input mid.input new.input p.came more p.consumed consumed)
      (rw log (served_then moves options old.seat mid.seat p.came left.bytes more p.replies p.served)) owes wrote why

  -- each reply was written, and no more
  all_written : (result : Result (Unit {0}) Fault) (new : Connection) (more : List ℕ) → Advances mid.input new.input more → new.seat ≡ mid.seat → new.output ≡ mid.output
      → Why result old new (left.bytes ++ more) None [] → Serves moves options result old new
  all_written result new more consumed log output why =
      ends result new more None (map answer_bytes p.replies) [] consumed log (sym (append-nil (map answer_bytes p.replies))) (rw output p.wrote) why

  -- the input ended
  pub input_ended : (new : Connection) (left' : Received) → (more : List ℕ) × Advances mid.input new.input more × CallArrives (Ok arrival.Nothing) left left' more → IsAtEnd new.input.left
      → new.output ≡ mid.output → new.seat ≡ mid.seat → Fails 0 0 old new → Serves moves options (Ok tt) old new
  input_ended new left' q at_end output log quiet = all_written (Ok tt) new q.0 q.1 log output (ap (λ (r : Received). r.bytes) q.2, at_end, quiet)

  -- the input ended inside a call
  pub call_cut_short : (new : Connection) (left' : Received) → (more : List ℕ) × Advances mid.input new.input more × CallArrives (Ok arrival.CutShort) left left' more → IsAtEnd new.input.left
      → new.output ≡ mid.output → new.seat ≡ mid.seat → Fails 0 0 old new → Serves moves options (Err Transport) old new
  call_cut_short new left' q at_end output log quiet =
      all_written (Err Transport) new q.0 q.1 log output (rw (behind q.0) at q.2.1, inl (q.2.0, at_end, quiet))

  -- why reading stopped
  cause : (fault : Fault) (more : List ℕ) (left' : Received) → fault ≢ Transport → Stops fault (with_more left more) (IsSound (with_more left more) × IsSoundAt (with_more left more) left') → IsCause fault (left.bytes ++ more)
  cause fault more left' other (inl e) = absurd (other e.0)
  cause fault more left' other (inr (inl e)) = inl (e.0, subst IsSound (behind more) e.1.0)
  cause fault more left' other (inr (inr ends)) = inr (rw (behind more) at ends)

  -- its status was written
  pub connection_refused : (new : Connection) (left' : Received) (fault : Fault) → (more : List ℕ) × Advances mid.input new.input more × CallArrives (Err fault) left left' more → fault ≢ Transport
      → Appends mid.output new.output (last_status fault) → new.seat ≡ mid.seat → Fails 0 0 old new → Serves moves options (Err fault) old new
  connection_refused new left' fault q other wrote log quiet =
      let owed = map answer_bytes p.replies in
      ends (Err fault) new q.0 (Some fault) (owed ++ last_status fault ∷ []) [] q.1 log (sym (append-nil (owed ++ last_status fault ∷ [])))
      (rw (joined_more owed (last_status fault)) (Appends-trans old.output mid.output new.output (joined owed) (last_status fault) p.wrote wrote))
      (by_fault fault (left.bytes ++ q.0) other (cause fault q.0 left' other q.2))
    where
      by_fault : (fault : Fault) (rest : List ℕ) → fault ≢ Transport → IsCause fault rest → Why (Err fault) old new rest (Some fault) []
      by_fault Transport rest other is = absurd (other refl)
      by_fault fault rest other is = (refl, other, is, quiet)

  -- or begun
  pub status_failed : (new : Connection) (left' : Received) (fault : Fault) → (more : List ℕ) × Advances mid.input new.input more × CallArrives (Err fault) left left' more → fault ≢ Transport
      → AppendsBeginning mid.output new.output (last_status fault) → new.seat ≡ mid.seat → Fails 0 1 old new → Serves moves options (Err Transport) old new
  status_failed new left' fault q other begun log counted =
      ends (Err Transport) new q.0 (Some fault) (map answer_bytes p.replies) (last_status fault ∷ []) q.1 log refl (mid.output, p.wrote, begun) (cause fault q.0 left' other q.2, counted)

  -- a call of which more has to come, where a read failed
  waits : (fault : Fault) (more : List ℕ) (left' : Received) → fault ≡ Transport → Stops fault (with_more left more) (IsSound (with_more left more) × IsSoundAt (with_more left more) left') → EndsInside (behind_calls (left.bytes ++ more))
  waits fault more left' is (inl stops) = rw (behind more) at stops.1
  waits fault more left' is (inr (inl e)) = let both : OutOfMemory ≡ Transport = sym e.0 ∙ is in absurd cc
  waits fault more left' is (inr (inr ends)) = absurd (not_broken fault is ends)
    where
      not_broken : (fault : Fault) → fault ≡ Transport → EndsIn (with_more left more) (broken fault) → ⊥
      not_broken fault is ends = let wrong = ends.splits.ends.fault_is in not_flaw ends.splits.ends.flaw (sym is ∙ wrong)
        where
          not_flaw : (flaw : Flaw) → Transport ≡ fault_of flaw → ⊥
          not_flaw (wrong_kind kind) e = absurd cc
          not_flaw (long_path len) e = absurd cc
          not_flaw (wrong_flag flag) e = absurd cc
          not_flaw (long_message len) e = absurd cc
          not_flaw (bad_text code text) e = absurd cc

  -- a read failed
  pub read_failed : (new : Connection) (left' : Received) (fault : Fault) → (more : List ℕ) × Advances mid.input new.input more × CallArrives (Err fault) left left' more → fault ≡ Transport
      → new.output ≡ mid.output → new.seat ≡ mid.seat → Fails 1 0 old new → Serves moves options (Err Transport) old new
  read_failed new left' fault q is output log counted = all_written (Err Transport) new q.0 q.1 log output (waits fault q.0 left' is q.2, inr counted)

  -- by a fault while a call was read
  pub ended_by : (new : Connection) (left' : Received) (fault : Fault) (result : Result (Unit {0}) Fault) (reads writes reads' writes' : ℕ) → (more : List ℕ) × Advances mid.input new.input more × CallArrives (Err fault) left left' more
      → (fault ≡ Transport → reads' ≡ reads + 1) × (fault ≢ Transport → reads' ≡ reads) → RefusesBy fault result mid.output new.output writes writes' → new.seat ≡ mid.seat
      → reads ≡ old.failed_reads → writes ≡ old.failed_writes → new.failed_reads ≡ reads' → new.failed_writes ≡ writes' → Serves moves options result old new
  ended_by new left' fault result reads writes reads' writes' q counted (inl stays) log before before' after after' =
      let one = counted.0 stays.transport in
      let none = stays.quiet in
      rw stays.result_is (read_failed new left' fault q stays.transport stays.same log ((omega arith, omega arith)))
  ended_by new left' fault result reads writes reads' writes' q counted (inr (inl says)) log before before' after after' =
      let none = counted.1 says.other in
      let quiet = says.quiet in
      rw says.result_is (connection_refused new left' fault q says.other says.wrote log ((omega arith, omega arith)))
  ended_by new left' fault result reads writes reads' writes' q counted (inr (inr fails)) log before before' after after' =
      let none = counted.1 fails.other in
      let one = fails.counted in
      rw fails.result_is (status_failed new left' fault q fails.other fails.wrote log ((omega arith, omega arith)))

-- a connection that is refused before anything came
pub refused_first : (moves : Moves) (options : Options) (old new : Connection) (fault : Fault) (result : Result (Unit {0}) Fault) (reads writes writes' : ℕ) → new.seat ≡ old.seat → new.input ≡ old.input → fault ≡ OutOfMemory
    → RefusesBy fault result old.output new.output writes writes' → reads ≡ old.failed_reads → writes ≡ old.failed_writes → new.failed_reads ≡ reads → new.failed_writes ≡ writes' → Serves moves options result old new
refused_first moves options old new fault result reads writes writes' same input memory refuses before before' after after' =
    ended_by moves options old old (behind_calls []) (started moves options old (behind_calls []) refl) new (behind_calls []) fault result reads writes reads writes'
    ([], rw input (Advances-nil old.input), inr (inl (memory, (none_sound (behind_calls []) refl, ([], passed_none (behind_calls []), none_sound (behind_calls []) refl))))) ((λ e. let both : OutOfMemory ≡ Transport = sym memory ∙ e in absurd cc), λ _. refl) refuses same before before' after after'

-- the same over a sender, whose writer's output and failures these are
pub serves_by : (moves : Moves) (options : Options) (result : Result (Unit {0}) Fault) (input input' : Tape) (reads reads' : ℕ) (seat seat' : Seat) (a b : Outgoing)
    (output output' : Option (List ℕ)) (writes writes' : ℕ) → Serves moves options result (connection_of input a.held reads a.failures seat) (connection_of input' b.held reads' b.failures seat')
    → a.held ≡ output → b.held ≡ output' → a.failures ≡ writes → b.failures ≡ writes'
    → Serves moves options result (connection_of input output reads writes seat) (connection_of input' output' reads' writes' seat')
serves_by moves options result input input' reads reads' seat seat' a b output output' writes writes' serves begins ends before after = rw (← begins, ← ends, ← before, ← after) serves
