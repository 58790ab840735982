-- Workers side by side.
use native.Mathlib.Omega.{arith}
use Rattle.std.proofs.Common.{◌≡◌, ◌≤◌, ◌<◌, ◌⊎◌, inl, inr, ℕ, zero, suc, List, [], ◌∷◌, ◌++◌, ◌+◌, ◌-◌, All, IfOk, IsErr, Option, Some, Result, Ok, Err, length, map, take, drop, refl, sym, subst, ap, ◌∙◌, append_assoc, append-nil}
use Rattle.std.specs.Prelude.{slice_index_or}
use Rattle.std.proofs.lemmas.List.Elements.{All-nil, All-cons, All-head, All-tail, All-pop, All-push}
use Rattle.std.proofs.lemmas.List.{length-append, length-map, map-append}
use Rattle.std.specs.Io.KnownBytes.{Appends}
use Rattle.atomic_table.specs.Seated.{TableId}
use Rattle.scan_base.specs.declared.fault.Fault.{Fault}
use Rattle.flight_core.proofs.Running.{begins_on}
use Rattle.flight_core.specs.Headline.{Pairwise}
use Rattle.version_log.specs.Log.{Log, IsLog, Begins}
use Rattle.flight_calls.specs.declared.setting.Options.{Options}
use Rattle.version_cell.specs.Merges.{MergesAll}
use Rattle.logbook.specs.Pages.{Book}
use Rattle.version_cell.specs.Rests.{RestAt}
use Rattle.version_cell.specs.Seats as cell
use Rattle.flight_core.specs.PlacedEntries.{placed}
use Rattle.flight_core.specs.Seats.{Seat, seat_of}
use Rattle.shared_calls.specs.Sharing.{onward, seat_at}
use Rattle.connection_turns.specs.Drawers.{DrawerAt, drawer_at}
use Rattle.command_line.specs.declared.request.ServeOptions.{ServeOptions}
use Rattle.command_ends.specs.Network.{Accepting, Ends}
use Rattle.command_ends.specs.Printing.{PortLineAt, Said, listening_line}
use Rattle.commands.specs.ShownSeat.{IsNewSeat, WasShown}
use Rattle.commands.specs.Port.{IsDueAfter, IsFresh, IsServed, ServesPort, Sharing, SharesEach, SharesSome, listeners_of, most_of, options_of}
use Rattle.commands.specs.Serve.{Pays, Worker}
use Rattle.commands.specs.ServeSideBySide.{DrawsAll, Work, IsPartOf, ServesSideBySide, both}
use Rattle.commands.specs.ServeSideBySide.{first_fault, made_by, made_by_each, drawn_by}
use Rattle.commands.specs.inside.Gathering.{HasDrawn, HasWorked, HiredWorker, IsAtRest, IsNew, IsWithin, MayServe, hired_listeners, seat_in, state_of, work_of}

-- those after the ones that are left are done with: their seats are taken in, and the hub has all
-- that they drew
pub record Gathered {L : Type 0} (all left : List (HiredWorker L)) (seats : cell.GatheredSeatsAt)
    (result : Result (Unit {0}) Fault) (name : TableId) (hub : DrawerAt) : Type 0 where
  pub done : List (HiredWorker L)
  pub whole : all ≡ left ++ done
  pub others : All (HasDrawn name) left
  pub within : All (IsWithin seats.log) done
  pub many : seats.seats ≡ length done
  pub made : seats.made ≡ made_by (map work_of done)
  pub each : seats.each ≡ made_by_each (map work_of done)
  pub first : result ≡ first_fault (map work_of done)
  pub named : hub.name ≡ name
  pub parts : hub.parts ≡ length done + 1
  pub drawn : hub.drawn ≡ drawn_by (map work_of done)
  pub ended : (0 < hub.ended) ⊎ All (λ work. IsErr work.result) (map work_of done)

-- Workers were made for the seats that were taken, and the first drawer has a part for each that is
-- left. The network, which was first this one and then that, gave each of them its listener.
pub record Begun {L : Type 0} (shares : Sharing L) (at_rest : L → Type 0) (port_of : L → ℕ)
    (rests known : L → RestAt → Type 0) (due : L → ℕ → Option (List ℕ) → Type 0) (handed : L → ℕ)
    (heard network : L) (book : Book) (name : TableId) (hub : DrawerAt)
    (workers : List (HiredWorker L)) (left : List cell.Seat) (count : ℕ) : Type 0 where
  pub counted : length workers + length left ≡ count
  pub given : SharesEach shares heard (hired_listeners workers) network
  pub counts : handed network ≡ handed heard + length workers
  pub port : port_of network ≡ port_of heard
  pub knows : (shown : RestAt) → shown.book ≡ book → known network shown
  pub dues : (port : ℕ) (held : Option (List ℕ)) → due heard port held → due network port held
  pub fresh : All (λ hired. IsFresh (state_of hired)) workers
  pub new : All (IsNew name) workers
  pub may : All (IsAtRest at_rest port_of rests known due heard book) workers
  pub seats : All (λ found. found ≡ cell.seat found.number [] [] 0 []) left
  pub parts : hub ≡ drawer_at name (length left + 1) 0 0

-- all that is of a history is of one that goes on from it
within_more : {L : Type 0} (told history : Log) → Begins told history → (all : List (HiredWorker L)) → All (IsWithin told) all → All (IsWithin history) all
within_more {L} told history more [] parts = All-nil (IsWithin history)
within_more {L} told history more (hired ∷ all) parts =
    All-cons (IsWithin history) hired all
    (begins_on (seat_in hired.scanner).log told history (All-head (IsWithin told) hired all parts) more)
    (within_more told history more all (All-tail (IsWithin told) hired all parts))

-- ---- workers that begin

-- one listener more was given
one_shared : {L : Type 0} (shares : Sharing L) (given : List L) (listener old middle new : L) → SharesEach shares old given middle → shares middle (Some listener) new
    → SharesEach shares old (given ++ listener ∷ []) new
one_shared {L} shares [] listener old middle new each shared = (new, subst (λ (l : L). shares l (Some listener) new) each shared, refl)
one_shared {L} shares (one ∷ given) listener old middle new each shared =
    (each.0, each.1, one_shared shares given listener each.0 middle new each.2 shared)

one_given : {L : Type 0} (shares : Sharing L) (workers : List (HiredWorker L)) (hired : HiredWorker L) (old middle new : L) → SharesEach shares old (hired_listeners workers) middle → shares middle (Some hired.listener) new
    → SharesEach shares old (hired_listeners (workers ++ hired ∷ [])) new
one_given {L} shares workers hired old middle new each shared =
    subst (λ (given : List L). SharesEach shares old given new) (sym (map-append (λ (h : HiredWorker L). h.listener) workers (hired ∷ [])))
    (one_shared shares (hired_listeners workers) hired.listener old middle new each shared)

-- what a network gave and kept, when it was asked for one listener more
pub record Gave {L : Type 0} (shares : Sharing L) (at_rest : L → Type 0) (port_of : L → ℕ) (rests known : L → RestAt → Type 0) (due : L → ℕ → Option (List ℕ) → Type 0) (handed : L → ℕ) (old listener new : L) : Type 0 where
  pub shared : shares old (Some listener) new
  pub counted : handed new ≡ handed old + 1
  pub free : at_rest listener
  pub port : port_of listener ≡ port_of old
  pub stands : (seat : RestAt) → IsNewSeat seat → rests listener seat
  pub knows : (seat : RestAt) → known old seat → known listener seat
  pub dues : (port : ℕ) (held : Option (List ℕ)) → due old port held → due listener port held
  pub keeps_port : port_of new ≡ port_of old
  pub keeps_cell : (seat : RestAt) → known old seat → known new seat
  pub keeps_due : (port : ℕ) (held : Option (List ℕ)) → due old port held → due new port held

-- a worker for one seat more
pub one_begins : {L : Type 0} (shares : Sharing L) (at_rest : L → Type 0) (port_of : L → ℕ) (rests known : L → RestAt → Type 0) (due : L → ℕ → Option (List ℕ) → Type 0) (handed : L → ℕ) (heard network listener next : L) (book : Book) (name : TableId) (hub after other : DrawerAt) (workers more : List (HiredWorker L)) (scanner : cell.Seat) (left rest : List cell.Seat) (count : ℕ)
    → Begun shares at_rest port_of rests known due handed heard network book name hub workers left count → left ≡ scanner ∷ rest
    → Gave shares at_rest port_of rests known due handed network listener next
    → after ≡ drawer_at hub.name (hub.parts - 1) hub.drawn hub.ended → other ≡ drawer_at hub.name 1 0 0
    → more ≡ workers ++ record { listener = listener; scanner = Some scanner; drawer = other; served = Ok tt } ∷ []
    → Begun shares at_rest port_of rests known due handed heard next book name after more rest count
one_begins {L} shares at_rest port_of rests known due handed heard network listener next book name hub after other workers more scanner left rest count so first gave cut part pushed =
    let hired : HiredWorker L = record { listener = listener; scanner = Some scanner; drawer = other; served = Ok tt } in
    let here : All (λ found. found ≡ cell.seat found.number [] [] 0 []) (scanner ∷ rest) = rw first at so.seats in
    let fresh : scanner ≡ cell.seat scanner.number [] [] 0 [] = All-head (λ found. found ≡ cell.seat found.number [] [] 0 []) scanner rest here in
    let longer : length more ≡ length workers + 1 = rw pushed (length-append workers (hired ∷ [])) in
    let counted : length workers + suc (length rest) ≡ count = rw first at so.counted in
    let held : hub ≡ drawer_at name (suc (length rest) + 1) 0 0 = rw first at so.parts in
    let one_less : suc (length rest) + 1 - 1 ≡ length rest + 1 = omega arith in
    let new : other ≡ drawer_at name 1 0 0 = rw held at part in
    let before : handed network ≡ handed heard + length workers = so.counts in
    let once : handed next ≡ handed network + 1 = gave.counted in
    let may : IsAtRest at_rest port_of rests known due heard book hired
    = record {
      free = gave.free;
      port = gave.port ∙ so.port;
      stands = gave.stands;
      knows = λ shown same. gave.knows shown (so.knows shown same);
      dues = λ port held is. gave.dues port held (so.dues port held is);
    } in record {
      counted = omega (arith, longer, counted);
      given = rw pushed (one_given shares workers hired heard network next so.given gave.shared);
      counts = omega (arith, longer, before, once);
      port = gave.keeps_port ∙ so.port;
      knows = λ shown same. gave.keeps_cell shown (so.knows shown same);
      dues = λ port held is. gave.keeps_due port held (so.dues port held is);
      fresh = rw pushed (All-push (λ (worker : HiredWorker L). IsFresh (state_of worker)) workers hired so.fresh (ap seat_at fresh));
      new = rw pushed (All-push (IsNew name) workers hired so.new (refl, new));
      may = rw pushed (All-push (IsAtRest at_rest port_of rests known due heard book) workers hired so.may may);
      seats = All-tail (λ found. found ≡ cell.seat found.number [] [] 0 []) scanner rest here;
      parts = (rw held at cut) ∙ ap (λ (n : ℕ). drawer_at name n 0 0) one_less;
    }

-- workers may serve, when the line of the port was printed
pub may_serve : {L : Type 0} (at_rest : L → Type 0) (port_of : L → ℕ) (rests known : L → RestAt → Type 0) (due : L → ℕ → Option (List ℕ) → Type 0) (owed : RestAt → Ends → Ends → RestAt → Type 0) (options : Options) (heard : L) (announced : PortLineAt) (book : Book) (name : TableId) (all : List (HiredWorker L))
    → announced.port ≡ port_of heard → due heard announced.port announced.held → Pays onward options owed
    → All (λ hired. IsFresh (state_of hired)) all → All (IsNew name) all → All (IsAtRest at_rest port_of rests known due heard book) all
    → All (MayServe at_rest port_of rests known due owed options announced book name) all
may_serve {L} at_rest port_of rests known due owed options heard announced book name [] same dues pays fresh new may =
    All-nil (MayServe at_rest port_of rests known due owed options announced book name)
may_serve {L} at_rest port_of rests known due owed options heard announced book name (hired ∷ all) same dues pays fresh new may =
    let here : IsAtRest at_rest port_of rests known due heard book hired = All-head (IsAtRest at_rest port_of rests known due heard book) hired all may in
    All-cons (MayServe at_rest port_of rests known due owed options announced book name) hired all
    (record {
      new = All-head (IsNew name) hired all new;
      fresh = All-head (λ (h : HiredWorker L). IsFresh (state_of h)) hired all fresh;
      free = here.free;
      port = same ∙ sym here.port;
      dues = here.dues announced.port announced.held dues;
      stands = here.stands;
      knows = here.knows;
      pays = pays;
    })
    (may_serve at_rest port_of rests known due owed options heard announced book name all same dues pays
    (All-tail (λ (h : HiredWorker L). IsFresh (state_of h)) hired all fresh) (All-tail (IsNew name) hired all new)
    (All-tail (IsAtRest at_rest port_of rests known due heard book) hired all may))

-- a listener may be asked for an accept, when the line of the port was printed
pub dues_so : {L : Type 0} (due : L → ℕ → Option (List ℕ) → Type 0) (heard : L) (announced : PortLineAt) (port : ℕ) (before after : Option (List ℕ))
    → IsDueAfter (due heard) before → Appends before after (listening_line port) → announced.port ≡ port → announced.held ≡ after
    → due heard announced.port announced.held
dues_so {L} due heard announced port before after dues printed same held = rw (same, held) (dues port after printed)

-- a seat that is new, as it would be shown
abbrev pub new_rest : Book → ℕ → RestAt
new_rest book number = record { book = book; seat = number; log = []; made = []; asks = 0 }

-- a listener that was shown none may be shown the seat of its worker
pub new_shown : (book : Book) (held : Option cell.Seat) (found : cell.Seat) → held ≡ Some found → seat_in held ≡ seat_of [] 0
    → WasShown (new_rest book found.number) book found.number (seat_at found)
new_shown book held found is fresh =
    let here : seat_at found ≡ seat_of [] 0 = rw is at fresh in
    (refl, refl, (found.log, refl), sym (ap (λ (seat : Seat). seat.made) here))

-- ---- workers that have ended

pub none_gathered : {L : Type 0} (all : List (HiredWorker L)) (seats : cell.GatheredSeatsAt) (name : TableId) (hub : DrawerAt) → seats.seats ≡ 0 → seats.made ≡ 0 → seats.each ≡ [] → hub ≡ drawer_at name 1 0 0 → All (HasDrawn name) all
    → Gathered all all seats (Ok tt) name hub
none_gathered {L} all seats name hub none made nothing is drawn = record {
  done = [];
  whole = sym (append-nil all);
  others = drawn;
  within = All-nil (IsWithin seats.log);
  many = none;
  made = made;
  each = nothing;
  first = refl;
  named = ap (λ (d : DrawerAt). d.name) is;
  parts = ap (λ (d : DrawerAt). d.parts) is;
  drawn = ap (λ (d : DrawerAt). d.drawn) is;
  ended = inr (All-nil (λ (work : Work L). IsErr work.result));
}

-- one that ended well was told that none is left
ends_so : {L : Type 0} (name : TableId) (hired : HiredWorker L) (done : List (HiredWorker L)) (before more : ℕ) (result : Result (Unit {0}) Fault) → result ≡ hired.served → IfOk result (λ _. 0 < more)
    → (0 < before) ⊎ All (λ work. IsErr work.result) (map work_of done) → (0 < before + more) ⊎ All (λ work. IsErr work.result) (map work_of (hired ∷ done))
ends_so {L} name hired done before more (Ok good) is none (inl some) = inl (omega (arith, some))
ends_so {L} name hired done before more (Ok good) is none (inr failed) = inl (omega (arith, none))
ends_so {L} name hired done before more (Err fault) is none (inl some) = inl (omega (arith, some))
ends_so {L} name hired done before more (Err fault) is none (inr failed) =
    inr (All-cons (λ (work : Work L). IsErr work.result) (work_of hired) (map work_of done) (rw (← is) refl) failed)

-- the last one of those that are left has drawn, by the same word
pub last_drawn : {L : Type 0} (name : TableId) (all left rest : List (HiredWorker L)) (hired : HiredWorker L) (seats : cell.GatheredSeatsAt) (result : Result (Unit {0}) Fault) (hub : DrawerAt)
    → Gathered all left seats result name hub → left ≡ rest ++ hired ∷ [] → HasDrawn name hired
last_drawn {L} name all left rest hired seats result hub gathered last = (All-pop (HasDrawn name) left rest (Some hired) last gathered.others).1

-- what it means to take in the seat of a worker
pub record Takes (found : Option cell.Seat) (seats after : cell.GatheredSeatsAt) : Type 0 where
  pub more : Begins seats.log after.log
  pub within : Begins (seat_in found).log after.log
  pub many : after.seats ≡ seats.seats + 1
  pub made : after.made ≡ seats.made + length (seat_in found).made
  pub each : after.each ≡ (seat_in found).made ∷ seats.each

pub takes_so : (found : Option cell.Seat) (scanner : cell.Seat) (seats after : cell.GatheredSeatsAt) → found ≡ Some scanner → Begins seats.log after.log → Begins scanner.log after.log → after.seats ≡ seats.seats + 1
    → after.made ≡ seats.made + length scanner.made → after.each ≡ scanner.made ∷ seats.each → Takes found seats after
takes_so found scanner seats after there more within many made each = rw there (record { more = more; within = within; many = many; made = made; each = each })

-- it is done with
pub one_gathered : {L : Type 0} (all left rest : List (HiredWorker L)) (hired : HiredWorker L) (seats after : cell.GatheredSeatsAt) (result next_result : Result (Unit {0}) Fault) (name : TableId) (hub next : DrawerAt)
    → Gathered all left seats result name hub → left ≡ rest ++ hired ∷ []
    → Takes hired.scanner seats after → next_result ≡ both hired.served result
    → next ≡ drawer_at hub.name (hub.parts + hired.drawer.parts) (hub.drawn + hired.drawer.drawn) (hub.ended + hired.drawer.ended)
    → Gathered all rest after next_result name next
one_gathered {L} all left rest hired seats after result next_result name hub next gathered last takes ends taken =
    let drawn : HasDrawn name hired = last_drawn name all left rest hired seats result hub gathered last in
    let parts : next.parts ≡ hub.parts + hired.drawer.parts = ap (λ (d : DrawerAt). d.parts) taken in
    let count : next.drawn ≡ hub.drawn + hired.drawer.drawn = ap (λ (d : DrawerAt). d.drawn) taken in
    let told_none : next.ended ≡ hub.ended + hired.drawer.ended = ap (λ (d : DrawerAt). d.ended) taken in record {
      done = hired ∷ gathered.done;
      whole = gathered.whole ∙ ap (λ (list : List (HiredWorker L)). list ++ gathered.done) last ∙ append_assoc rest (hired ∷ []) gathered.done;
      others = (All-pop (HasDrawn name) left rest (Some hired) last gathered.others).0;
      within = All-cons (IsWithin after.log) hired gathered.done takes.within (within_more seats.log after.log takes.more gathered.done gathered.within);
      many = (let before = gathered.many in let one = takes.many in omega (arith, before, one));
      made = (let before = gathered.made in let one = takes.made in omega (arith, before, one));
      each = takes.each ∙ ap (λ others. (seat_in hired.scanner).made ∷ others) gathered.each;
      first = ends ∙ ap (both hired.served) gathered.first;
      named = ap (λ (d : DrawerAt). d.name) taken ∙ gathered.named;
      parts = (let before = gathered.parts in let one = drawn.2 in omega (arith, parts, before, one));
      drawn = (let before = gathered.drawn in omega (arith, count, before));
      ended = subst (λ (n : ℕ). (0 < n) ⊎ All (λ work. IsErr work.result) (map work_of (hired ∷ gathered.done))) (sym told_none)
          (ends_so name hired gathered.done hub.ended hired.drawer.ended hired.served refl drawn.3 gathered.ended);
    }

-- what is known of workers that are all done with
pub record AllGathered {L : Type 0} (all : List (HiredWorker L)) (seats : cell.GatheredSeatsAt) (result : Result (Unit {0}) Fault) : Type 0 where
  pub first : result ≡ first_fault (map work_of all)
  pub within : All (IsWithin seats.log) all
  pub many : seats.seats ≡ length all
  pub made : seats.made ≡ made_by (map work_of all)
  pub each : seats.each ≡ made_by_each (map work_of all)

pub all_gathered : {L : Type 0} (all : List (HiredWorker L)) (seats : cell.GatheredSeatsAt) (result : Result (Unit {0}) Fault) (name : TableId) (hub : DrawerAt) → Gathered all [] seats result name hub
    → AllGathered all seats result
all_gathered {L} all seats result name hub gathered = rw gathered.whole (record { first = gathered.first; within = gathered.within; many = gathered.many; made = gathered.made; each = gathered.each })

-- so all was drawn, or each worker failed
pub all_drawn : {L : Type 0} (all : List (HiredWorker L)) (seats : cell.GatheredSeatsAt) (result : Result (Unit {0}) Fault) (name : TableId) (hub : DrawerAt) (most : ℕ) → Gathered all [] seats result name hub
    → hub.drawn ≤ most → (0 < hub.ended → hub.drawn ≡ most) → DrawsAll most (map work_of all)
all_drawn {L} all seats result name hub most gathered few none =
    rw gathered.whole (by_end gathered.ended)
  where
    by_end : (0 < hub.ended) ⊎ All (λ work. IsErr work.result) (map work_of gathered.done) → DrawsAll most (map work_of gathered.done)
    by_end (inl some) = inl (sym gathered.drawn ∙ none some)
    by_end (inr failed) = inr (rw (← gathered.drawn) few, failed)

-- ---- what all did

-- items at the same places, one by one
served_at : {L : Type 0} (accepts : Accepting L) (options : Options) (name : TableId) (history : Log) (olds news : List (HiredWorker L)) → length news ≡ length olds
    → ((i : ℕ) (d : HiredWorker L) → i < length olds → HasWorked accepts options name (slice_index_or olds i d) (slice_index_or news i d))
    → All (IsWithin history) news → Pairwise (IsPartOf accepts options history) (map state_of olds) (map work_of news)
served_at {L} accepts options name history [] [] same each within = tt
served_at {L} accepts options name history [] (new ∷ news) same each within = absurd (cc same)
served_at {L} accepts options name history (old ∷ olds) [] same each within = absurd (cc same)
served_at {L} accepts options name history (old ∷ olds) (new ∷ news) same each within =
    let one : HasWorked accepts options name old new = each zero old (omega arith) in (
      record { serves = one.serves; within = All-head (IsWithin history) new news within },
      served_at accepts options name history olds news (omega (arith, same)) (λ i d few. each (suc i) d (omega (arith, few)))
          (All-tail (IsWithin history) new news within),
    )

drawn_at : {L : Type 0} (accepts : Accepting L) (options : Options) (name : TableId) (olds news : List (HiredWorker L)) → length news ≡ length olds
    → ((i : ℕ) (d : HiredWorker L) → i < length olds → HasWorked accepts options name (slice_index_or olds i d) (slice_index_or news i d))
    → All (HasDrawn name) news
drawn_at {L} accepts options name [] [] same each = All-nil (HasDrawn name)
drawn_at {L} accepts options name [] (new ∷ news) same each = absurd (cc same)
drawn_at {L} accepts options name (old ∷ olds) [] same each = absurd (cc same)
drawn_at {L} accepts options name (old ∷ olds) (new ∷ news) same each =
    let one : HasWorked accepts options name old new = each zero old (omega arith) in
    All-cons (HasDrawn name) new news one.drawn
    (drawn_at accepts options name olds news (omega (arith, same)) (λ i d few. each (suc i) d (omega (arith, few))))

-- what is written over a whole list
written_whole : {X : Type 0} (olds news : List X) → length news ≡ length olds → take (length olds) (news ++ drop (length news) olds) ≡ news
written_whole [] [] same = refl
written_whole [] (new ∷ news) same = absurd (cc same)
written_whole (old ∷ olds) [] same = absurd (cc same)
written_whole (old ∷ olds) (new ∷ news) same = ap (λ list. new ∷ list) (written_whole olds news (omega (arith, same)))

-- the items of a vector whose whole was changed in place
pub written : {X : Type 0} (olds news : List X) (count : ℕ) → count ≡ length olds → length news ≡ length olds → take count (news ++ drop (length news) olds) ≡ news
written olds news count all same = rw all (written_whole olds news same)

pub all_have_drawn : {L : Type 0} (accepts : Accepting L) (options : Options) (name : TableId) (olds news items : List (HiredWorker L)) → items ≡ news → length news ≡ length olds
    → ((i : ℕ) (d : HiredWorker L) → i < length olds → HasWorked accepts options name (slice_index_or olds i d) (slice_index_or news i d))
    → All (HasDrawn name) items
all_have_drawn {L} accepts options name olds news items is same each = rw is (drawn_at accepts options name olds news same each)

pub all_served : {L : Type 0} (accepts : Accepting L) (options : Options) (name : TableId) (most : ℕ) (history : Log) (olds news items : List (HiredWorker L)) (result : Result (Unit {0}) Fault) → items ≡ news → length news ≡ length olds
    → ((i : ℕ) (d : HiredWorker L) → i < length olds → HasWorked accepts options name (slice_index_or olds i d) (slice_index_or news i d))
    → (seen : Log) → All (IsWithin seen) items → Begins seen history → IsLog history → length history ≡ made_by (map work_of items)
    → MergesAll (made_by_each (map work_of items)) (placed 0 history) → DrawsAll most (map work_of items) → result ≡ first_fault (map work_of items)
    → ServesSideBySide accepts options most (map state_of olds) result
all_served {L} accepts options name most history olds news items result is same each seen within more log made own drawn ends = record {
  history = history;
  log = log;
  ends = map work_of items;
  served = rw is (served_at accepts options name history olds news same each (rw is at (within_more seen history more items within)));
  made = made;
  own = own;
  drawn = drawn;
  ended = ends;
}

-- ---- the port

fresh_workers : {L : Type 0} (all : List (HiredWorker L)) → All (λ hired. IsFresh (state_of hired)) all
    → All IsFresh (map state_of all)
fresh_workers {L} [] fresh = All-nil (λ (worker : Worker L). IsFresh worker)
fresh_workers {L} (hired ∷ all) fresh =
    All-cons (λ (worker : Worker L). IsFresh worker) (state_of hired) (map state_of all)
    (All-head (λ (h : HiredWorker L). IsFresh (state_of h)) hired all fresh)
    (fresh_workers all (All-tail (λ (h : HiredWorker L). IsFresh (state_of h)) hired all fresh))

same_listeners : {L : Type 0} (all : List (HiredWorker L)) → hired_listeners all ≡ listeners_of (map state_of all)
same_listeners {L} [] = refl
same_listeners {L} (hired ∷ all) = ap (λ (others : List L). hired.listener ∷ others) (same_listeners all)

as_served : {L : Type 0} (accepts : Accepting L) (shares : Sharing L) (serving : ServeOptions) (result : Result (Unit {0}) Fault) (heard new : L) (out out' : Said)
    → IsServed accepts shares serving result heard new out out' → ServesPort accepts shares serving result heard new out out'
as_served accepts shares serving (Ok done) heard new out out' served = served
as_served accepts shares serving (Err fault) heard new out out' served = inl served

pub port_served : {L : Type 0} (accepts : Accepting L) (shares : Sharing L) (serving : ServeOptions) (result : Result (Unit {0}) Fault) (heard new : L) (out out' : Said) (all : List (HiredWorker L))
    → Appends out.bytes out'.bytes (listening_line serving.port) → out'.failures ≡ out.failures → length all ≡ serving.seats → SharesEach shares heard (hired_listeners all) new
    → All (λ hired. IsFresh (state_of hired)) all → ServesSideBySide accepts (options_of serving) (most_of serving.accept) (map state_of all) result
    → ServesPort accepts shares serving result heard new out out'
port_served {L} accepts shares serving result heard new out out' all printed quiet many given fresh served =
    as_served accepts shares serving result heard new out out' (record {
      printed = printed;
      quiet = quiet;
      workers = map state_of all;
      many = length-map all state_of ∙ many;
      given = subst (λ (listeners : List L). SharesEach shares heard listeners new) (same_listeners all) given;
      start = fresh_workers all fresh;
      served = served;
    })

-- it gave some, and then one more
pub shares_more : {L : Type 0} (shares : Sharing L) (given : List L) (listener heard middle new : L)
    → SharesEach shares heard given middle → shares middle (Some listener) new → SharesSome shares heard new
shares_more shares given listener heard middle new each shared = (given ++ listener ∷ [], one_shared shares given listener heard middle new each shared)
