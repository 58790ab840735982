-- What is counted of each seat.
use Rattle.std.proofs.Common.{◌≢◌, ◌<◌, slice_index_or, slice_set, Bool, true, false, ◌≡◌, ◌==◌, ℕ, ◌+◌, List, [], ◌∷◌, ◌++◌, length, refl, ap, sym, ◌∙◌, arith, append-nil, length-append}
use Rattle.std.proofs.lemmas.Bool.Decides.{nat_tests}
use Rattle.std.proofs.lemmas.List.{get_or-set_other, length-set}
use Rattle.std.proofs.lemmas.Grind.{get_or-set_at}
use Rattle.version_log.specs.Log.{Entry}
use Rattle.version_cell.specs.Counts.{Counted}
use Rattle.version_cell.specs.PlacedEntries.{Placed}
use Rattle.version_cell.specs.Seats.{Seat, IsNumbered}
use Rattle.version_cell.specs.SignedEntries.{SignedEntry, signed, log_of, own, own_of}
use Rattle.version_cell.proofs.Parts.{own-append, own_more}

-- a log without entries has none with their seats
pub none_signed : (entries : List SignedEntry) → log_of entries ≡ [] → entries ≡ []
none_signed [] none = refl
none_signed (s ∷ entries) none = absurd (omega (arith, ap length none))

own_of_another : (seat by place : ℕ) (entry : Entry) (b : Bool) → (by == seat) ≡ b → seat ≢ by → own_of seat ((place, signed by entry) ∷ []) ≡ []
own_of_another seat by place entry true is apart = absurd (apart (grind (arith, nat_tests)))
own_of_another seat by place entry false is apart = rw is refl

counted_at : (counts : List ℕ) (log : List SignedEntry) (by count seat : ℕ) (entry : Entry) (b : Bool) → (seat == by) ≡ b → Counted counts log → by < length counts
    → count ≡ length (own by log) + 1 → seat < length counts → slice_index_or (slice_set counts by count) seat 0 ≡ length (own seat (log ++ signed by entry ∷ []))
counted_at counts log by count seat entry true is counted few same within =
    let here : seat ≡ by = grind (arith, nat_tests) in
    let last : Placed = (length log, entry) in
    let more : own by (log ++ signed by entry ∷ []) ≡ own by log ++ last ∷ [] = own_more by log entry in
    get_or-set_at counts by seat count 0 here few ∙ (rw here (omega (arith, same, ap length more, length-append (own by log) (last ∷ []))))
counted_at counts log by count seat entry false is counted few same within =
    let apart : seat ≢ by = grind (arith, nat_tests) in
    let none : own_of seat ((length log, signed by entry) ∷ []) ≡ [] = own_of_another seat by (length log) entry (by == seat) refl apart in
    let more : own seat (log ++ signed by entry ∷ []) ≡ own seat log =
    own-append seat log (signed by entry ∷ []) ∙ (ap (λ end. own seat log ++ end) none ∙ append-nil (own seat log)) in
    get_or-set_other counts by seat count 0 apart ∙ (counted seat within ∙ ap length (sym more))

-- what is counted of each seat, after an entry more
pub counted_more : (counts : List ℕ) (log after : List SignedEntry) (by count : ℕ) (entry : Entry) (made more : List Placed) → Counted counts log → by < length counts
    → length made ≡ length (own by log) → more ≡ made ++ (length log, entry) ∷ [] → count ≡ length more → after ≡ log ++ signed by entry ∷ [] → Counted (slice_set counts by count) after
counted_more counts log after by count entry made more counted few same last is on seat within =
    let end : Placed = (length log, entry) in
    rw on (counted_at counts log by count seat entry (seat == by) refl counted few
    (omega (arith, same, is, ap length last, length-append made (end ∷ []))) (omega (arith, within, length-set counts by count)))

-- one seat more has the next number
pub numbered_last : (first : ℕ) (seats : List Seat) (one : Seat) → IsNumbered first seats → one.number ≡ first + length seats → IsNumbered first (seats ++ one ∷ [])
numbered_last first [] one numbered is = (omega (arith, is), tt)
numbered_last first (s ∷ seats) one numbered is = (numbered.0, numbered_last (first + 1) seats one numbered.1 (omega (arith, is)))
