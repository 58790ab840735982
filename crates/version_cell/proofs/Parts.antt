-- The entries of each seat are those that it made, at the places where the log has them.
use Rattle.std.proofs.Common.{Bool, true, false, ◌≡◌, ◌≢◌, ◌==◌, inl, inr, ℕ, ◌+◌, ◌^◌, ◌≤◌, List, [], ◌∷◌, ◌++◌, length, map, refl, ap, sym, subst, ◌∙◌, arith, if◌then◌else◌}
use Rattle.std.specs.List.{enumerate_from}
use Rattle.std.proofs.lemmas.List.{length-append, length-map}
use Rattle.std.proofs.lemmas.List.FromFn.{length-enumerate_from}
use Rattle.std.proofs.lemmas.Bool.Decides.{nat_tests}
use Rattle.version_log.specs.Log.{Entry}
use Rattle.version_cell.specs.Merges.{Merges, MergesAll}
use Rattle.version_cell.specs.PlacedEntries.{Placed, placed}
use Rattle.version_cell.specs.Shares.{SharesAt, shares_at}
use Rattle.version_cell.specs.SignedEntries.{SignedEntry, signed, log_of, own, own_of, GoesOn, IsAmong, Part, part_at, AreAmong, seats_of, powers, made_by_each, made_by_all}
use Rattle.version_cell.proofs.Merging.{among_length, among_more, among_last, among_whole, merges_length}
use Rattle.version_cell.proofs.Numbers.{IsNone, AreApart, are_apart}
use Rattle.version_cell.proofs.Placing.{numbered-append}

-- ---- by whether an entry is of the seat

own_behind : (seat : ℕ) (at : ℕ × SignedEntry) (entries more : List (ℕ × SignedEntry)) (b : Bool) → (at.1.seat == seat) ≡ b
    → own_of seat (entries ++ more) ≡ own_of seat entries ++ own_of seat more → own_of seat (at ∷ entries ++ more) ≡ own_of seat (at ∷ entries) ++ own_of seat more
own_behind seat at entries more true is behind = rw is (ap (λ all. (at.0, at.1.entry) ∷ all) behind)
own_behind seat at entries more false is behind = rw is behind

own_here : (seat place : ℕ) (entry : Entry) (b : Bool) → (seat == seat) ≡ b → own_of seat ((place, signed seat entry) ∷ []) ≡ (place, entry) ∷ []
own_here seat place entry true is = rw is refl
own_here seat place entry false is = absurd (grind (arith, nat_tests))

-- ---- the entries of one seat

own_of-append : (seat : ℕ) (entries more : List (ℕ × SignedEntry)) → own_of seat (entries ++ more) ≡ own_of seat entries ++ own_of seat more
own_of-append seat [] more = refl
own_of-append seat (at ∷ entries) more = own_behind seat at entries more (at.1.seat == seat) refl (own_of-append seat entries more)

pub own-append : (seat : ℕ) (entries more : List SignedEntry) → own seat (entries ++ more) ≡ own seat entries ++ own_of seat (enumerate_from (length entries) more)
own-append seat entries more =
    let first : 0 + length entries ≡ length entries = omega arith in
    let split : own seat (entries ++ more) ≡ own seat entries ++ own_of seat (enumerate_from (0 + length entries) more) =
    ap (own_of seat) (numbered-append 0 entries more) ∙ own_of-append seat (enumerate_from 0 entries) (enumerate_from (0 + length entries) more) in
    subst (λ (n : ℕ). own seat (entries ++ more) ≡ own seat entries ++ own_of seat (enumerate_from n more)) first split

-- with one entry more, of this seat
pub own_more : (seat : ℕ) (entries : List SignedEntry) (entry : Entry) → own seat (entries ++ signed seat entry ∷ []) ≡ own seat entries ++ (length entries, entry) ∷ []
own_more seat entries entry =
    own-append seat entries (signed seat entry ∷ []) ∙ ap (λ end. own seat entries ++ end) (own_here seat (length entries) entry (seat == seat) refl)

-- of a log that goes on
pub among_on : (seat : ℕ) (made : List Placed) (entries more : List SignedEntry) → GoesOn entries more → IsAmong made (own seat entries) → IsAmong made (own seat more)
among_on seat made entries more (rest, is) among =
    let behind : List Placed = own_of seat (enumerate_from (length entries) rest) in
    let same : own seat more ≡ own seat entries ++ behind = ap (own seat) is ∙ own-append seat entries rest in
    subst (λ (all : List Placed). IsAmong made all) (sym same) (among_more made (own seat entries) behind among)

-- of a log with one entry more, of this seat
pub among_made : (seat : ℕ) (before made : List Placed) (entries more : List SignedEntry) (entry : Entry) → IsAmong before (own seat entries) → more ≡ entries ++ signed seat entry ∷ []
    → made ≡ before ++ (length entries, entry) ∷ [] → IsAmong made (own seat more)
among_made seat before made entries more entry among is last =
    let same : own seat more ≡ own seat entries ++ (length entries, entry) ∷ [] = ap (own seat) is ∙ own_more seat entries entry in
    rw (same, last) (among_last before (own seat entries) (length entries, entry) among)

pub are_among_on : (parts : List Part) (entries more : List SignedEntry) → GoesOn entries more → AreAmong parts entries → AreAmong parts more
are_among_on [] entries more on among = tt
are_among_on (part ∷ parts) entries more on among = (among_on part.seat part.made entries more on among.0, are_among_on parts entries more on among.1)

-- ---- the entries of all other seats

abbrev without : ℕ → List (ℕ × SignedEntry) → List (ℕ × SignedEntry)
without seat [] = []
without seat (at ∷ more) = if at.1.seat == seat then without seat more else at ∷ without seat more

-- entries without their seats
abbrev entry_at : ℕ × SignedEntry → Placed
entry_at at = (at.0, at.1.entry)

abbrev entries_at : List (ℕ × SignedEntry) → List Placed
entries_at entries = map entry_at entries

own_first : (seat : ℕ) (at : ℕ × SignedEntry) (more : List (ℕ × SignedEntry)) (b : Bool) → (at.1.seat == seat) ≡ b → Merges (own_of seat more) (entries_at (without seat more)) (entries_at more)
    → Merges (own_of seat (at ∷ more)) (entries_at (without seat (at ∷ more))) (entries_at (at ∷ more))
own_first seat at more true is behind = rw is (inl (own_of seat more, refl, behind))
own_first seat at more false is behind = rw is (inr (entries_at (without seat more), refl, behind))

own_other : (seat other : ℕ) (at : ℕ × SignedEntry) (more : List (ℕ × SignedEntry)) (b : Bool) → (at.1.seat == seat) ≡ b → (c : Bool) → (at.1.seat == other) ≡ c → other ≢ seat
    → own_of other (without seat more) ≡ own_of other more → own_of other (without seat (at ∷ more)) ≡ own_of other (at ∷ more)
own_other seat other at more true is true so apart behind = absurd (apart (grind (arith, nat_tests)))
own_other seat other at more true is false so apart behind = rw (is, so) behind
own_other seat other at more false is true so apart behind = rw (is, so) (ap (λ all. (at.0, at.1.entry) ∷ all) behind)
own_other seat other at more false is false so apart behind = rw (is, so) behind

own_merges : (seat : ℕ) (entries : List (ℕ × SignedEntry)) → Merges (own_of seat entries) (entries_at (without seat entries)) (entries_at entries)
own_merges seat [] = (refl, refl)
own_merges seat (at ∷ more) = own_first seat at more (at.1.seat == seat) refl (own_merges seat more)

without_length : (seat : ℕ) (entries : List (ℕ × SignedEntry)) → length (own_of seat entries) + length (without seat entries) ≡ length entries
without_length seat entries = omega (
  arith,
  merges_length (own_of seat entries) (entries_at (without seat entries)) (entries_at entries) (own_merges seat entries),
  length-map (without seat entries) entry_at,
  length-map entries entry_at,
)

-- what was made is no more than the log has
pub few_made : (seat : ℕ) (made : List Placed) (entries : List SignedEntry) → IsAmong made (own seat entries) → length made ≤ length entries
few_made seat made entries among = omega (
  arith,
  among_length made (own seat entries) among,
  without_length seat (enumerate_from 0 entries),
  length-enumerate_from 0 entries,
)

own_without : (seat other : ℕ) (entries : List (ℕ × SignedEntry)) → other ≢ seat → own_of other (without seat entries) ≡ own_of other entries
own_without seat other [] apart = refl
own_without seat other (at ∷ more) apart = own_other seat other at more (at.1.seat == seat) refl (at.1.seat == other) refl apart (own_without seat other more apart)

-- what was made through each is among the entries of its number
abbrev AreIn : List Part → List (ℕ × SignedEntry) → Type 0
AreIn [] entries = Unit {0}
AreIn (part ∷ parts) entries = IsAmong part.made (own_of part.seat entries) × AreIn parts entries

are_in : (parts : List Part) (entries : List SignedEntry) → AreAmong parts entries → AreIn parts (enumerate_from 0 entries)
are_in [] entries among = tt
are_in (part ∷ parts) entries among = (among.0, are_in parts entries among.1)

in_without : (seat : ℕ) (parts : List Part) (entries : List (ℕ × SignedEntry)) → IsNone seat (seats_of parts) → AreIn parts entries → AreIn parts (without seat entries)
in_without seat [] entries none among = tt
in_without seat (part ∷ parts) entries none among = (
  subst (λ (all : List Placed). IsAmong part.made all) (sym (own_without seat part.seat entries none.0)) among.0,
  in_without seat parts entries none.1 among.1,
)

-- ---- the entries of all

no_more : (parts : List Part) (entries : List (ℕ × SignedEntry)) → AreApart (seats_of parts) → AreIn parts entries → made_by_all parts ≤ length entries
no_more [] entries apart among = omega arith
no_more (part ∷ parts) entries apart among = omega (
  arith,
  among_length part.made (own_of part.seat entries) among.0,
  without_length part.seat entries,
  no_more parts (without part.seat entries) apart.1 (in_without part.seat parts entries apart.0 among.1),
)

-- where they are as many as the log has, the log is made up of them
merges_all : (parts : List Part) (entries : List (ℕ × SignedEntry)) → AreApart (seats_of parts) → AreIn parts entries → made_by_all parts ≡ length entries
    → MergesAll (made_by_each parts) (entries_at entries)
merges_all [] [] apart among same = refl
merges_all [] (at ∷ entries) apart among same = absurd (omega (arith, same))
merges_all (part ∷ parts) entries apart among same =
    let left = without part.seat entries in
    let behind = in_without part.seat parts entries apart.0 among.1 in
    let few = among_length part.made (own_of part.seat entries) among.0 in
    let some = without_length part.seat entries in
    let others = no_more parts left apart.1 behind in
    let mine : part.made ≡ own_of part.seat entries = among_whole part.made (own_of part.seat entries) among.0 (omega (arith, same, few, some, others)) in (
      entries_at left,
      subst (λ (made : List Placed). Merges made (entries_at left) (entries_at entries)) (sym mine) (own_merges part.seat entries),
      merges_all parts left apart.1 behind (omega (arith, same, some, ap length mine)),
    )

placed_so : (place : ℕ) (entries : List SignedEntry) → entries_at (enumerate_from place entries) ≡ placed place (log_of entries)
placed_so place [] = refl
placed_so place (s ∷ entries) = ap (λ all. (place, s.entry) ∷ all) (placed_so (place + 1) entries)

-- where all seats are done with, and their entries are counted, a log that goes on from all that they had seen is made up of them
pub all_merge : (parts : List Part) (entries log : List SignedEntry) (n : ℕ) → GoesOn entries log → AreAmong parts entries → length parts ≡ n → powers (seats_of parts) + 1 ≡ 2 ^ n
    → made_by_all parts ≡ length log → MergesAll (made_by_each parts) (placed 0 (log_of log))
all_merge parts entries log n on among many sum counted =
    let few : length (seats_of parts) ≤ n = omega (arith, many, length-map parts (λ (part : Part). part.seat)) in
    let are : AreIn parts (enumerate_from 0 log) = are_in parts log (are_among_on parts entries log on among) in
    subst (λ (all : List Placed). MergesAll (made_by_each parts) all) (placed_so 0 log)
    (merges_all parts (enumerate_from 0 log) (are_apart n (seats_of parts) sum few) are (omega (arith, counted, length-enumerate_from 0 log)))

-- one seat more, whose entries are among those that the seats have then seen
pub one_taken : (seat : ℕ) (made : List Placed) (before parts : List Part) (mine seen log : List SignedEntry) (shares other after : SharesAt)
    → shares.seats ≡ length before → shares.entries ≡ made_by_all before → shares.numbers ≡ powers (seats_of before) → AreAmong before seen
    → other ≡ shares_at 1 (length made) other.asks (2 ^ seat) → IsAmong made (own seat mine)
    → GoesOn seen log → GoesOn mine log → parts ≡ part_at seat made ∷ before
    → after ≡ shares_at (shares.seats + other.seats) (shares.entries + other.entries) (shares.asks + other.asks) (shares.numbers + other.numbers)
    → (after.seats ≡ length parts) × (after.entries ≡ made_by_all parts) × (after.numbers ≡ powers (seats_of parts)) × AreAmong parts log
one_taken seat made before parts mine seen log shares other after many counted numbers among share mine_among on mine_on is sum =
    let one : other.seats ≡ 1 = ap (λ (s : SharesAt). s.seats) share in
    let entries : other.entries ≡ length made = ap (λ (s : SharesAt). s.entries) share in
    let number : other.numbers ≡ 2 ^ seat = ap (λ (s : SharesAt). s.numbers) share in
    let now : after.seats ≡ shares.seats + other.seats = ap (λ (s : SharesAt). s.seats) sum in
    let now_entries : after.entries ≡ shares.entries + other.entries = ap (λ (s : SharesAt). s.entries) sum in
    let now_numbers : after.numbers ≡ shares.numbers + other.numbers = ap (λ (s : SharesAt). s.numbers) sum in
    rw is (
      omega (arith, many, one, now),
      omega (arith, counted, entries, now_entries),
      omega (arith, numbers, number, now_numbers),
      (among_on seat made mine log mine_on mine_among, are_among_on before seen log on among),
    )

-- one entry more is counted
pub one_counted : (before after : SharesAt) (made more : List Placed) (entry : Placed) (number : ℕ) → before ≡ shares_at 1 (length made) before.asks number
    → after ≡ shares_at before.seats (before.entries + 1) before.asks before.numbers → more ≡ made ++ entry ∷ [] → after ≡ shares_at 1 (length more) after.asks number
one_counted before after made more entry number is next last =
    let seats : before.seats ≡ 1 = ap (λ (s : SharesAt). s.seats) is in
    let numbers : before.numbers ≡ number = ap (λ (s : SharesAt). s.numbers) is in
    let entries : before.entries + 1 ≡ length more = omega (arith, ap (λ (s : SharesAt). s.entries) is, ap length last, length-append made (entry ∷ [])) in
    let asks : after.asks ≡ before.asks = ap (λ (s : SharesAt). s.asks) next in
    next ∙ (ap (λ (n : ℕ). shares_at n (before.entries + 1) before.asks before.numbers) seats
    ∙ (ap (λ (n : ℕ). shares_at 1 n before.asks before.numbers) entries
    ∙ (ap (λ (n : ℕ). shares_at 1 (length more) n before.numbers) (sym asks)
    ∙ ap (λ (n : ℕ). shares_at 1 (length more) after.asks n) numbers)))
