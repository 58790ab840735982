-- Logs that go on.
use Rattle.std.proofs.Common.{◌≡◌, List, [], ◌∷◌, ◌++◌, ap, sym, ◌∙◌, append_assoc, append-nil, refl, subst}
use Rattle.version_cell.specs.Rests.{RestAt}
use Rattle.version_cell.specs.SignedEntries.{SignedEntry, own, GoesOn}
use Rattle.server_cases.specs.History.{SawOne}

pub goes_on_self : (log : List SignedEntry) → GoesOn log log
goes_on_self log = ([], sym (append-nil log))

pub goes_on_none : (log : List SignedEntry) → GoesOn [] log
goes_on_none log = (log, refl)

goes_on_through : (log more most : List SignedEntry) → GoesOn log more → GoesOn more most → GoesOn log most
goes_on_through log more most first second =
    (first.0 ++ second.0, second.1 ∙ (ap (λ l. l ++ second.0) first.1 ∙ append_assoc log first.0 second.0))

-- what was seen of a log was seen of one that goes on from it
saw_on : (log more : List SignedEntry) (shown : List RestAt) → GoesOn log more → SawOne log shown → SawOne more shown
saw_on log more [] on saw = tt
saw_on log more (seat ∷ shown) on saw = (goes_on_through seat.log log more saw.0 on, saw.1, saw_on log more shown on saw.2)

-- and one seat more
saw_more : (log : List SignedEntry) (shown : List RestAt) (seat : RestAt) → SawOne log shown → GoesOn seat.log log → seat.made ≡ own seat.seat seat.log → SawOne log (shown ++ seat ∷ [])
saw_more log [] seat saw on exact = (on, exact, tt)
saw_more log (first ∷ shown) seat saw on exact = (saw.0, saw.1, saw_more log shown seat saw.2 on exact)

pub saw_all : (log more : List SignedEntry) (shown after : List RestAt) (seat : RestAt) → SawOne log shown → GoesOn log more → GoesOn seat.log more
    → seat.made ≡ own seat.seat seat.log → after ≡ shown ++ seat ∷ [] → SawOne more after
saw_all log more shown after seat saw on last exact same =
    subst (λ (all : List RestAt). SawOne more all) (sym same) (saw_more more shown seat (saw_on log more shown on saw) last exact)
