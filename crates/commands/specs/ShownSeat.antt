-- What a listener is shown of a seat.
use Rattle.std.specs.Prelude.{◌≡◌, ℕ, []}
use Rattle.logbook.specs.Pages.{Book}
use Rattle.version_log.specs.Log.{Begins}
use Rattle.version_cell.specs.Rests.{RestAt}
use Rattle.version_cell.specs.SignedEntries.{log_of}
use Rattle.flight_core.specs.Seats.{Seat}

-- the seat that is shown so, after so many looks
abbrev pub seat_shown : RestAt → ℕ → Seat
seat_shown shown looks =
    record { log = log_of shown.log; looks = looks; made = shown.made; asks = shown.asks }

-- it has seen nothing, and nothing was made through it
abbrev pub IsNewSeat : RestAt → Type 0
IsNewSeat shown = (shown.log ≡ []) × (shown.made ≡ [])

-- they are one seat: of one cell, and of the same number
abbrev pub IsSameSeat : RestAt → RestAt → Type 0
IsSameSeat old new = (new.book ≡ old.book) × (new.seat ≡ old.seat)

-- the same seat, which has seen no less than before, and through which nothing was made
abbrev pub HasLearnt : RestAt → RestAt → Type 0
HasLearnt old new =
    IsSameSeat old new × Begins (log_of old.log) (log_of new.log) × (new.made ≡ old.made)

-- a seat of this cell, with this number, was last shown so; it may have learnt since what others
-- did, and nothing was made through it
abbrev pub WasShown : RestAt → Book → ℕ → Seat → Type 0
WasShown shown book number seat =
    (shown.book ≡ book) × (shown.seat ≡ number) × Begins (log_of shown.log) seat.log
    × (shown.made ≡ seat.made)

-- a seat of this cell, with this number, is shown just so
abbrev pub IsShownAs : RestAt → Book → ℕ → Seat → Type 0
IsShownAs shown book number seat =
    (shown.book ≡ book) × (shown.seat ≡ number) × (log_of shown.log ≡ seat.log)
    × (shown.made ≡ seat.made) × (shown.asks ≡ seat.asks)
