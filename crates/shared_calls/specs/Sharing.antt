-- A seat of a version cell, as a connection's.
use Rattle.std.specs.Prelude.{◌≡◌}
use Rattle.logbook.specs.Pages.{Book}
use Rattle.version_log.specs.Log.{Begins}
use Rattle.version_cell.specs.Rests.{RestAt}
use Rattle.version_cell.specs.Seats as cell
use Rattle.version_cell.specs.SignedEntries.{log_of}
use Rattle.flight_core.specs.Seats.{Seat, Moves}

-- it looks by entering the cell, and asks the cell's putter
abbrev pub seat_at : cell.Seat → Seat
seat_at scanner =
    record { log = scanner.log; looks = scanner.enters; made = scanner.made; asks = scanner.asks }

-- Where others put into the log too: a step, also that of a put or an expiry, goes from a log that
-- goes on from what the seat had seen, and the seat has then seen the log after it, and no more.
abbrev pub onward : Moves
onward old log after new = Begins old.log log × (new.log ≡ after)

-- a seat of the cell with this book rests so
pub record RestsAs (rest : RestAt) (cell : Book) (seat : Seat) : Type 0 where
  pub book : rest.book ≡ cell
  pub log : log_of rest.log ≡ seat.log
  pub made : rest.made ≡ seat.made
  pub asks : rest.asks ≡ seat.asks
