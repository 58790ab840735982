-- How a seat rests: what others may be shown of it, without the name of its cell.
use Rattle.std.specs.Prelude.{◌≡◌, ℕ, List}
use Rattle.logbook.specs.Pages.{Book}
use Rattle.version_cell.specs.PlacedEntries.{Placed}
use Rattle.version_cell.specs.Seats.{Seat}
use Rattle.version_cell.specs.SignedEntries.{SignedEntry, log_of, own}

-- the book of its cell, its number, the log that it has seen, with the seat of each entry, the
-- entries that were made through it, each with its place in the log, and how often it asked the
-- putter
pub record RestAt : Type 0 where
  pub book : Book
  pub seat : ℕ
  pub log : List SignedEntry
  pub made : List Placed
  pub asks : ℕ

-- a seat through which just those entries were made that the log has of its number, at their places
abbrev pub rest_at : Book → ℕ → List SignedEntry → ℕ → RestAt
rest_at book seat log asks =
    record { book = book; seat = seat; log = log; made = own seat log; asks = asks }

-- a seat of the cell with this book rests so
pub record IsRestOf (rest : RestAt) (cell : Book) (seat : Seat) : Type 0 where
  pub book : rest.book ≡ cell
  pub number : rest.seat ≡ seat.number
  pub log : log_of rest.log ≡ seat.log
  pub made : rest.made ≡ seat.made
  pub asks : rest.asks ≡ seat.asks
