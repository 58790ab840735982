-- What a contract sees of a cell that has no name yet.
use Rattle.std.specs.Prelude.{◌≡◌, ℕ}
use Rattle.logbook.specs.Pages.{Book}

-- the book of its log, the ledgers of its entries, of its asks and of the numbers of its seats, and
-- how many seats it will have
pub record BlankAt : Type 0 where
  pub book : Book
  pub ledger : ℕ
  pub asks : ℕ
  pub numbers : ℕ
  pub seats : ℕ

-- the cell has this book, and these ledgers, each with a part for each seat
abbrev pub IsNamed : BlankAt → Book → ℕ → ℕ → ℕ → ℕ → Type 0
IsNamed blank book ledger parts asks numbers =
    (blank.book ≡ book) × (blank.ledger ≡ ledger) × (blank.seats ≡ parts) × (blank.asks ≡ asks)
    × (blank.numbers ≡ numbers)

-- seats of a cell
abbrev pub most_seats : ℕ
most_seats = 32
