use Rattle.worker_cases.proofs.cells.one_thread.expiries.Given as goal

-- the cell that was just opened
abbrev pub ghosts-expires-C-CellName : goal.ghosts-expires-C-CellName
ghosts-expires-C-CellName g a = record { book = a.blank.book; asks = a.blank.asks; numbers = a.blank.numbers }

abbrev pub ghosts-expires-C-Ledger : goal.ghosts-expires-C-Ledger
ghosts-expires-C-Ledger g a = record { name = a.blank.ledger; parts = a.blank.seats }
