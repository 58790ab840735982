use Rattle.worker_cases.proofs.cells.told_logs.one_seat_holds_what_expires.Given as goal

-- the cell that was just opened
abbrev pub ghosts-held_beside-C-CellName : goal.ghosts-held_beside-C-CellName
ghosts-held_beside-C-CellName g a = record { book = a.blank.book; asks = a.blank.asks; numbers = a.blank.numbers }

abbrev pub ghosts-held_beside-C-Ledger : goal.ghosts-held_beside-C-Ledger
ghosts-held_beside-C-Ledger g a = record { name = a.blank.ledger; parts = a.blank.seats }
