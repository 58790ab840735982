use Rattle.worker_cases.proofs.cells.told_logs.one_seat_tells_another.Given as goal

-- the cell that was just opened
abbrev pub ghosts-told_by_another-C-CellName : goal.ghosts-told_by_another-C-CellName
ghosts-told_by_another-C-CellName g a = record { book = a.blank.book; asks = a.blank.asks; numbers = a.blank.numbers }

abbrev pub ghosts-told_by_another-C-Ledger : goal.ghosts-told_by_another-C-Ledger
ghosts-told_by_another-C-Ledger g a = record { name = a.blank.ledger; parts = a.blank.seats }
