use Rattle.worker_cases.proofs.cells.many_threads.two_put_by_one_lock.Given as goal

-- the cell that was just opened
abbrev pub ghosts-put_by_two-C-CellName : goal.ghosts-put_by_two-C-CellName
ghosts-put_by_two-C-CellName g a = record { book = a.blank.book; asks = a.blank.asks; numbers = a.blank.numbers }

abbrev pub ghosts-put_by_two-C-Ledger : goal.ghosts-put_by_two-C-Ledger
ghosts-put_by_two-C-Ledger g a = record { name = a.blank.ledger; parts = a.blank.seats }
