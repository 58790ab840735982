use Rattle.worker_cases.proofs.cells.many_threads.two_look_while_one_puts.Given as goal

-- the cell that was just opened
abbrev pub ghosts-looked_at_by_two-C-CellName : goal.ghosts-looked_at_by_two-C-CellName
ghosts-looked_at_by_two-C-CellName g a = record { book = a.blank.book; asks = a.blank.asks; numbers = a.blank.numbers }

abbrev pub ghosts-looked_at_by_two-C-Ledger : goal.ghosts-looked_at_by_two-C-Ledger
ghosts-looked_at_by_two-C-Ledger g a = record { name = a.blank.ledger; parts = a.blank.seats }
