use Rattle.worker_cases.proofs.cells.one_thread.refusals.Given as goal

-- the cell that was just opened
abbrev pub ghosts-refuses-C-CellName : goal.ghosts-refuses-C-CellName
ghosts-refuses-C-CellName g a = record { book = a.blank.book; asks = a.blank.asks; numbers = a.blank.numbers }

abbrev pub ghosts-refuses-C-Ledger : goal.ghosts-refuses-C-Ledger
ghosts-refuses-C-Ledger g a = record { name = a.blank.ledger; parts = a.blank.seats }
