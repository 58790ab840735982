use Rattle.commands.proofs.serve.serve_port.Given as goal

-- the cell that was just opened
abbrev pub ghosts-serve_cell-C-CellName : goal.ghosts-serve_cell-C-CellName
ghosts-serve_cell-C-CellName g a = record { book = a.blank.book; asks = a.blank.asks; numbers = a.blank.numbers }

abbrev pub ghosts-serve_cell-C-Ledger : goal.ghosts-serve_cell-C-Ledger
ghosts-serve_cell-C-Ledger g a = record { name = a.blank.ledger; parts = a.blank.seats }
