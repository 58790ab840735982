use Rattle.commands.proofs.crew.serve_by.Given as goal

-- the number of the worker's seat
abbrev pub ghosts-serve_seat : goal.ghosts-serve_seat
ghosts-serve_seat g a = record { number = a.scanner.number }
