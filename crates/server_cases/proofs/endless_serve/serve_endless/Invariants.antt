use Rattle.server_cases.proofs.endless_serve.serve_endless.Given as goal

-- the cell that was just opened
abbrev pub ghosts-serve_opened : goal.ghosts-serve_opened
ghosts-serve_opened g a = record { book = a.opened }
