use Rattle.scan_workers.proofs.crew.in_order.Given as goal

abbrev pub ghosts-in_order_of : goal.ghosts-in_order_of
ghosts-in_order_of g a = record { right = g.W.Work.answers a.work.now }
