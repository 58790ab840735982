use Rattle.std.proofs.Common.{◌≡◌}
use Rattle.scan_workers.proofs.pull.Pull.look.Given as goal

abbrev pub invariant-loop : goal.invariant-loop
invariant-loop g l = (l.self.exchange ≡ l.initial.self.exchange) × (l.self.given ≡ l.initial.self.given) × g.W.Work.ready l.self.exchange.now.work.now
