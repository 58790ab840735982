use Rattle.std.proofs.Common.{◌≡◌}
use Rattle.scan_workers.proofs.exchange.Exchange.answer_all.Given as goal

abbrev pub invariant-loop : goal.invariant-loop
invariant-loop g l = l.me.table_id ≡ l.self.word.shared.table_id
