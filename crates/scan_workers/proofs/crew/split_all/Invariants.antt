use Rattle.std.proofs.Common.{◌≡◌, All}
use Rattle.scan_workers.proofs.crew.split_all.Given as goal

abbrev pub invariant-loop : goal.invariant-loop
invariant-loop l = (l.me.table_id ≡ l.word.shared.table_id) × All (λ claimer. claimer.table_id ≡ l.word.shared.table_id) l.claimers.items
