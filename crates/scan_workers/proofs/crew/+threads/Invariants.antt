use Rattle.std.specs.Prelude.{length}
use Prim.Native.Nat.{◌+◌, ◌*◌}
use Rattle.scan_workers.proofs.crew.+threads.Given as goal

abbrev pub decreases-work_beside : goal.decreases-work_beside
decreases-work_beside g l = 4 * length l.claimers.now

abbrev pub decreases-work_beside_first : goal.decreases-work_beside_first
decreases-work_beside_first g l = 4 * length l.others.now + 2

abbrev pub decreases-work_beside_first-rest : goal.decreases-work_beside_first-rest
decreases-work_beside_first-rest g l = 4 * length l.others.now + 1
