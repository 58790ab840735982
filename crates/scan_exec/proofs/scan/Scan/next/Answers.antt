use Rattle.std.proofs.Common.{refl}
use Rattle.scan_exec.proofs.scan.Scan.next.Goals as goal

-- endless patience finds a batch or the end
pub returns-in-Working : goal.returns-in-Working
returns-in-Working c =
    let found = rw (c.in_ok-batch.was, c.in-Working.is) at c.turn.ensures in
    absurd (found.2.0 refl)
