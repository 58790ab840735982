use Rattle.std.proofs.Common.{◌≡◌, rules}
use Rattle.scan_base.specs.declared.fault.Fault.TheVariants.{OutOfMemory}
use Rattle.ipc_batch.proofs.Glances.{first_there}
use Rattle.ipc_batch.proofs.reader.first_glance.Goals as goal

pub returns-then-eq : goal.returns-then-eq
returns-then-eq c =
    let same : c.in-Err.fault ≡ OutOfMemory = (let a = c.if-eq.ensures in let b = c.if-eq.true in let d = c.eq.ensures in search (rules, a, b, d)) in
    first_there _ _ _ c.begin.result c.begin.ensures.first (rw same at c.in-Err.is)
