use Rattle.std.proofs.Common.{Ok, rules}
use Rattle.grpc_frame.proofs.Outgoing.{writes_all}
use Rattle.command_ends.proofs.printing.print_listening.Goals as goal

pub returns-clause-bytes : goal.returns-clause-bytes
returns-clause-bytes g c =
    let sent = rw c.in_ok-written.was at c.write_listening-written.ensures.bytes in
    writes_all {A = Unit {0}} (Ok tt) _ _ _ _ _ sent (search rules) c.write_listening-written.ensures.written (search rules) (search rules)
