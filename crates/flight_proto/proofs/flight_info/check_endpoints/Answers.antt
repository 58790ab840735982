use Rattle.std.proofs.Common.{rules, Ok}
use Rattle.flight_proto.proofs.flight_info.check_endpoints.Goals as goal

pub returns-in_default : goal.returns-in_default
returns-in_default c =
    let read = c.loop-field.invariant.2 (Ok tt) in
    search (rules, read)
