use Rattle.std.proofs.Common.{refl, rules, []}
use Rattle.flight_core.specs.Seats.{seat_of, alone}
use Rattle.flight_calls.proofs.Serving.{refused_first, serves_by}
use Rattle.flight_calls.proofs.server.serve_alone.Goals as goal

pub returns-in-Err : goal.returns-in-Err
returns-in-Err g c =
    let refused = refused_first alone _ _ _ c.in-Err.fault _ _ _ _ refl refl (search rules) c.refuse-ended.ensures.refuses refl refl refl refl in
    (seat_of [] 0, serves_by alone _ _ _ _ _ _ _ _ c.new-sender.result c.refuse-ended.new.sender _ _ _ _ refused (search rules) (search rules) (search rules) (search rules))
