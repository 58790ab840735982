use Rattle.std.proofs.Common.{rules, refl}
use Rattle.flight_core.specs.Arriving.{said_so_far}
use Rattle.flight_calls.proofs.request.Request.at.Goals as goal

pub returns-in-Some-DoPut : goal.returns-in-Some-DoPut
unfolding said_so_far
returns-in-Some-DoPut c = (search rules, rw c.new.ensures refl)
