use Rattle.std.proofs.Common.{refl}
use Rattle.flight_core.specs.Arriving.{said_so_far}
use Rattle.flight_core.proofs.put.read_put.Goals as goal

pub loop-payload-init : goal.loop-payload-init
unfolding said_so_far
loop-payload-init c = rw c.new-reader.ensures refl
