use Rattle.std.proofs.Common.{refl}
use Rattle.version_cell.proofs.seat_rest.Rest.exact.Goals as goal

pub returns : goal.returns
returns c = rw (← c.self.view_is) refl
