use Rattle.std.proofs.Common.{◌∙◌, ap}
use Rattle.version_log.specs.Log.{floor_of}
use Rattle.flight_core.proofs.plain.Plain.floor.Goals as goal

pub returns : goal.returns
returns c = c.self.invariant.floor ∙ ap floor_of c.self.view_is
