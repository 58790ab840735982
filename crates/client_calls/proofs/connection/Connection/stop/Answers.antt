use Rattle.client_calls.proofs.Puts.{has_stopped}
use Rattle.client_calls.proofs.connection.Connection.stop.Goals as goal

pub returns : goal.returns
returns g c = has_stopped _ _ _ _ _ _ c.args.fault c.self.view_is c.requires
