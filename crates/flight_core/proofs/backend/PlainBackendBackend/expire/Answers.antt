use Rattle.flight_core.proofs.Lone.{expires_alone}
use Rattle.flight_core.proofs.backend.PlainBackendBackend.expire.Goals as goal

pub returns : goal.returns
returns c =
    rw (← c.self.view_is) (expires_alone c.expire.result c.self.inside.plain c.expire.new.self c.self.inside.looks c.self.inside.asks c.raise.new.self c.args.version c.raise.ensures c.expire.ensures)
