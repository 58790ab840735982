use Rattle.std.proofs.Common.{refl, sym}
use Rattle.shared_calls.proofs.Sharing.{expired_so}
use Rattle.shared_calls.proofs.backend.SharedBackendBackend.expire.Goals as goal

pub returns : goal.returns
returns g c =
    expired_so c.expire.result _ _ _ _ c.args.version c.expire.ensures.expiry c.expire.ensures.begins c.expire.ensures.enters.0 c.expire.ensures.asks (sym c.self.view_is) refl
