use Rattle.std.proofs.Common.{◌≡◌, [], ◌∷◌}
use Rattle.flight_info.proofs.Fitting.{none_fit, one_fits}
use Rattle.flight_info.proofs.info.only_payload.Goals as goal

pub returns-clause-fits : goal.returns-clause-fits
returns-clause-fits c =
    let payload = c.in_ok-payload_of.field-0 in
    let pushed : c.push.new.self.items ≡ payload ∷ [] = rw c.new-payloads.ensures.items at c.in_ok-push.ensures.items in
    rw pushed (one_fits [] payload none_fit c.in_ok-payload_of.ensures.fits)
