use Rattle.std.proofs.Common.{◌≡◌, [], ◌∷◌, rules}
use Rattle.flight_proto.specs.Expiry.{floor_bytes}
use Rattle.flight_core.proofs.Expiring.{floor_fits}
use Rattle.flight_info.proofs.Fitting.{none_fit, one_fits}
use Rattle.flight_core.proofs.payloads.floor_answer.Goals as goal

pub returns-clause-fits : goal.returns-clause-fits
returns-clause-fits c =
    let payload = c.in_ok-payload_of.field-0 in
    let pushed : c.push.new.self.items ≡ payload ∷ [] = rw c.new-payloads.ensures.items at c.in_ok-push.ensures.items in
    rw pushed (one_fits [] payload none_fit c.in_ok-payload_of.ensures.fits)

pub payload_of-requires : goal.payload_of-requires
payload_of-requires c =
    let whole : c.put_floor.new.out.items ≡ floor_bytes c.args.floor = search rules in
    rw whole (floor_fits c.args.floor)
