use Rattle.std.proofs.Common.{◌≡◌, [], ◌∷◌, pos, min, rules}
use Rattle.flight_proto.specs.PutResult.{rows_put_bytes}
use Rattle.scan_base.specs.Limits.{most_rows}
use Rattle.flight_core.proofs.Replies.{answer_fits}
use Rattle.flight_info.proofs.Fitting.{none_fit, one_fits}
use Rattle.flight_core.proofs.payloads.put_answer.Goals as goal

pub returns-clause-fits : goal.returns-clause-fits
returns-clause-fits c =
    let payload = c.in_ok-payload_of.field-0 in
    let pushed : c.push.new.self.items ≡ payload ∷ [] = rw c.new-payloads.ensures.items at c.in_ok-push.ensures.items in
    rw pushed (one_fits [] payload none_fit c.in_ok-payload_of.ensures.fits)

pub payload_of-requires : goal.payload_of-requires
payload_of-requires c =
    let whole : c.put_rows_put.new.out.items ≡ rows_put_bytes (pos (min c.args.rows most_rows)) = search rules in
    answer_fits (pos (min c.args.rows most_rows)) c.put_rows_put.new.out.items whole
