use Rattle.flight_core.specs.Asked.{put}
use Rattle.flight_calls.proofs.Keeping.{put_kept, put_lost}
use Rattle.flight_calls.proofs.kept_versions.answer_put.Goals as goal

pub returns-in-Accepted-clause-reply : goal.returns-in-Accepted-clause-reply
returns-in-Accepted-clause-reply g c payloads gives =
    put_kept g.B.Backend.moves c.args.keep _ _ _ payloads c.in-Accepted.payloads c.in-Accepted.version (c.in-Accepted.ensures.step (put payloads) gives) c.keep_newest.ensures

pub returns-in_default : goal.returns-in_default
returns-in_default g c = record {
  reply = λ payloads gives. put_lost g.B.Backend.moves c.args.keep _ _ payloads c.step.result c.in_default.not-Accepted (c.step.ensures.accepted payloads gives) (c.step.ensures.step (put payloads) gives);
  short = c.step.ensures.fits;
}
