use Rattle.std.proofs.lemmas.Result.{err_from_is_err_and}
use Rattle.grpc_frame.proofs.Outgoing.{then_flushed}
use Rattle.flight_calls.proofs.answer.write_answer.Goals as goal

pub returns-in_err-send_answer-clause-bytes : goal.returns-in_err-send_answer-clause-bytes
returns-in_err-send_answer-clause-bytes g c asked log new answered =
    let p = err_from_is_err_and c.from_residual.result c.from_residual.ensures.1 in
    rw (p.1, p.2) (c.in_err-send_answer.ensures.bytes asked log new answered)

pub returns-clause-bytes : goal.returns-clause-bytes
returns-clause-bytes g c asked log new answered =
    let sent = c.in_ok-send_answer.ensures.bytes asked log new answered in
    record { reply = sent.reply; right = sent.right; fits = sent.fits; sent = then_flushed _ _ _ _ _ sent.sent c.flush.ensures.bytes }
