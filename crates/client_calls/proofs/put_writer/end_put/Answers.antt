use Rattle.std.proofs.Common.{ap, sym, subst, ◌∙◌}
use Rattle.std.proofs.lemmas.Result.{err_from_is_err_and}
use Rattle.grpc_frame.specs.Ends.{CanFail}
use Rattle.client_calls.specs.Answers.{Incoming}
use Rattle.client_calls.specs.Commands.{ReadsCount}
use Rattle.client_calls.proofs.Calling.{called, not_called, call_reads, call_does_not_read, call_gives_none}
use Rattle.client_calls.proofs.Puts.{not_stopped, was_open}
use Rattle.client_calls.proofs.put_writer.end_put.Goals as goal

pub returns-in_err-check : goal.returns-in_err-check
returns-in_err-check g c messages begun putting = absurd (not_stopped messages begun _ _ putting c.in_err-check.ensures)

pub returns-in_err-end_call : goal.returns-in_err-end_call
returns-in_err-end_call g c messages begun putting =
    let p = err_from_is_err_and c.from_residual-in_err-end_call.result c.from_residual-in_err-end_call.ensures.1 in
    rw (p.1, p.2) (not_called _ _ _ _ _ _ (was_open messages begun _ putting) (c.in_err-end_call.ensures.ended messages begun putting))

pub returns-in_err-message : goal.returns-in_err-message
returns-in_err-message g c messages begun putting =
    let p = err_from_is_err_and c.from_residual-in_err-message.result c.from_residual-in_err-message.ensures.1 in
    let made = called _ _ _ _ _ _ _ (c.in_ok-end_call.ensures.ended messages begun putting) c.in_err-message.ensures in
    rw (p.1, p.2) (call_gives_none ReadsCount _ _ _ _ _ made)

pub returns-in_err-read_count : goal.returns-in_err-read_count
returns-in_err-read_count g c messages begun putting =
    let p = err_from_is_err_and c.from_residual-in_err-read_count.result c.from_residual-in_err-read_count.ensures.1 in
    let made = called _ _ _ _ _ _ _ (c.in_ok-end_call.ensures.ended messages begun putting) c.in_ok-message.ensures in
    rw (p.1, p.2) (call_does_not_read ReadsCount _ _ _ _ _ _ made (rw c.as_slice.ensures at c.in_err-read_count.ensures))

pub returns : goal.returns
returns g c messages begun putting =
    let made = called _ _ _ _ _ _ _ (c.in_ok-end_call.ensures.ended messages begun putting) c.in_ok-message.ensures in
    call_reads ReadsCount _ _ _ _ _ _ made (rw c.as_slice.ensures at c.in_ok-read_count.ensures)

pub receive_one-requires-clause-reads : goal.receive_one-requires-clause-reads
receive_one-requires-clause-reads g c = subst (λ (i : Incoming). CanFail i.failed) (sym c.in_ok-end_call.ensures.unread) c.requires.reads

pub receive_one-requires-clause-is_open : goal.receive_one-requires-clause-is_open
receive_one-requires-clause-is_open g c =
    let was = c.in_ok-check.ensures in
    (was.0, ap (λ (i : Incoming). i.left) c.in_ok-end_call.ensures.unread ∙ was.1)
