use Rattle.std.proofs.Common.{◌≡◌, rules}
use Rattle.std.proofs.lemmas.Result.{err_from_is_err_and}
use Rattle.grpc_frame.proofs.Coming.{not_next, not_taken}
use Rattle.grpc_frame.proofs.inbox.Inbox.next_from.Goals as goal

pub returns-in_err-take_in-clause-arrives : goal.returns-in_err-take_in-clause-arrives
returns-in_err-take_in-clause-arrives g c =
    let p = err_from_is_err_and c.from_residual-in_err-take_in.result c.from_residual-in_err-take_in.ensures.1 in
    let same : c.next.new.self ≡ c.loop-record.self = search rules in
    rw (p.1, p.2) (not_taken _ _ _ _ c.next.new.self c.take_in.new.self c.in_err-take_in.field-0.0 (rw same c.loop-record.invariant.came) (search rules) c.in_err-take_in.ensures.came)

pub returns-in_err-record-clause-arrives : goal.returns-in_err-record-clause-arrives
returns-in_err-record-clause-arrives g c =
    let p = err_from_is_err_and c.from_residual.result c.from_residual.ensures.1 in
    rw (p.1, p.2) (not_next _ _ _ _ c.next.new.self c.in_err-record.field-0.0 c.loop-record.invariant.came c.in_err-record.ensures.front c.in_err-record.ensures.profile)
