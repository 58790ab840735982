use Rattle.std.proofs.Common.{None, Some}
use Rattle.std.proofs.lemmas.Result.{err_from_is_err_and}
use Rattle.flight_client.proofs.Arrivals.{came_batch, came_none, stays}
use Rattle.flight_client.proofs.Typed.{typed_on, typed_more}
use Rattle.flight_client.proofs.stream.Stream.message.Goals as goal

pub invariant_of-self : goal.invariant_of-self
invariant_of-self c = rw c.in_err-batch.ensures.exact.1 c.self.invariant

pub invariant_of-self-in-Continue-branch-3 : goal.invariant_of-self-in-Continue-branch-3
invariant_of-self-in-Continue-branch-3 c =
    typed_more c.self.inside.reader c.message.new.self c.args.payload.now c.self.inside.batches.items c.push.new.self.items c.in-Some.batch
    (rw c.in-Some.is at c.in_ok-batch.ensures.exact) (rw c.in-Some.is at c.in_ok-batch.ensures.columns) c.in_ok-push.ensures.items c.self.invariant

pub invariant_of-self-in_err-push : goal.invariant_of-self-in_err-push
invariant_of-self-in_err-push c =
    rw c.in_err-push.ensures.items
    (typed_on c.self.inside.reader c.args.payload.now (record { state = c.message.new.self; batch = Some c.in-Some.batch }) c.self.inside.batches.items
    (rw c.in-Some.is at c.in_ok-batch.ensures.exact) c.self.invariant)

pub invariant_of-self-in_default : goal.invariant_of-self-in_default
invariant_of-self-in_default c =
    typed_on c.self.inside.reader c.args.payload.now (record { state = c.message.new.self; batch = None }) c.self.inside.batches.items
    (rw c.in_default.is at c.in_ok-batch.ensures.exact) c.self.invariant

pub returns-in_err-push-clause-kept : goal.returns-in_err-push-clause-kept
returns-in_err-push-clause-kept c =
    let p = err_from_is_err_and c.from_residual-in_err-push.result c.from_residual-in_err-push.ensures.1 in
    rw p.1 (stays c.args.self.now c.self.inside.reader c.message.new.self c.self.inside.batches.items c.push.new.self.items c.self.inside.end c.args.payload.now c.in-Some.batch c.self.view_is (rw c.in-Some.is at c.in_ok-batch.ensures.exact) c.in_err-push.ensures.items)

pub returns-in_ok-push-clause-came : goal.returns-in_ok-push-clause-came
returns-in_ok-push-clause-came c payloads came =
    came_batch payloads c.args.payload.now c.args.self.now c.self.inside.reader c.message.new.self c.self.inside.batches.items c.push.new.self.items c.self.inside.end c.in-Some.batch
    c.self.view_is (rw c.in-Some.is at c.in_ok-batch.ensures.exact) c.in_ok-push.ensures.items came

pub returns-in_default-clause-came : goal.returns-in_default-clause-came
returns-in_default-clause-came c payloads came =
    came_none payloads c.args.payload.now c.args.self.now c.self.inside.reader c.message.new.self c.self.inside.batches.items c.self.inside.end
    c.self.view_is (rw c.in_default.is at c.in_ok-batch.ensures.exact) came
