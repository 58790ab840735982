use Rattle.std.proofs.Common.{refl, []}
use Rattle.std.proofs.lemmas.Result.{err_from_is_err_and}
use Rattle.client_calls.proofs.Taking.{taken_none, taken_more, more_quiet}
use Rattle.client_calls.proofs.Streams.{stream_stops, stream_answers, stream_refused, stream_ends}
use Rattle.client_calls.proofs.answer.read_stream.Goals as goal

pub loop-stream-init : goal.loop-stream-init
loop-stream-init g c = record { taken = ([], taken_none _ _ c.requires.place, c.new-stream.ensures.came); count = refl }

pub next_arrival-requires-clause-place : goal.next_arrival-requires-clause-place
next_arrival-requires-clause-place g c = c.loop-stream.invariant.taken.1.fronts.place

pub returns-in_err-message-clause-answer : goal.returns-in_err-message-clause-answer
returns-in_err-message-clause-answer g c =
    let i = c.loop-stream.invariant in
    let p = err_from_is_err_and c.from_residual.result c.from_residual.ensures.1 in
    rw (p.1, p.2) (stream_stops _ _ _ _ _ _ _ _ c.next_arrival.new.inbox _ i.taken.1 i.count c.loop-stream.stream i.taken.2 c.in_err-message.field-0.0 c.in_err-message.ensures.arrives)

pub returns-in-Err-clause-answer : goal.returns-in-Err-clause-answer
returns-in-Err-clause-answer g c =
    let i = c.loop-stream.invariant in
    let arrived = rw c.in-Message.is at c.in_ok-message.ensures.arrives in
    stream_refused _ _ _ _ _ _ _ _ _ _ i.taken.1 i.count c.loop-stream.stream i.taken.2 _ c.in-Err.fault _ arrived c.in-Err.ensures.first c.in-Err.ensures.exact c.refusal_of.ensures

pub loop-stream-preserved-in_default : goal.loop-stream-preserved-in_default
loop-stream-preserved-in_default g c =
    let i = c.loop-stream.invariant in
    let arrived = rw c.in-Message.is at c.in_ok-message.ensures.arrives in
    record { taken = (_, taken_more _ _ _ _ _ _ _ _ _ _ i.taken.1 i.count _ arrived, c.in_default.ensures.came _ i.taken.2); count = more_quiet _ _ _ _ _ _ _ _ _ _ i.taken.1 i.count _ arrived }

pub loop-stream-preserved : goal.loop-stream-preserved
loop-stream-preserved g c =
    let i = c.loop-stream.invariant in
    let arrived = rw c.in-Message.is at c.in_ok-message.ensures.arrives in
    record { taken = (_, taken_more _ _ _ _ _ _ _ _ _ _ i.taken.1 i.count _ arrived, c.in_default.ensures.came _ i.taken.2); count = more_quiet _ _ _ _ _ _ _ _ _ _ i.taken.1 i.count _ arrived }

pub returns-in-End-Ok-clause-answer : goal.returns-in-End-Ok-clause-answer
returns-in-End-Ok-clause-answer g c =
    let i = c.loop-stream.invariant in
    let arrived = rw (c.in-End-Ok.is, c.in-End-Ok.field-0-is) at c.in_ok-message.ensures.arrives in
    stream_ends _ _ _ _ _ _ _ _ _ _ i.taken.1 i.count c.loop-stream.stream i.taken.2 _ arrived c.end.ensures

pub returns-in-End-Err-clause-answer : goal.returns-in-End-Err-clause-answer
returns-in-End-Err-clause-answer g c =
    let i = c.loop-stream.invariant in
    let arrived = rw (c.in-End-Err.is, c.in-End-Err.field-0-is, ← c.in-End-Err.fault-is) at c.in_ok-message.ensures.arrives in
    stream_answers _ _ _ _ _ _ _ _ _ _ i.taken.1 i.count c.loop-stream.stream i.taken.2 _ arrived
