use Rattle.std.proofs.Common.{ap, arith}
use Rattle.std.proofs.lemmas.Result.{err_from_is_err_and}
use Rattle.fetch_stream.proofs.Answering.{fewer_turns, gave, turns}
use Rattle.grpc_frame.proofs.Outgoing.{failed_then}
use Rattle.flight_calls.proofs.Streaming.{some_left, stream_begins, parcel_goes_on, parcel_fails, stream_ends, stream_refused, stream_stops, stream_waits}
use Rattle.flight_calls.proofs.answer.send_stream.Goals as goal

pub loop-parcel-init : goal.loop-parcel-init
loop-parcel-init g c = stream_begins c.streams_answer.ensures _ _

pub loop-parcel-preserved-in-Ok-Given : goal.loop-parcel-preserved-in-Ok-Given
loop-parcel-preserved-in-Ok-Given g c =
    let gives = rw c.in-Ok-Given.field-0-is at c.in-Ok-Given.ensures.turns in
    parcel_goes_on c.streams_answer.ensures _ _ _ _ _ _ _ c.loop-parcel.invariant gives c.in_ok-send_given-in-Ok-Given.ensures

pub loop-parcel-preserved : goal.loop-parcel-preserved
loop-parcel-preserved g c =
    let waits = rw c.in-Ok-Working.field-0-is at c.in-Ok-Working.ensures.turns in
    stream_waits c.streams_answer.ensures _ _ _ _ _ _ c.loop-parcel.invariant waits.1 c.in_ok-look-in-Ok-Working.ensures

pub loop-parcel-smaller-in-Ok-Given : goal.loop-parcel-smaller-in-Ok-Given
loop-parcel-smaller-in-Ok-Given g c =
    let gives = rw c.in-Ok-Given.field-0-is at c.in-Ok-Given.ensures.turns in
    let fewer = fewer_turns _ _ _ (gave _ _ _ gives) in
    omega (arith, fewer)

pub loop-parcel-smaller : goal.loop-parcel-smaller
loop-parcel-smaller g c =
    let waits = rw c.in-Ok-Working.field-0-is at c.in-Ok-Working.ensures.turns in
    let same = ap turns waits.1 in
    let some = some_left c.loop-parcel.looks c.patience_of.result c.patience_of.ensures waits.2 in
    omega (arith, same, some)

pub returns-in_err-send_given-in-Ok-Given-clause-bytes : goal.returns-in_err-send_given-in-Ok-Given-clause-bytes
returns-in_err-send_given-in-Ok-Given-clause-bytes g c =
    let p = err_from_is_err_and c.from_residual.result c.from_residual.ensures.1 in
    let gives = rw c.in-Ok-Given.field-0-is at c.in-Ok-Given.ensures.turns in
    rw (p.1, p.2) (parcel_fails c.streams_answer.ensures _ _ _ _ _ _ _ _ c.loop-parcel.invariant gives c.in_err-send_given-in-Ok-Given.ensures)

pub returns-in_err-look-in-Ok-Working-clause-bytes : goal.returns-in_err-look-in-Ok-Working-clause-bytes
returns-in_err-look-in-Ok-Working-clause-bytes g c =
    let p = err_from_is_err_and c.from_residual-in_err-look-in-Ok-Working.result c.from_residual-in_err-look-in-Ok-Working.ensures.1 in
    let waits = rw c.in-Ok-Working.field-0-is at c.in-Ok-Working.ensures.turns in
    rw (p.1, p.2) (stream_stops c.streams_answer.ensures _ _ _ _ _ _ c.loop-parcel.invariant c.in_err-look-in-Ok-Working.ensures)

pub returns-in_err-send_given-in-Ok-Given-clause-counted : goal.returns-in_err-send_given-in-Ok-Given-clause-counted
returns-in_err-send_given-in-Ok-Given-clause-counted g c =
    let p = err_from_is_err_and c.from_residual.result c.from_residual.ensures.1 in
    let failed = c.in_err-send_given-in-Ok-Given.ensures in
    rw (p.1, p.2) (failed.0, failed_then _ _ _ c.loop-parcel.invariant.sent.quiet failed.1.failed)

pub returns-in_err-look-in-Ok-Working-clause-counted : goal.returns-in_err-look-in-Ok-Working-clause-counted
returns-in_err-look-in-Ok-Working-clause-counted g c =
    let p = err_from_is_err_and c.from_residual-in_err-look-in-Ok-Working.result c.from_residual-in_err-look-in-Ok-Working.ensures.1 in
    let failed = c.in_err-look-in-Ok-Working.ensures in
    rw (p.1, p.2) (failed.0, failed_then _ _ _ c.loop-parcel.invariant.sent.quiet failed.1.failed)

pub returns-in-Ok-End-clause-bytes : goal.returns-in-Ok-End-clause-bytes
returns-in-Ok-End-clause-bytes g c =
    let gives = rw c.in-Ok-End.field-0-is at c.in-Ok-End.ensures.turns in
    stream_ends c.streams_answer.ensures _ _ _ _ _ _ _ c.loop-parcel.invariant gives c.send_status.ensures.bytes

pub returns-in-Err-clause-bytes : goal.returns-in-Err-clause-bytes
returns-in-Err-clause-bytes g c =
    stream_refused c.streams_answer.ensures _ _ _ _ _ _ _ _ c.loop-parcel.invariant c.in-Err.ensures.turns c.send_status-in-Err.ensures.bytes
