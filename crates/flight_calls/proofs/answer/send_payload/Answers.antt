use Rattle.std.proofs.Common.{rules}
use Rattle.std.proofs.lemmas.Result.{err_from_is_err_and}
use Rattle.flight_calls.proofs.Pieces.{front_sent, head_failed, front_failed, part_sent, part_failed, parts_sent}
use Rattle.flight_calls.proofs.answer.send_payload.Goals as goal

pub returns-in_err-send_message_head : goal.returns-in_err-send_message_head
returns-in_err-send_message_head g c =
    let p = err_from_is_err_and c.from_residual.result c.from_residual.ensures.1 in
    let failed = c.in_err-send_message_head.ensures in
    rw (p.1, p.2) (failed.0, head_failed _ _ c.args.payload.now _ c.len.ensures.len failed.1)

pub returns-in_err-send_part : goal.returns-in_err-send_part
returns-in_err-send_part g c =
    let p = err_from_is_err_and c.from_residual-in_err-send_part.result c.from_residual-in_err-send_part.ensures.1 in
    let failed = c.in_err-send_part.ensures in
    rw (p.1, p.2) (failed.0, front_failed c.args.payload.now c.pieces.result.0.now c.pieces.result.1.now c.len.result c.len.ensures.len c.pieces.ensures _ _ _ c.in_ok-send_message_head.ensures failed.1)

pub loop-part-init : goal.loop-part-init
loop-part-init g c =
    front_sent c.args.payload.now c.pieces.result.0.now c.pieces.result.1.now c.len.result c.len.ensures.len c.pieces.ensures _ _ _ c.in_ok-send_message_head.ensures c.in_ok-send_part.ensures

pub loop-part-preserved : goal.loop-part-preserved
loop-part-preserved g c =
    part_sent c.args.payload.now _ c.loop-part.part-index _ _ _ c.loop-part.invariant c.part-item.result (search rules) c.part-item.is (rw c.as_slice.ensures at c.in_ok-send_part-2.ensures)

pub returns-in_err-send_part-2 : goal.returns-in_err-send_part-2
returns-in_err-send_part-2 g c =
    let p = err_from_is_err_and c.from_residual-in_err-send_part-2.result c.from_residual-in_err-send_part-2.ensures.1 in
    let failed = rw c.as_slice.ensures at c.in_err-send_part-2.ensures in
    rw (p.1, p.2) (failed.0, part_failed c.args.payload.now _ c.loop-part.part-index _ _ _ c.loop-part.invariant c.part-item.result (search rules) c.part-item.is failed.1)

pub returns : goal.returns
returns g c = parts_sent c.args.payload.now c.pieces.result.1.now c.loop-part.part-index _ _ (search rules) c.loop-part.invariant
