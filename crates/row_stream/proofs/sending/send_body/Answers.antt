use Rattle.std.proofs.Common.{refl, rules, take_all}
use Rattle.std.proofs.lemmas.Result.{err_from_is_err_and}
use Rattle.flatbuf.specs.Block.{padded}
use Rattle.row_stream.proofs.Parts.{none_sent, more_sent, more_not_sent}
use Rattle.row_stream.proofs.sending.send_body.Goals as goal

pub loop-buffer-init : goal.loop-buffer-init
loop-buffer-init g c = record { sent = none_sent _ _; count = refl }

pub loop-buffer-preserved : goal.loop-buffer-preserved
loop-buffer-preserved g c = record {
  sent = more_sent padded _ _ _ _ _ _ c.args.buffers.now c.loop-buffer.buffer-index c.buffer-item.result c.loop-buffer-test.true c.buffer-item.is c.loop-buffer.invariant.sent c.in_ok-send_buffer.ensures.bytes;
  count = search rules;
}

pub returns-in_err-send_buffer-clause-bytes : goal.returns-in_err-send_buffer-clause-bytes
returns-in_err-send_buffer-clause-bytes g c =
    let p = err_from_is_err_and c.from_residual.result c.from_residual.ensures.1 in
    rw p.1 (more_not_sent padded _ _ _ _ _ _ c.args.buffers.now c.loop-buffer.buffer-index c.buffer-item.result c.loop-buffer-test.true c.buffer-item.is c.loop-buffer.invariant.sent c.in_err-send_buffer.ensures.bytes)

pub returns-clause-bytes : goal.returns-clause-bytes
returns-clause-bytes g c = rw (take_all c.loop-buffer.buffer-index c.args.buffers.now (search rules)) at c.loop-buffer.invariant.sent
