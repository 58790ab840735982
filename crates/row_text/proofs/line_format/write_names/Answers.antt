use Rattle.std.proofs.Common.{refl, rules, take_all}
use Rattle.std.proofs.lemmas.Result.{err_from_is_err_and}
use Rattle.grpc_frame.proofs.Sending.{flushed, begun_alone}
use Rattle.row_text.specs.Lines.{name_line}
use Rattle.row_text.proofs.Parts.{none_sent, more_sent, more_not_sent}
use Rattle.row_text.proofs.line_format.write_names.Goals as goal

pub loop-name-init : goal.loop-name-init
loop-name-init g c = record { sent = none_sent _ _; count = refl }

pub loop-name-preserved : goal.loop-name-preserved
loop-name-preserved g c = record {
  sent = more_sent name_line _ _ _ _ _ _ c.args.names.now c.loop-name.name-index c.name-item.result c.loop-name-test.true c.name-item.is c.loop-name.invariant.sent (rw c.as_str.ensures at c.in_ok-send_name_line.ensures.bytes);
  count = search rules;
}

pub returns-in_err-send_name_line-clause-bytes : goal.returns-in_err-send_name_line-clause-bytes
returns-in_err-send_name_line-clause-bytes g c =
    let p = err_from_is_err_and c.from_residual.result c.from_residual.ensures.1 in
    rw p.1 (begun_alone _ _ _ _ _ c.new-outbox.ensures
    (more_not_sent name_line _ _ _ _ _ _ c.args.names.now c.loop-name.name-index c.name-item.result c.loop-name-test.true c.name-item.is c.loop-name.invariant.sent (rw c.as_str.ensures at c.in_err-send_name_line.ensures.bytes)))

pub returns-clause-bytes : goal.returns-clause-bytes
returns-clause-bytes g c =
    flushed _ _ _ _ _ _ _ c.new-outbox.ensures
    (rw (take_all c.loop-name.name-index c.args.names.now (search rules)) at c.loop-name.invariant.sent) c.flush.ensures.bytes
