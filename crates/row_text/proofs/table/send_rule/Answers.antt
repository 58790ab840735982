use Rattle.std.proofs.Common.{get_or, codes, rules, take_all}
use Rattle.std.specs.List.{flat_map}
use Rattle.std.proofs.lemmas.List.{get_or_default}
use Rattle.std.proofs.lemmas.Result.{err_from_is_err_and}
use Rattle.grpc_frame.proofs.Sending.{head_not_sent, sent_behind}
use Rattle.row_text.proofs.Parts.{more_sent, more_not_sent}
use Rattle.row_text.specs.Tables.{rule_cell}
use Rattle.row_text.proofs.table.send_rule.Goals as goal

pub returns-in_err-send_rule_cell-clause-bytes : goal.returns-in_err-send_rule_cell-clause-bytes
returns-in_err-send_rule_cell-clause-bytes g c =
    let p = err_from_is_err_and c.from_residual.result c.from_residual.ensures.1 in
    let widths = c.args.widths.now in
    let i = c.loop-width.width-index in
    let x = get_or widths i 0 in
    rw p.1
    (head_not_sent _ _ _ _ (flat_map rule_cell widths) (codes "|\n")
    (more_not_sent rule_cell _ _ _ _ _ _ widths i x c.loop-width-test.true (get_or_default widths i 0 x c.loop-width-test.true) c.loop-width.invariant.sent c.in_err-send_rule_cell.ensures.bytes))

pub loop-width-preserved : goal.loop-width-preserved
loop-width-preserved g c =
    let widths = c.args.widths.now in
    let i = c.loop-width.width-index in
    let x = get_or widths i 0 in
    record {
      sent = more_sent rule_cell _ _ _ _ _ _ widths i x c.loop-width-test.true (get_or_default widths i 0 x c.loop-width-test.true) c.loop-width.invariant.sent c.in_ok-send_rule_cell.ensures.bytes;
      count = search rules;
    }

pub returns-clause-bytes : goal.returns-clause-bytes
returns-clause-bytes g c =
    let widths = c.args.widths.now in
    let all = rw (take_all c.loop-width.width-index widths (search rules)) at c.loop-width.invariant.sent in
    sent_behind _ _ _ _ _ _ _ (flat_map rule_cell widths) (codes "|\n") all c.send_part.ensures.bytes
