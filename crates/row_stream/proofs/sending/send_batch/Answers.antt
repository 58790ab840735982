use Rattle.std.proofs.Common.{◌++◌, ◌∙◌, refl, subst, ℕ, arith}
use Rattle.std.proofs.lemmas.Result.{err_from_is_err_and}
use Rattle.row_stream.specs.Stream.{WritesCounted, unfinished}
use Rattle.row_stream.specs.inside.Cuts.{IsCut}
use Rattle.row_stream.proofs.Causes.{uncut_cause, uncut_counted}
use Rattle.row_stream.proofs.Cuts.{sent_none, sent_all, sent_cut, sent_no_more, cut_not_sent, told_uncut}
use Rattle.row_stream.proofs.sending.send_batch.Goals as goal

pub returns-in-Err-clause-bytes : goal.returns-in-Err-clause-bytes
returns-in-Err-clause-bytes g c =
    let before = c.loop-at.invariant in
    let wrote = subst (λ (failed : ℕ). WritesCounted (g.W.Output.contents c.loop-at.writer) (g.W.Output.contents c.break_off.new.writer) (c.loop-at.outbox ++ unfinished) failed (g.W.Output.failures c.break_off.new.writer)) before.count c.break_off.ensures in
    told_uncut c.in-Err.fault c.args.dresser.now c.args.batch.now _ _ _ _ _ _ c.in-Err.ensures
    (sent_no_more c.args.dresser.now c.args.batch.now c.loop-at.at _ _ _ _ _ _ _ before.within before.sent wrote)

pub returns-in-Err-clause-counted : goal.returns-in-Err-clause-counted
returns-in-Err-clause-counted g c =
    let wrote = subst (λ (failed : ℕ). WritesCounted (g.W.Output.contents c.loop-at.writer) (g.W.Output.contents c.break_off.new.writer) (c.loop-at.outbox ++ unfinished) failed (g.W.Output.failures c.break_off.new.writer)) c.loop-at.invariant.count c.break_off.ensures in
    uncut_counted c.args.dresser.now c.args.batch.now c.in-Err.fault _ _ _ _ _ c.in-Err.ensures wrote

pub returns-in-Err-clause-cause : goal.returns-in-Err-clause-cause
returns-in-Err-clause-cause g c = uncut_cause c.args.dresser.now c.args.batch.now c.in-Err.fault c.in-Err.ensures

pub returns-in_err-send_parcel-clause-bytes : goal.returns-in_err-send_parcel-clause-bytes
returns-in_err-send_parcel-clause-bytes g c =
    let p = err_from_is_err_and c.from_residual.result c.from_residual.ensures.1 in
    let batch = c.args.batch.now in
    rw (p.1, p.2, c.in_err-send_parcel.ensures.fault) (cut_not_sent c.args.dresser.now batch c.loop-at.at c.loop-at.most c.in-Ok.cut _ _ _ _ _ _ c.in-Ok.ensures c.loop-at.invariant.sent c.in_err-send_parcel.ensures.bytes)

pub loop-at-init : goal.loop-at-init
loop-at-init g c = record {
  within = omega arith;
  some = omega arith;
  few = omega arith;
  sent = sent_none c.args.dresser.now c.args.batch.now _ _;
  count = refl;
}

pub loop-at-preserved : goal.loop-at-preserved
loop-at-preserved g c =
    let batch = c.args.batch.now in
    let before = c.loop-at.invariant in
    let is : IsCut c.args.dresser.now batch c.loop-at.at c.loop-at.most c.in-Ok.cut = c.in-Ok.ensures in
    record {
      within = is.within;
      some = omega (arith, is.forth);
      few = omega arith;
      sent = sent_cut c.args.dresser.now batch c.loop-at.at c.loop-at.most c.in-Ok.cut _ _ _ _ _ _ is before.sent c.in_ok-send_parcel.ensures.bytes;
      count = c.in_ok-send_parcel.ensures.counted ∙ before.count;
    }

pub returns-clause-bytes : goal.returns-clause-bytes
returns-clause-bytes g c =
    let before = c.loop-at.invariant in
    sent_all c.args.dresser.now c.args.batch.now c.loop-at.at _ _ _ _ (omega (arith, before.within, c.loop-at-test.false, c.rows-rows.ensures)) before.sent
