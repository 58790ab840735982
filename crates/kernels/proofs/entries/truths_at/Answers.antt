use Rattle.std.proofs.Common.{◌<◌, length, ap, ◌∙◌, arith}
use Rattle.scan_base.specs.Value.{value_of}
use Rattle.scan_base.specs.View.{pred_of}
use Rattle.scan_base.specs.declared.value.ValueRef.TheVariants.{Null as NullRef}
use Rattle.kernels.proofs.EntryRows.{entries_more, value_read}
use Rattle.kernels.proofs.entries.truths_at.Goals as goal

pub loop-index-preserved : goal.loop-index-preserved
loop-index-preserved c =
    let values = c.args.dictionary.now in
    let low : c.loop-index.index < length values = omega (arith, c.loop-index-test.true, c.len-count.ensures.count) in
    rw c.in_ok-push.ensures.items
    (entries_more (pred_of c.args.predicate.now) values c.loop-index.truths.items c.loop-index.index (value_of c.unwrap_or.result) c.truth_at.result low c.loop-index.invariant
    (ap value_of c.unwrap_or.ensures ∙ value_read value_of c.get.result NullRef values c.loop-index.index low c.get.ensures) c.truth_at.ensures)
