use Rattle.std.proofs.Common.{◌+◌, ◌-◌, arith}
use Rattle.std.proofs.lemmas.List.FromFn.{length-map-range_with_len}
use Rattle.arrays.specs.Batch.{row_of}
use Rattle.typed_plan.specs.declared.plan.Aggregate.TheVariants.{Sum}
use Rattle.group_slots.proofs.RangeTallies.{tally_more, tally_none}
use Rattle.group_slots.proofs.row_span.RowSpan.sum_each.Goals as goal

pub loop-row-init : goal.loop-row-init
loop-row-init c =
    let s = c.args.self.now in
    tally_none (Sum c.args.column) s.batch.now.columns s.from (s.from - s.from) c.new-tally.result (omega arith) c.new-tally.ensures

pub with_row-tally-requires-clause-few : goal.with_row-tally-requires-clause-few
with_row-tally-requires-clause-few c =
    let s = c.args.self.now in
    omega (arith, c.loop-row.invariant.few, length-map-range_with_len (row_of s.batch.now.columns) s.from (c.loop-row.row - s.from), c.requires.few, c.loop-row-test.true)

pub loop-row-preserved : goal.loop-row-preserved
loop-row-preserved c =
    let s = c.args.self.now in
    let row = c.loop-row.row in
    tally_more (Sum c.args.column) s.batch.now.columns s.from (row - s.from) row (row + 1 - s.from) c.loop-row.tally c.with_row-tally.result (omega arith) (omega arith)
    c.loop-row.invariant c.with_row-tally.ensures.added c.with_row-tally.ensures.few c.with_row-tally.ensures.small
