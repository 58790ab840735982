use Rattle.std.proofs.Common.{◌-◌, map}
use Rattle.std.specs.List.{range_with_len}
use Rattle.arrays.specs.Batch.{row_of}
use Rattle.typed_plan.specs.declared.plan.Aggregate.TheVariants.{Sum}
use Rattle.group_slots.specs.RowSpans.{IsTallyOf}
use Rattle.group_slots.proofs.row_span.RowSpan.sum_each.Given as goal

abbrev pub invariant-loop-row : goal.invariant-loop-row
invariant-loop-row l = IsTallyOf (Sum l.column) (map (row_of l.self.batch.now.columns) (range_with_len l.self.from (l.row - l.self.from))) l.tally
