use Rattle.std.proofs.Common.{◌≡◌, ◌≤◌, ◌-◌, true, map}
use Rattle.std.specs.List.{range_with_len}
use Rattle.arrays.specs.Batch.{row_of}
use Rattle.typed_plan.specs.declared.plan.Aggregate.TheVariants.{Sum}
use Rattle.group_slots.specs.Pieces.{piece_tally}
use Rattle.group_slots.specs.RowSpans.{IsTallyOf}
use Rattle.group_slots.proofs.partial_sums.sum_of_span.Given as goal

abbrev pub invariant-loop-row : goal.invariant-loop-row
invariant-loop-row g l = record {
  few : l.sum.count ≤ l.row - l.span.from;
  held : l.holds ≡ true → IsTallyOf (Sum l.column) (map (row_of l.span.batch.now.columns) (range_with_len l.span.from (l.row - l.span.from))) (piece_tally l.sum);
}
