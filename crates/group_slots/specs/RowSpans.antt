-- Rows of a batch that stand next to each other, all of one group.
use Rattle.std.specs.Prelude.{◌≡◌, ◌≤◌, ℕ, ◌-◌, List, length, map, replicate}
use Rattle.std.specs.List.{range_with_len}
use Rattle.arrays.specs.Batch.{row_of}
use Rattle.table_versions.specs.Table.{Row}
use Rattle.typed_plan.specs.declared.plan.Aggregate.{Aggregate}
use Rattle.group_slots.specs.declared.row_span.RowSpan.{RowSpan}
use Rattle.group_slots.specs.declared.tally.Tally.{Tally}
use Rattle.group_slots.specs.Counting.{IsSmall}
use Rattle.group_slots.specs.Tallies.{tally_of}

-- the rows are there
pub record IsSpan (span : RowSpan) : Type 0 where
  pub ordered : span.from ≤ span.to
  pub within : span.to ≤ span.batch.now.rows

-- their numbers in the batch
abbrev pub span_rows : RowSpan → List ℕ
span_rows span = range_with_len span.from (span.to - span.from)

-- the group of each
abbrev pub span_groups : RowSpan → List ℕ
span_groups span = replicate (span.to - span.from) 0

-- the rows, in order
abbrev pub rows_of_span : RowSpan → List Row
rows_of_span span = map (row_of span.batch.now.columns) (span_rows span)

-- the tally is that of the rows, and counts no more than there are
pub record IsTallyOf (item : Aggregate) (rows : List Row) (tally : Tally) : Type 0 where
  pub is : tally ≡ tally_of item rows
  pub few : tally.count ≤ length rows
  pub small : IsSmall tally
