use Rattle.std.proofs.Common.{◌≡◌, ◌-◌, map, take}
use Rattle.arrays.specs.Batch.{AreLong}
use Rattle.arrays.specs.Column.{ColumnAt, cut}
use Rattle.arrays.proofs.batch.slices.Given as goal

abbrev pub invariant-loop-column : goal.invariant-loop-column
invariant-loop-column l = record {
  cut : l.cuts.items ≡ map (λ (column : ColumnAt). cut column l.from l.to) (take l.column-index l.columns);
  long : AreLong (l.to - l.from) l.cuts.items;
}
