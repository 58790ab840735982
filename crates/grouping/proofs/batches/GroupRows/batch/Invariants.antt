use Rattle.std.proofs.Common.{◌≡◌, ◌<◌, ℕ, ◌-◌, length, get_or}
use Rattle.arrays.specs.Column.{ColumnAt}
use Rattle.grouping.specs.inside.Finishing.{groups_in, IsItemColumn}
use Rattle.grouping.proofs.batches.GroupRows.batch.Given as goal

abbrev pub invariant-loop-item : goal.invariant-loop-item
invariant-loop-item l = record {
  long : length l.columns.items ≡ l.item;
  each : (i : ℕ) (d : ColumnAt) → i < l.item → IsItemColumn (groups_in l.self) i l.from (l.to - l.from) (get_or l.columns.items i d);
}
