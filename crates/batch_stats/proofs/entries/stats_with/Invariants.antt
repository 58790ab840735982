use Rattle.std.proofs.Common.{◌≡◌, ◌≤◌, ◌+◌, ℕ}
use Rattle.arrays.specs.Column.{values_of}
use Rattle.arrays.specs.Layout.{layout_slot}
use Rattle.batch_stats.specs.HeldStats.{ends_held, AreSlots}
use Rattle.batch_stats.specs.Stats.{ends_of}
use Rattle.batch_stats.specs.inside.Slots.{ends_with}
use Rattle.batch_stats.proofs.Standing.{Stands}
use Rattle.batch_stats.proofs.Coded.{coded}
use Rattle.batch_stats.proofs.entries.stats_with.Given as goal

abbrev pub invariant-loop-place : goal.invariant-loop-place
invariant-loop-place g l = record {
  low : l.column.first ≤ l.place;
  ends : ends_with (ends_held l.column l.stats) (layout_slot l.column.layout) l.place (l.column.first + l.column.len) ≡ ends_of (values_of l.column);
  slots : AreSlots l.column l.stats;
  known : (code : ℕ) → g.S.CodeSet.has l.known code → Stands (ends_held l.column l.stats) (coded l.cells code);
}
