use Rattle.std.proofs.Common.{◌≡◌, ◌≤◌, ◌-◌, map}
use Rattle.std.specs.List.{filter, range_with_len}
use Rattle.scan_base.specs.View.{pred_of}
use Rattle.kernels.specs.KeptRows.{all_keep}
use Rattle.kernels.proofs.kept_rows.select.Given as goal

abbrev pub invariant-loop-at : goal.invariant-loop-at
invariant-loop-at l = record {
  low : l.from ≤ l.at;
  high : l.at ≤ l.to;
  rows : l.selection ≡ filter (all_keep l.columns.columns.now l.columns.read.now (map pred_of l.predicates)) (range_with_len l.from (l.at - l.from));
}

abbrev pub decreases-loop-at : goal.decreases-loop-at
decreases-loop-at l = l.to - l.at
