use Rattle.std.proofs.Common.{◌≡◌, false, map, take}
use Rattle.std.specs.Arc.{arc_value}
use Rattle.std.specs.List.{list_any}
use Rattle.scan_base.specs.Value.{is_null}
use Rattle.arrays.specs.inside.Runs.{runs_values}
use Rattle.arrays.proofs.runs.Runs.may_have_nulls.Given as goal

abbrev pub invariant-loop-run : goal.invariant-loop-run
invariant-loop-run l = list_any is_null (runs_values (map arc_value (take l.run-index l.run-items))) ≡ false
