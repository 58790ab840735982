use Rattle.std.proofs.Common.{◌≡◌, ◌≤◌, ℕ, None}
use Rattle.scan_base.specs.declared.value.Value.{Value}
use Rattle.arrays.specs.Validity.{where_valid}
use Rattle.batch_stats.specs.inside.Slots.{ends_with}
use Rattle.batch_stats.proofs.validity.first_valid.Given as goal

abbrev pub invariant-loop-place : goal.invariant-loop-place
invariant-loop-place l = record {
  low : l.from ≤ l.place;
  nulls : (value : ℕ → Value) → ends_with None (where_valid l.validity value) l.from l.to ≡ ends_with None (where_valid l.validity value) l.place l.to;
}
