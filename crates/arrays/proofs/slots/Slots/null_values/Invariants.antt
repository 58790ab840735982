use Rattle.std.proofs.Common.{◌≡◌, ◌+◌, ◌≤◌, length}
use Rattle.arrays.proofs.Rest.{rest_of}
use Rattle.std.specs.List.{filter}
use Rattle.scan_base.specs.Value.{is_null}
use Rattle.arrays.specs.Nulls.{null_count}
use Rattle.arrays.proofs.slots.Slots.null_values.Given as goal

abbrev pub invariant-loop-place : goal.invariant-loop-place
invariant-loop-place l = record {
  few : l.count ≤ l.place;
  all : l.count + length (filter is_null (rest_of (record { layout = l.self; first = l.first; len = l.len }) l.place)) ≡ null_count (record { layout = l.self; first = l.first; len = l.len });
}
