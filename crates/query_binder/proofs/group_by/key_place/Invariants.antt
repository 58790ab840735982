use Rattle.std.proofs.Common.{◌≡◌, ◌+◌, ◌==◌, drop}
use Rattle.std.specs.List.{list_any}
use Rattle.query_binder.specs.PlannedTree.{key_place}
use Rattle.query_binder.proofs.group_by.key_place.Given as goal

abbrev pub invariant-loop-place : goal.invariant-loop-place
invariant-loop-place l = record {
  among : list_any (λ key. key == l.number) l.numbers ≡ list_any (λ key. key == l.number) (drop l.place l.numbers);
  at : key_place l.numbers l.number ≡ l.place + key_place (drop l.place l.numbers) l.number;
}
