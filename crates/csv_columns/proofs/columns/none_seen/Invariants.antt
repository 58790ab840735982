use Rattle.std.proofs.Common.{◌≡◌, [], length}
use Rattle.csv_columns.specs.inside.Tests.{HaveSeen}
use Rattle.csv_columns.proofs.columns.none_seen.Given as goal

abbrev pub invariant-loop-number : goal.invariant-loop-number
invariant-loop-number l = record {
  many : length l.all.items ≡ l._number;
  seen : HaveSeen l.all.items [];
}
