use Rattle.std.proofs.Common.{◌≡◌, ◌++◌, ℕ, List, length}
use Rattle.csv_columns.specs.inside.Tests.{HaveSeen}
use Rattle.csv_columns.proofs.columns.seen_in.Given as goal

abbrev pub invariant-loop-fields : goal.invariant-loop-fields
invariant-loop-fields l = record {
  many : length l.all.items ≡ l.width;
  read : List (List (List ℕ));
  splits : l.initial.records ≡ read ++ l.records;
  seen : HaveSeen l.all.items read;
}

abbrev pub decreases-loop-fields : goal.decreases-loop-fields
decreases-loop-fields l = length l.records
