use Rattle.std.proofs.Common.{◌≡◌, ◌≤◌, ◌++◌, ◌^◌, ℕ, List, length}
use Rattle.csv_input.specs.Rows.{AreRight}
use Rattle.csv_input.proofs.wrong_records.first_wrong.Given as goal

-- the records that were read are right
abbrev pub invariant-loop-fields : goal.invariant-loop-fields
invariant-loop-fields l = record {
  read : List (List (List ℕ));
  splits : l.initial.records ≡ read ++ l.records;
  count : l.before ≡ length read;
  right : AreRight l.columns read;
  few : l.before ≤ 2 ^ 63;
}

abbrev pub decreases-loop-fields : goal.decreases-loop-fields
decreases-loop-fields l = length l.records
