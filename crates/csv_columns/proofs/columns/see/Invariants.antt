use Rattle.std.proofs.Common.{◌≡◌, ◌≤◌, ◌<◌, ℕ, List, [], ◌∷◌, ◌++◌, length, get_or}
use Rattle.csv.specs.Records.{fields_of}
use Rattle.csv_columns.specs.declared.type_candidates.TypeCandidates.{TypeCandidates}
use Rattle.csv_columns.specs.FittingColumns.{column_of}
use Rattle.csv_columns.specs.inside.Tests.{HasSeen, HaveSeen}
use Rattle.csv_columns.proofs.columns.see.Given as goal

abbrev pub invariant-loop-number : goal.invariant-loop-number
invariant-loop-number l = record {
  many : length l.all.items ≡ length l.initial.all.items;
  done : (records : List (List (List ℕ))) → HaveSeen l.initial.all.items records
      → (k : ℕ) (d : TypeCandidates) → k < l.number → HasSeen (get_or l.all.items k d) (column_of k (records ++ fields_of l.fields ∷ []));
  ahead : (k : ℕ) (d : TypeCandidates) → l.number ≤ k → get_or l.all.items k d ≡ get_or l.initial.all.items k d;
}
