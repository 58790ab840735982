use Rattle.std.proofs.Common.{◌≡◌, ◌<◌, ◌++◌, ℕ, List, length}
use Rattle.csv_input.specs.inside.Chunks.{Holds}
use Rattle.csv_input.proofs.record_chunks.next_chunk.Given as goal

-- the records that were taken stand in the chunk
abbrev pub invariant-loop-fields : goal.invariant-loop-fields
invariant-loop-fields l = record {
  taken : List (List (List ℕ));
  splits : l.initial.records ≡ taken ++ l.records;
  holds : Holds l.chunk taken;
  wide : l.chunk.width ≡ length l.columns;
  room : l.chunk.rows < 65536;
}

abbrev pub decreases-loop-fields : goal.decreases-loop-fields
decreases-loop-fields l = length l.records
