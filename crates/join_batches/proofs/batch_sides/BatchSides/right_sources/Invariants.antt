use Rattle.std.proofs.Common.{◌≡◌, ◌<◌, ℕ, map, take, get_or}
use Rattle.arrays.specs.Batch.{BatchAt}
use Rattle.join_batches.proofs.Sources.{of_number}
use Rattle.join_batches.proofs.batch_sides.BatchSides.right_sources.Given as goal

-- the columns so far, each as long as its batch
abbrev pub invariant-loop-batch : goal.invariant-loop-batch
invariant-loop-batch l = record {
  are : map (λ column. column.now) l.sources.items ≡ map (of_number l.number) (take l.batch-index l.self.rights.now);
  long : (i : ℕ) (other : BatchAt) → i < l.batch-index → (of_number l.number (get_or l.self.rights.now i other)).len ≡ (get_or l.self.rights.now i other).rows;
}
