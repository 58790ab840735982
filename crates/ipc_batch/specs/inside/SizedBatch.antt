-- Inside: the sizes that a batch keeps for writing.
use Rattle.std.specs.Prelude.{◌≡◌, ℕ, ◌^◌, ◌<◌, List, length, map}
use Rattle.arrays.specs.Batch.{BatchAt}
use Rattle.ipc_batch.specs.WrittenMessages.{batch_buffers_written, body_length}

-- the sizes of a batch: how many bytes each buffer has, and how many the body, which are few enough
pub record IsSized (batch : BatchAt) (lengths : List ℕ) (bytes : ℕ) : Type 0 where
  pub each_is : lengths ≡ map length (batch_buffers_written batch.columns)
  pub all_are : bytes ≡ body_length batch
  pub small : bytes < 2 ^ 31
