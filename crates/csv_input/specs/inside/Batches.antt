-- Inside: the next records, as a chunk and as a batch.
use Rattle.std.specs.Prelude.{◌≡◌, ◌≢◌, ℕ, List, [], ◌++◌, length, Option, None, Some}
use Rattle.arrow_types.specs.declared.schema.Field.{Field}
use Rattle.arrays.specs.Batch.{BatchAt, rows_of}
use Rattle.arrays.specs.TypedLayouts.{AreOfTypes}
use Rattle.csv_input.specs.Rows.{AreRows}
use Rattle.csv_input.specs.inside.Chunks.{ChunkAt, Holds}
use Rattle.csv_input.specs.inside.Cells.{AreColumnsIn}

-- the chunk is the next records, and has none only where none is left
pub record HasTaken (columns : List Field) (chunk : ChunkAt)
    (old new : List (List (List ℕ))) : Type 0 where
  pub taken : List (List (List ℕ))
  pub splits : old ≡ taken ++ new
  pub holds : Holds chunk taken
  pub wide : chunk.width ≡ length columns
  pub none : chunk.rows ≡ 0 → old ≡ []

-- a batch has the columns of the records
pub record IsBatchOf (chunk : ChunkAt) (columns : List Field) (batch : BatchAt) : Type 0 where
  pub rows : batch.rows ≡ chunk.rows
  pub made : AreColumnsIn chunk columns batch.columns (length columns)

-- a batch has the rows of the next records
pub record IsNextBatch (columns : List Field) (batch : BatchAt)
    (old new : List (List (List ℕ))) : Type 0 where
  pub taken : List (List (List ℕ))
  pub some : taken ≢ []
  pub splits : old ≡ taken ++ new
  pub rows : AreRows columns taken (rows_of batch)
  pub many : length batch.columns ≡ length columns
  pub typed : AreOfTypes columns batch.columns

-- the batch of the next records, or nothing where none is left
abbrev pub TakesBatch : List Field → Option BatchAt → List (List (List ℕ)) →
    List (List (List ℕ)) → Type 0
TakesBatch columns None old new = old ≡ []
TakesBatch columns (Some batch) old new = IsNextBatch columns batch old new
