-- Inside: the rows that pairs of places stand for.
use Rattle.std.specs.Prelude.{◌<◌, ℕ, List, [], ◌++◌, length, get_or}
use Rattle.scan_base.specs.declared.value.Value.{Value}
use Rattle.arrays.specs.Batch.{BatchAt, row_of}
use Rattle.hash_join.specs.Pairs.{row_at}
use Rattle.hash_join.specs.declared.pair.Pair.{Pair}

-- the batch of a number
abbrev pub batch_numbered : List BatchAt → ℕ → BatchAt
batch_numbered batches number = get_or batches number (record { columns = []; rows = 0 })

-- the joined row that a pair stands for
abbrev pub pair_row : List BatchAt → BatchAt → Pair → List Value
pair_row rights left pair = row_of left.columns pair.left ++ row_at rights (pair.batch, pair.row)

-- a pair's places are there
pub record IsPair (rights : List BatchAt) (left : BatchAt) (pair : Pair) : Type 0 where
  pub left_row : pair.left < left.rows
  pub batch : pair.batch < length rights
  pub right_row : pair.row < (batch_numbered rights pair.batch).rows
