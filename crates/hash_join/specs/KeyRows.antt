-- Inside: a row by its key, as the code keeps it.
use Rattle.std.specs.Prelude.{◌<◌, ℕ, List, IsTrue, length, nat_lt}
use Rattle.std.specs.List.{list_all}
use Rattle.scan_base.specs.declared.value.Value.{Value}
use Rattle.arrays.specs.Batch.{row_of}
use Rattle.hash_join.specs.declared.key_row.KeyRow.{KeyRow}
use Rattle.hash_join.specs.Pairs.{key_values}

-- the values of the key in a row of the same batch
abbrev pub key_beside : KeyRow → ℕ → List Value
key_beside at row = key_values at.key.now (row_of at.batch.now.columns row)

-- the values of the key
abbrev pub row_key : KeyRow → List Value
row_key at = key_beside at at.row

-- the row is there, and the batch has the columns of the key
pub record IsKeyRow (at : KeyRow) : Type 0 where
  pub row : at.row < at.batch.now.rows
  pub columns : IsTrue (list_all (λ column. nat_lt column (length at.batch.now.columns)) at.key.now)
