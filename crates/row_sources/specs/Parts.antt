-- The rows of a plan's places, in their parts.
use Rattle.std.specs.Prelude.{ℕ, ◌-◌, List, [], ◌∷◌, length, map, drop, zip}
use Rattle.std.specs.List.{flat_map, range_with_len}
use Rattle.arrays.specs.Batch.{BatchAt, rows_of}
use Rattle.table_versions.specs.StoredTables.{TableAt, table_of}
use Rattle.table_versions.specs.Table.{Row}
use Rattle.typed_plan.specs.JoinedRows.{rows_between}

-- all rows of the further places
abbrev pub further_rows : List TableAt → List (List Row)
further_rows tables = map (λ (table : TableAt). (table_of table).rows) (drop 1 tables)

-- the batches of the first place
abbrev pub first_batches : List TableAt → List BatchAt
first_batches [] = []
first_batches (table ∷ tables) = table.batches

-- the rows `from` up to, not with, `to` of batches that stand in order, by batch
abbrev pub parts : ℕ → ℕ → List BatchAt → List (List Row)
parts from to [] = []
parts from to (batch ∷ batches) =
    rows_between from to (rows_of batch) ∷ parts (from - batch.rows) (to - batch.rows) batches

-- the parts with rows `from` up to, not with, `to` of batches, each with the number of its batch,
-- counted from 0
abbrev pub numbered_parts : ℕ → ℕ → List BatchAt → List (ℕ × List Row)
numbered_parts from to batches = zip (range_with_len 0 (length batches)) (parts from to batches)

-- the rows of such parts, each with the number of its batch
abbrev pub numbered_rows : List (ℕ × List Row) → List (ℕ × Row)
numbered_rows parts = flat_map (λ (part : ℕ × List Row). map (λ row. (part.0, row)) part.1) parts
