-- Keys of rows of a batch.
use Rattle.std.specs.Prelude.{ℕ, List, map, get_or}
use Rattle.scan_base.specs.declared.value.Value.{Value}
use Rattle.scan_base.specs.declared.value.Value.TheVariants.{Null}
use Rattle.scan_base.specs.Predicate.{cell_in}
use Rattle.arrays.specs.Batch.{BatchAt, row_of}
use Rattle.coded_keys.specs.declared.rows.KeyRows.{KeyRows}

-- the values of the key in the row at a place of the list
abbrev pub key_at_place : KeyRows → ℕ → List Value
key_at_place keys place =
    map (cell_in (row_of keys.batch.now.columns (get_or keys.rows.now place 0))) keys.columns.now

-- the value at a place of the key in a row of a batch
abbrev pub part_in : BatchAt → List ℕ → ℕ → ℕ → Value
part_in batch columns row part = get_or (map (cell_in (row_of batch.columns row)) columns) part Null
