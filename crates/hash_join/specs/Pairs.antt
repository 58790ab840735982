-- Which rows join, and the pairs of them in the order of nested loops.
use Rattle.std.specs.Prelude.{ℕ, ◌-◌, ◌==◌, Bool, if◌then◌else◌, List, [], length, map, drop}
use Rattle.std.specs.Prelude.{get_or, zip}
use Rattle.std.specs.List.{list_all, filter, flat_map, range_with_len}
use Rattle.scan_base.specs.declared.comparison.Comparison.TheVariants.{Equal}
use Rattle.scan_base.specs.declared.value.Value.{Value}
use Rattle.scan_base.specs.Comparison.{compared}
use Rattle.scan_base.specs.Predicate.{cell_in}
use Rattle.scan_base.specs.Truth.{keeps}
use Rattle.arrays.specs.Batch.{BatchAt, row_of}
use Rattle.hash_join.specs.declared.pair.Pair.{Pair}
use Rattle.hash_join.specs.declared.build.Probe.{Probe}

-- the right side: its batches in order, and the numbers of the columns that are its key
pub record BuildAt : Type 0 where
  pub batches : List BatchAt
  pub key : List ℕ

-- a row's values in these columns
abbrev pub key_values : List ℕ → List Value → List Value
key_values key row = map (cell_in row) key

-- whether each value of a key is equal to that of the other; a null is equal to nothing
abbrev pub keys_join : List Value → List Value → Bool
keys_join lefts rights =
    list_all (λ (p : Value × Value). keeps (compared Equal p.0 p.1)) (zip lefts rights)

-- the rows of batches in order, each by the number of its batch and by its own in it
abbrev pub places : List BatchAt → List (ℕ × ℕ)
places batches =
    flat_map (λ (p : ℕ × BatchAt). map (λ row. (p.0, row)) (range_with_len 0 p.1.rows))
    (zip (range_with_len 0 (length batches)) batches)

-- the row at a place
abbrev pub row_at : List BatchAt → ℕ × ℕ → List Value
row_at batches place =
    row_of (get_or batches place.0 (record { columns = []; rows = 0 })).columns place.1

-- the pairs of a left row with each right row from a number on that joins it, in the order of the
-- right rows
abbrev pub pairs_of : BuildAt → BatchAt → List ℕ → ℕ → ℕ → List Pair
pairs_of build left key row from =
    map (λ (place : ℕ × ℕ). record { left = row; batch = place.0; row = place.1 })
    (filter (λ place. keys_join (key_values key (row_of left.columns row))
    (key_values build.key (row_at build.batches place))) (drop from (places build.batches)))

-- the pairs that a probe has still to give: those of its left row from a right row on, and then
-- those of the later left rows
abbrev pub pairs_ahead : BuildAt → BatchAt → List ℕ → Probe → List Pair
pairs_ahead build left key probe =
    flat_map (λ row. pairs_of build left key row (if row == probe.left then probe.from else 0))
    (range_with_len probe.left (left.rows - probe.left))
