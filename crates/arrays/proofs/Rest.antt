-- The values of a column from one slot on: what a loop over slots has still to do.
use Rattle.std.proofs.Common.{◌≡◌, ◌<◌, ◌+◌, ◌-◌, ℕ, suc, List, [], ◌∷◌, length, map, refl, arith}
use Rattle.std.specs.List.{range_with_len}
use Rattle.std.proofs.lemmas.List.{length-append}
use Rattle.scan_base.specs.declared.value.Value.{Value}
use Rattle.arrays.specs.Column.{ColumnAt, slot_of}
use Rattle.arrays.specs.WrittenSlots.{text_bytes, texts_joined}

abbrev pub rest_of : ColumnAt → ℕ → List Value
rest_of column place = map (slot_of column) (range_with_len place (column.len - place))

pub rest_more : (column : ColumnAt) (place : ℕ) → place < column.len → rest_of column place ≡ slot_of column place ∷ rest_of column (place + 1)
rest_more column place low = let e : column.len - place ≡ suc (column.len - (place + 1)) = omega arith in rw e refl

pub joined_more : (column : ColumnAt) (place : ℕ) → place < column.len →
    length (texts_joined (rest_of column place)) ≡ length (text_bytes (slot_of column place)) + length (texts_joined (rest_of column (place + 1)))
joined_more column place low = rw (rest_more column place low) (length-append (text_bytes (slot_of column place)) (texts_joined (rest_of column (place + 1))))
