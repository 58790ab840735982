-- What a slice of a column or of a batch holds.
use Rattle.std.proofs.Common.{◌≡◌, ◌≤◌, ℕ, zero, suc, ◌+◌, ◌-◌, List, [], ◌∷◌, map, take, drop, refl, arith, ap, ◌∙◌}
use Rattle.std.specs.List.{range_with_len}
use Rattle.std.proofs.lemmas.List.{drop-map, take-map}
use Rattle.arrays.specs.Column.{ColumnAt, slot_of, cut, ColumnSlicesKeepValues}
use Rattle.arrays.specs.Batch.{row_of, BatchSlicesKeepRows}

-- numbers from a later one on
take_range : (a n count : ℕ) → count ≤ n → take count (range_with_len a n) ≡ range_with_len a count
take_range a n zero le = refl
take_range a zero (suc count) le = absurd (omega arith)
take_range a (suc n) (suc count) le = ap (λ (xs : List ℕ). a ∷ xs) (take_range (a + 1) n count (omega arith))

drop_range : (a n from : ℕ) → from ≤ n → drop from (range_with_len a n) ≡ range_with_len (a + from) (n - from)
drop_range a n zero le = let e : a + 0 ≡ a = omega arith in let f : n - 0 ≡ n = omega arith in rw (e, f) refl
drop_range a zero (suc from) le = absurd (omega arith)
drop_range a (suc n) (suc from) le =
    let e : a + 1 + from ≡ a + suc from = omega arith in
    let f : n - from ≡ suc n - suc from = omega arith in
    drop_range (a + 1) n from (omega arith) ∙ rw (e, f) refl

-- a function of the numbers from `first` on is one of those after it
pub map_shifted : {X : Type 0} (f g : ℕ → X) (first : ℕ) → ((j : ℕ) → f j ≡ g (first + j)) → (a n : ℕ) → map f (range_with_len a n) ≡ map g (range_with_len (first + a) n)
map_shifted f g first same a zero = refl
map_shifted {X = X} f g first same a (suc n) =
    let e : first + (a + 1) ≡ first + a + 1 = omega arith in
    let ih = map_shifted f g first same (a + 1) n in
    rw (same a, ih, e) refl

-- what a function gives from one number up to another
map_cut : {X : Type 0} (f g : ℕ → X) (from to n : ℕ) → from ≤ to → to ≤ n → ((j : ℕ) → f j ≡ g (from + j)) →
    map f (range_with_len 0 (to - from)) ≡ take (to - from) (drop from (map g (range_with_len 0 n)))
map_cut f g from to n low high same =
    let e : from + 0 ≡ from = omega arith in
    let i : 0 + from ≡ from = omega arith in
    rw (drop-map g from (range_with_len 0 n), drop_range 0 n from (omega arith), take-map g (to - from) (range_with_len (0 + from) (n - from)), take_range (0 + from) (n - from) (to - from) (omega arith), i)
    (map_shifted f g from same 0 (to - from) ∙ ap (λ (a : ℕ). map g (range_with_len a (to - from))) e)

-- slot j of a slice
slot_cut : (column : ColumnAt) (from to j : ℕ) → slot_of (cut column from to) j ≡ slot_of column (from + j)
slot_cut column from to j = let e : column.first + from + j ≡ column.first + (from + j) = omega arith in rw e refl

pub columns_keep : ColumnSlicesKeepValues
columns_keep column from to low high = map_cut (slot_of (cut column from to)) (slot_of column) from to column.len low high (slot_cut column from to)

-- row j of a slice
row_cut : (columns : List ColumnAt) (from to j : ℕ) → row_of (map (λ (column : ColumnAt). cut column from to) columns) j ≡ row_of columns (from + j)
row_cut [] from to j = refl
row_cut (column ∷ more) from to j = rw (row_cut more from to j, slot_cut column from to j) refl

pub batches_keep : BatchSlicesKeepRows
batches_keep batch from to low high = map_cut (row_of (map (λ (column : ColumnAt). cut column from to) batch.columns)) (row_of batch.columns) from to batch.rows low high (row_cut batch.columns from to)
