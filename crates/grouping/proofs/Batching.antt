-- The rows of a batch, by the cells of its columns.
use Rattle.std.proofs.Common.{◌≡◌, ◌<◌, ℕ, zero, suc, ◌+◌, List, [], ◌∷◌, length, map, get_or, refl, sym, ap, ◌∙◌, arith}
use Rattle.std.specs.List.{range_with_len}
use Rattle.scan_base.specs.declared.value.Value.{Value}
use Rattle.arrays.specs.Batch.{row_of, rows_of}
use Rattle.arrays.specs.Column.{ColumnAt, slot_of}

pub ranged_any : {X Y : Type 0} (xs : List X) (h : ℕ → Y) (f : X → Y) (a : ℕ) → ((i : ℕ) (d : X) → i < length xs → h (a + i) ≡ f (get_or xs i d)) →
    map h (range_with_len a (length xs)) ≡ map f xs
ranged_any [] h f a same = refl
ranged_any (x ∷ xs) h f a same =
    let first : h a ≡ f x = ap h (omega arith) ∙ same 0 x (omega arith) in
    ap (λ y. y ∷ map h (range_with_len (a + 1) (length xs))) first
    ∙ ap (λ ys. f x ∷ ys) (ranged_any xs h f (a + 1) (λ i d low. let moved : (a + 1) + i ≡ a + suc i = omega arith in ap h moved ∙ same (suc i) d (omega arith)))

pub map_alike : {Y : Type 0} (f g : ℕ → Y) (a n : ℕ) → ((j : ℕ) → j < n → f (a + j) ≡ g (a + j)) → map f (range_with_len a n) ≡ map g (range_with_len a n)
map_alike f g a zero same = refl
map_alike f g a (suc n) same =
    let first : f a ≡ g a = ap f (omega arith) ∙ same 0 (omega arith) ∙ ap g (omega arith) in
    ap (λ y. y ∷ map f (range_with_len (a + 1) n)) first
    ∙ ap (λ ys. g a ∷ ys) (map_alike f g (a + 1) n (λ j low. let moved : (a + 1) + j ≡ a + suc j = omega arith in ap f moved ∙ same (suc j) (omega arith) ∙ ap g (sym moved)))

-- where each column has the cells of an item, the rows are those of the items
pub rows_of_cells : (columns : List ColumnAt) (rows : ℕ) (cell : ℕ → ℕ → Value) →
    ((item : ℕ) (d : ColumnAt) (row : ℕ) → item < length columns → row < rows → slot_of (get_or columns item d) row ≡ cell row item) →
    rows_of (record { columns = columns; rows = rows }) ≡ map (λ row. map (cell row) (range_with_len 0 (length columns))) (range_with_len 0 rows)
rows_of_cells columns rows cell same =
    map_alike (row_of columns) (λ row. map (cell row) (range_with_len 0 (length columns))) 0 rows
    (λ row low. let moved : 0 + row ≡ row = omega arith in
    ap (row_of columns) moved
    ∙ sym (ranged_any columns (cell row) (λ (column : ColumnAt). slot_of column row) 0
    (λ item d there. let shifted : 0 + item ≡ item = omega arith in ap (cell row) shifted ∙ sym (same item d row there low)))
    ∙ ap (λ row. map (cell row) (range_with_len 0 (length columns))) (sym moved))
