-- The cells of rows, by the numbers of their columns.
use Rattle.std.proofs.Common.{◌≡◌, ◌<◌, ℕ, zero, suc, ◌+◌, true, List, [], ◌∷◌, ◌++◌, length, map, get_or, take, nat_lt, slice_get, slice_index, option_map, unwrap_or, refl, sym, ap, ◌∙◌, arith, append_assoc}
use Rattle.std.specs.List.{range_with_len}
use Rattle.std.proofs.lemmas.Bool.{ltb-true, and_parts}
use Rattle.std.proofs.lemmas.Option.{slice_get-map, slice_get-get_or, slice_get_read, unwrap_or-slice_get}
use Rattle.std.proofs.lemmas.List.FromFn.{fill_by_all, get_or-range_with_len}
use Rattle.std.proofs.lemmas.List.{take_more}
use Rattle.arrays.specs.Column.{ColumnAt}
use Rattle.scan_base.specs.declared.value.Value.{Value}
use Rattle.scan_base.specs.declared.value.Value.TheVariants.{Null}
use Rattle.scan_base.specs.Predicate.{cell_in}
use Rattle.table_versions.specs.Table.{Row}
use Rattle.shared_pages.proofs.Lists.{all_at}
use Rattle.batch_skipping.specs.ChosenColumns.{are_within, listed, columns_at}

-- the cell of a row that is made number by number
pub cell-map : {X : Type 0} (f : X → Value) (xs : List X) (i : ℕ) (d : X) → i < length xs →
    cell_in (map f xs) i ≡ f (get_or xs i d)
cell-map f xs i d h = ap (λ there. unwrap_or there Null)
    (slice_get-map f xs i ∙ ap (option_map f) (slice_get-get_or xs i d h))

-- a number that is within
pub within_at : (width : ℕ) (numbers : List ℕ) (i : ℕ) → are_within width numbers ≡ true → i < length numbers →
    get_or numbers i 0 < width
within_at width numbers i all h =
    ltb-true (get_or numbers i 0) width
    (all_at (λ number. nat_lt number width) numbers (get_or numbers i 0) i all (slice_get-get_or numbers i 0 h))

-- all cells in order
pub map-cells : (row : Row) → map (cell_in row) (range_with_len 0 (length row)) ≡ row
map-cells row = sym (fill_by_all (cell_in row) row (length row) Null refl (λ k h. sym (unwrap_or-slice_get row k Null)))

-- the places of numbers counted from 0
pub places : (width : ℕ) (numbers : List ℕ) → are_within width numbers ≡ true →
    map (slice_index (range_with_len 0 width)) numbers ≡ numbers
places width [] h = refl
places width (number ∷ numbers) h =
    let parts = and_parts (nat_lt number width) (are_within width numbers) h in
    let first : slice_index (range_with_len 0 width) number ≡ number =
    get_or-range_with_len 0 width number 0 (ltb-true number width parts.0) ∙ omega arith in
    rw (first, places width numbers parts.1) refl

-- one number more
pub range_more : (a n j : ℕ) → a + n ≡ j → range_with_len a (n + 1) ≡ range_with_len a n ++ j ∷ []
range_more a zero j e = let same : a ≡ j = omega (arith, e) in ap (λ number. number ∷ []) same
range_more a (suc n) j e =
    let later : suc n + 1 ≡ suc (n + 1) = omega arith in
    rw later (ap (λ rest. a ∷ rest) (range_more (a + 1) n j (omega (arith, e))))

-- the columns of some numbers and of others
pub columns_at-append : (some more : List ℕ) (columns : List ColumnAt) →
    columns_at (some ++ more) columns ≡ columns_at some columns ++ columns_at more columns
columns_at-append [] more columns = refl
columns_at-append (number ∷ some) more columns =
    ap (λ rest. listed (slice_get columns number) ++ rest) (columns_at-append some more columns)
    ∙ sym (append_assoc (listed (slice_get columns number)) (columns_at some columns) (columns_at more columns))

-- the columns of one number more
pub columns_more : (numbers : List ℕ) (columns : List ColumnAt) (i : ℕ) (column : ColumnAt) → i < length numbers →
    are_within (length columns) numbers ≡ true → column ≡ get_or columns (get_or numbers i 0) column →
    columns_at (take (i + 1) numbers) columns ≡ columns_at (take i numbers) columns ++ column ∷ []
columns_more numbers columns i column h all is =
    let there = slice_get_read columns (length columns) (get_or numbers i 0) column refl
    (within_at (length columns) numbers i all h) is in
    ap (λ some. columns_at some columns) (take_more numbers i 0 h)
    ∙ columns_at-append (take i numbers) (get_or numbers i 0 ∷ []) columns
    ∙ ap (λ found. columns_at (take i numbers) columns ++ (listed found ++ [])) there
