-- Batches of the columns of rows have those rows.
use Rattle.std.proofs.Common.{◌≡◌, ◌≤◌, ◌<◌, ℕ, suc, ◌+◌, ◌*◌, List, [], ◌∷◌, ◌++◌, All, Result, Ok, Err, IfOk, length, map, get_or, take, refl, sym, ap, ◌∙◌, subst, arith, length-take}
use Rattle.std.specs.List.{AllZip, range_with_len, sum_by}
use Rattle.std.specs.declared.alloc.AllocError.{AllocError}
use Rattle.array_select.proofs.Shares.{fewer_cells}
use Rattle.std.proofs.lemmas.List.{get_or-map, length-map, length-take-le, take-take}
use Rattle.std.proofs.lemmas.List.Elements.{All-nil, All-cons, All-head, All-tail, All-map, All-take, All-weaker}
use Rattle.std.proofs.lemmas.List.Sums.{sum_by-cons}
use Rattle.std.proofs.lemmas.List.FromFn.{fill_by_all, get_or-map-range_with_len}
use Rattle.std.proofs.lemmas.Option.{unwrap_or-slice_get}
use Rattle.std.proofs.lemmas.Slice.Zip.{all_zipped_more}
use Rattle.scan_base.specs.declared.value.Value.{Value}
use Rattle.scan_base.specs.declared.value.Value.TheVariants.{Null}
use Rattle.scan_base.specs.Predicate.{cell_in}
use Rattle.arrays.specs.Batch.{BatchAt, AreLong, rows_of, row_of}
use Rattle.arrays.specs.Column.{ColumnAt, slot_of, values_of}
use Rattle.arrays.specs.TypedLayouts.{AreOf}
use Rattle.arrays.specs.WrittenSlots.{texts_joined}
use Rattle.hash_join.specs.declared.pair.Pair.{Pair}
use Rattle.join_batches.specs.declared.batch_sides.BatchSides.{BatchSides}
use Rattle.join_batches.specs.Joiner.{shown_cells}
use Rattle.join_batches.specs.Rows.{pair_row, IsPair}
use Rattle.array_select.specs.Room.{text_bytes_of, allowed, most_batch_cells, most_batch_texts, HasRoom}
use Rattle.array_select.specs.Fitting.{AreLight}
use Rattle.join_batches.specs.BatchSides.{copied_at, type_in, width_of, AreSides, ArePairs, AllFit, IsColumnOf, IsPairBatch, rows_at, cells_of}
use Rattle.join_batches.proofs.Cells.{row_wide}
use Rattle.join_batches.proofs.Typed.{taken_more}

-- all cells in order
map-cells : (row : List Value) → map (cell_in row) (range_with_len 0 (length row)) ≡ row
map-cells row = sym (fill_by_all (cell_in row) row (length row) Null refl (λ k h. sym (unwrap_or-slice_get row k Null)))

module _ (rows : List (List Value)) where
  -- a column that was made has the cells
  pub column_made : (number : ℕ) (made : Result ColumnAt AllocError) (values : List Value) (count : ℕ) → values ≡ cells_of rows number → count ≡ length rows →
      IfOk made (λ column. values_of column ≡ values) → IfOk made (λ column. column.len ≡ count) → IfOk made (IsColumnOf rows number)
  column_made number (Ok column) values count e long is size = record { values = is ∙ e; long = size ∙ long }
  column_made number (Err refused) values count e long is size = tt

  -- one column more
  pub columns_more : (shown : List ℕ) (i number : ℕ) (columns : List ColumnAt) (column : ColumnAt) → i < length shown → number ≡ get_or shown i 0 →
      AllZip (IsColumnOf rows) (take i shown) columns → IsColumnOf rows number column → AllZip (IsColumnOf rows) (take (i + 1) shown) (columns ++ column ∷ [])
  columns_more shown i number columns column low is all one =
      subst (λ (some : List ℕ). AllZip (IsColumnOf rows) some (columns ++ column ∷ [])) (sym (taken_more shown i number low is))
      (all_zipped_more (IsColumnOf rows) (take i shown) columns number column all one)

  -- a slot of one
  slot_there : (number : ℕ) (column : ColumnAt) (k : ℕ) → IsColumnOf rows number column → k < length rows → slot_of column k ≡ cell_in (get_or rows k []) number
  slot_there number column k is h =
      sym (get_or-map-range_with_len (slot_of column) 0 column.len k k Null (omega (arith, is.long, h)) (omega arith))
      ∙ ap (λ (values : List Value). get_or values k Null) is.values ∙ get_or-map (λ row. cell_in row number) rows k [] Null h

  -- a row of them
  row_there : (shown : List ℕ) (columns : List ColumnAt) (k : ℕ) → AllZip (IsColumnOf rows) shown columns → k < length rows →
      row_of columns k ≡ shown_cells shown (get_or rows k [])
  row_there [] [] k all h = refl
  row_there [] (column ∷ columns) k all h = absurd all
  row_there (number ∷ shown) [] k all h = absurd all
  row_there (number ∷ shown) (column ∷ columns) k all h =
      ap (λ (value : Value). value ∷ row_of columns k) (slot_there number column k all.0 h)
      ∙ ap (λ (rest : List Value). cell_in (get_or rows k []) number ∷ rest) (row_there shown columns k all.1 h)

  -- the rows of a batch of them
  pub rows_there : (shown : List ℕ) (made : BatchAt) → AllZip (IsColumnOf rows) shown made.columns → made.rows ≡ length rows →
      rows_of made ≡ map (shown_cells shown) rows
  rows_there shown made all long =
      sym (fill_by_all (row_of made.columns) (map (shown_cells shown) rows) made.rows [] (length-map rows (shown_cells shown) ∙ sym long)
      (λ k h. let within : k < length rows = omega (arith, h, long) in
      get_or-map (shown_cells shown) rows k [] [] within ∙ sym (row_there shown made.columns k all within)))

  -- they are as long
  pub all_long : (shown : List ℕ) (columns : List ColumnAt) → AllZip (IsColumnOf rows) shown columns → AreLong (length rows) columns
  all_long [] [] all = All-nil (λ (column : ColumnAt). column.len ≡ length rows)
  all_long [] (column ∷ columns) all = absurd all
  all_long (number ∷ shown) [] all = absurd all
  all_long (number ∷ shown) (column ∷ columns) all =
      All-cons (λ (column : ColumnAt). column.len ≡ length rows) column columns all.0.long (all_long shown columns all.1)

  -- they are as many as there are numbers
  pub all_made : (shown : List ℕ) (columns : List ColumnAt) → AllZip (IsColumnOf rows) shown columns → length columns ≡ length shown
  all_made [] [] all = refl
  all_made [] (column ∷ columns) all = absurd all
  all_made (number ∷ shown) [] all = absurd all
  all_made (number ∷ shown) (column ∷ columns) all = ap suc (all_made shown columns all.1)

  -- their texts have no more bytes than all of them may have
  pub all_light : (most : ℕ → ℕ) (shown : List ℕ) (columns : List ColumnAt) → AllZip (IsColumnOf rows) shown columns →
      All (λ number. AreLight (most number) (cells_of rows number)) shown → 1 < length rows → sum_by text_bytes_of columns ≤ sum_by most shown
  all_light most [] [] all light many = omega arith
  all_light most [] (column ∷ columns) all light many = absurd all
  all_light most (number ∷ shown) [] all light many = absurd all
  all_light most (number ∷ shown) (column ∷ columns) all light many =
      let first = All-head (λ number. AreLight (most number) (cells_of rows number)) number shown light in
      let few = first.light (omega (arith, many, length-map rows (λ row. cell_in row number))) in
      let here : text_bytes_of column ≤ most number = subst (λ (values : List Value). length (texts_joined values) ≤ most number) (sym all.0.values) few in
      let rest = all_light most shown columns all.1 (All-tail (λ number. AreLight (most number) (cells_of rows number)) number shown light) many in
      let one = sum_by-cons text_bytes_of column columns in
      let other = sum_by-cons most number shown in
      omega (arith, one, other, here, rest)

-- the sum of what is made of each
sum_made : {X Y : Type 0} (f : Y → ℕ) (g : X → Y) (xs : List X) → sum_by (λ x. f (g x)) xs ≡ sum_by f (map g xs)
sum_made f g [] = refl
sum_made f g (x ∷ xs) =
    sum_by-cons (λ x. f (g x)) x xs ∙ ap (λ (n : ℕ). f (g x) + n) (sum_made f g xs) ∙ sym (sum_by-cons f (g x) (map g xs))

-- a batch of them has room
batch_light : (sides : BatchSides) (share : ℕ) (shown : List ℕ) (rows : List (List Value)) (batch : BatchAt) → AllZip (IsColumnOf rows) shown batch.columns →
    All (λ number. AreLight (allowed share (type_in sides number)) (cells_of rows number)) shown →
    sum_by (allowed share) (map (type_in sides) shown) ≤ most_batch_texts → batch.rows ≡ length rows →
    (1 < batch.rows → batch.rows * length shown ≤ most_batch_cells) → HasRoom batch
batch_light sides share shown rows batch all light shares size cells = record {
  cells = λ many. subst (λ (n : ℕ). batch.rows * n ≤ most_batch_cells) (sym (all_made rows shown batch.columns all)) (cells many);
  texts = λ many.
      let less = all_light rows (λ number. allowed share (type_in sides number)) shown batch.columns all light (omega (arith, many, size)) in
      let same = sum_made (allowed share) (type_in sides) shown in
      omega (arith, less, same, shares);
}

-- all cells of rows
pub all_cells : (width : ℕ) (rows : List (List Value)) → All (λ (row : List Value). length row ≡ width) rows →
    map (shown_cells (range_with_len 0 width)) rows ≡ rows
all_cells width [] wide = refl
all_cells width (row ∷ rows) wide =
    let long : length row ≡ width = All-head (λ (row : List Value). length row ≡ width) row rows wide in
    ap (λ (first : List Value). first ∷ map (shown_cells (range_with_len 0 width)) rows)
    (ap (λ (n : ℕ). map (cell_in row) (range_with_len 0 n)) (sym long) ∙ map-cells row)
    ∙ ap (λ (rest : List (List Value)). row ∷ rest) (all_cells width rows (All-tail (λ (row : List Value). length row ≡ width) row rows wide))

-- a batch of these columns of so many joined rows
pub batch_made : (sides : BatchSides) (share : ℕ) (shown : List ℕ) (pairs : List Pair) (count : ℕ) (columns : List ColumnAt) → AreSides sides → ArePairs sides pairs →
    (1 < length pairs → length pairs * length shown ≤ most_batch_cells) → sum_by (allowed share) (map (type_in sides) shown) ≤ most_batch_texts →
    AllFit sides share pairs shown count → AllZip (IsColumnOf (rows_at sides (take count pairs))) shown columns →
    AreOf (map (copied_at sides) shown) columns → IsPairBatch sides shown pairs (record { columns = columns; rows = count })
batch_made sides share shown pairs count columns are there cells shares fit all typed =
    let rows = rows_at sides (take count pairs) in
    let few = fit.within in
    let size : length rows ≡ count = length-map (take count pairs) (pair_row sides.rights.now sides.left.now) ∙ length-take-le count pairs few in
    record {
      some = fit.some;
      few = few;
      wide = All-map (λ (row : List Value). length row ≡ width_of sides) (pair_row sides.rights.now sides.left.now) (take count pairs)
          (All-weaker (IsPair sides.rights.now sides.left.now) (λ (pair : Pair). length (pair_row sides.rights.now sides.left.now pair) ≡ width_of sides)
          (λ pair is. row_wide sides pair are is) (take count pairs) (All-take (IsPair sides.rights.now sides.left.now) count pairs there));
      rows_are = rows_there rows shown (record { columns = columns; rows = count }) all (sym size);
      typed = typed;
      room = batch_light sides share shown rows (record { columns = columns; rows = count }) all fit.light shares (sym size)
          (fewer_cells (length pairs) count (length shown) few cells);
    }

-- a batch of the first pairs is one of all
pub batch_of_first : (sides : BatchSides) (shown : List ℕ) (pairs : List Pair) (n : ℕ) (batch : BatchAt) → IsPairBatch sides shown (take n pairs) batch → IsPairBatch sides shown pairs batch
batch_of_first sides shown pairs n batch is =
    let size = length-take n pairs in
    let few = is.few in
    let low : batch.rows ≤ n = omega (arith, few, size) in
    let same = ap (rows_at sides) (take-take batch.rows n pairs low) in
    record {
      some = is.some;
      few = omega (arith, few, size);
      wide = subst (All (λ (row : List Value). length row ≡ width_of sides)) same is.wide;
      rows_are = is.rows_are ∙ ap (map (shown_cells shown)) same;
      typed = is.typed;
      room = is.room;
    }
