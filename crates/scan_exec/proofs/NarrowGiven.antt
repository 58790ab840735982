-- What a plan gives of the batches that are opened is what it gives of all.
use Rattle.std.proofs.Common.{◌≡◌, ◌≤◌, ◌<◌, ◌⊎◌, inl, inr, ℕ, zero, suc, ◌+◌, ◌-◌, Bool, true, false, ◌&&◌, List, [], ◌∷◌, ◌++◌, length, map, take, drop, min, max, nat_lt, get_or, slice_get, cond, Option, Some, refl, sym, ap, ◌∙◌, subst, arith}
use Rattle.std.specs.List.{filter, flat_map, range_with_len}
use Rattle.std.specs.Option.{option_to_list}
use Rattle.std.proofs.lemmas.Bool.{and_parts, both_ways, cases_Bool, cases_lt, ltb-true, ltb-false}
use Rattle.std.proofs.lemmas.List.{take_all}
use Rattle.std.proofs.lemmas.List.Elements.{filter-append}
use Rattle.arrays.specs.Batch.{BatchAt, rows_of}
use Rattle.scan_base.specs.Predicate.{Pred, cell_in}
use Rattle.table_versions.specs.Standing.{rows_before}
use Rattle.table_versions.specs.StoredTables.{TableAt, table_of}
use Rattle.table_versions.specs.Table.{Row}
use Rattle.typed_plan.specs.declared.plan.Columns.{Columns}
use Rattle.typed_plan.specs.declared.plan.Columns.TheVariants as columns
use Rattle.typed_plan.specs.JoinedRows.{rows_between}
use Rattle.typed_plan.specs.Plan.{taken}
use Rattle.rewrite.specs.Conjuncts.{all_true}
use Rattle.batch_skipping.specs.ChosenColumns.{are_within}
use Rattle.row_sources.specs.Parts.{numbered_parts, parts}
use Rattle.batch_skipping.specs.Narrow.{batches_at, narrowed, narrowed_from, narrowed_to}
use Rattle.batch_skipping.specs.OpenedBatches.{has_row_in}
use Rattle.table_versions.proofs.Rowing.{length-rows_of, rows-cons}
use Rattle.row_sources.proofs.Batched.{none_behind, none_between as no_rows}
use Rattle.row_sources.proofs.Narrowing.{there_at}
use Rattle.row_sources.proofs.NarrowRange.{AreListed, before_next, listed_of, listed_within, narrow_from, part_at, whole_made}
use Rattle.row_sources.proofs.Opening.{in_all}
use Rattle.scan_exec.proofs.PartsJoin.{parts_join, parts_numbered}
use Rattle.scan_exec.proofs.TreeGives.{taken-append}

-- ---- lists

map_take : {X Y : Type 0} (f : X → Y) (n : ℕ) (xs : List X) → map f (take n xs) ≡ take n (map f xs)
map_take f zero xs = refl
map_take f (suc n) [] = refl
map_take f (suc n) (x ∷ xs) = ap (λ rest. f x ∷ rest) (map_take f n xs)

map_drop : {X Y : Type 0} (f : X → Y) (n : ℕ) (xs : List X) → map f (drop n xs) ≡ drop n (map f xs)
map_drop f zero xs = refl
map_drop f (suc n) [] = refl
map_drop f (suc n) (x ∷ xs) = map_drop f n xs

taken_between : (some : Columns) (from to : ℕ) (rows : List Row) → taken some (rows_between from to rows) ≡ rows_between from to (taken some rows)
taken_between columns.All from to rows = refl
taken_between (columns.These numbers) from to rows =
    map_take (λ row. map (cell_in row) numbers) (to - from) (drop from rows)
    ∙ ap (take (to - from)) (map_drop (λ row. map (cell_in row) numbers) from rows)

-- what passes none of some passes none of a part of them
none_take : (test : Row → Bool) (n : ℕ) (rows : List Row) → filter test rows ≡ [] → filter test (take n rows) ≡ []
none_take test zero rows h = refl
none_take test (suc n) [] h = refl
none_take test (suc n) (row ∷ rows) h = by (cases_Bool (test row)) (none_take test n rows)
  where
    by : (test row ≡ true) ⊎ (test row ≡ false) → (filter test rows ≡ [] → filter test (take n rows) ≡ []) → filter test (take (suc n) (row ∷ rows)) ≡ []
    by (inl on) rest =
        let some : row ∷ filter test rows ≡ [] = sym (ap (λ (b : Bool). cond b (row ∷ filter test rows) (filter test rows)) on) ∙ h in
        cc
    by (inr off) rest = rw off (rest (sym (ap (λ (b : Bool). cond b (row ∷ filter test rows) (filter test rows)) off) ∙ h))

none_drop : (test : Row → Bool) (n : ℕ) (rows : List Row) → filter test rows ≡ [] → filter test (drop n rows) ≡ []
none_drop test zero rows h = h
none_drop test (suc n) [] h = refl
none_drop test (suc n) (row ∷ rows) h = by (cases_Bool (test row)) (none_drop test n rows)
  where
    by : (test row ≡ true) ⊎ (test row ≡ false) → (filter test rows ≡ [] → filter test (drop n rows) ≡ []) → filter test (drop n rows) ≡ []
    by (inl on) rest =
        let some : row ∷ filter test rows ≡ [] = sym (ap (λ (b : Bool). cond b (row ∷ filter test rows) (filter test rows)) on) ∙ h in
        cc
    by (inr off) rest = rest (sym (ap (λ (b : Bool). cond b (row ∷ filter test rows) (filter test rows)) off) ∙ h)

flat_map_map : {X Y Z : Type 0} (f : X → Y) (g : Y → List Z) (xs : List X) → flat_map g (map f xs) ≡ flat_map (λ x. g (f x)) xs
flat_map_map f g [] = refl
flat_map_map f g (x ∷ xs) = ap (λ rest. g (f x) ++ rest) (flat_map_map f g xs)

-- ---- what a place lets through

module _ (need : List (Pred ℕ)) (some : Columns) where
  abbrev pub through : List Row → List Row
  through rows = filter (all_true need) (taken some rows)

  through_none : through [] ≡ []
  through_none = ap (filter (all_true need)) (none some)
    where
      none : (c : Columns) → taken c [] ≡ []
      none columns.All = refl
      none (columns.These numbers) = refl

  through_append : (xs ys : List Row) → through (xs ++ ys) ≡ through xs ++ through ys
  through_append xs ys = ap (filter (all_true need)) (taken-append some xs ys) ∙ filter-append (all_true need) (taken some xs) (taken some ys)

  through_parts : (lists : List (List Row)) → through (flat_map (λ (rows : List Row). rows) lists) ≡ flat_map through lists
  through_parts [] = through_none
  through_parts (rows ∷ lists) =
      through_append rows (flat_map (λ (one : List Row). one) lists) ∙ ap (λ (rest : List Row). through rows ++ rest) (through_parts lists)

  -- where it lets nothing of rows through, it lets nothing of a part of them through
  none_between : (from to : ℕ) (rows : List Row) → through rows ≡ [] → through (rows_between from to rows) ≡ []
  none_between from to rows h =
      ap (filter (all_true need)) (taken_between some from to rows)
      ∙ none_take (all_true need) (to - from) (drop from (taken some rows)) (none_drop (all_true need) from (taken some rows) h)

  -- what it lets through of a range, batch by batch
  by_batch : (from to : ℕ) (batches : List BatchAt) →
      through (rows_between from to (flat_map rows_of batches)) ≡ flat_map (λ (part : ℕ × List Row). through part.1) (numbered_parts from to batches)
  by_batch from to batches =
      ap through (sym (parts_join from to batches)) ∙ through_parts (parts from to batches)
      ∙ ap (flat_map through) (sym (parts_numbered from to batches))
      ∙ flat_map_map (λ (part : ℕ × List Row). part.1) through (numbered_parts from to batches)

  -- it lets the same through of some batches, where it lets nothing through of the others
  module _ (from to : ℕ) (batches : List BatchAt) (test : ℕ → Bool) (ranged : (i : ℕ) → test i ≡ true → has_row_in from to batches i ≡ true)
      (none : (i : ℕ) (batch : BatchAt) → slice_get batches i ≡ Some batch → test i ≡ false → through (part_at from to batches i batch) ≡ []) where
    abbrev numbers : List ℕ
    numbers = filter test (range_with_len 0 (length batches))

    pub listed : AreListed from to batches 0 numbers
    listed = listed_of from to batches test ranged 0 (length batches) (omega arith)

    pub same_some : through (rows_between (narrowed_from from batches numbers) (narrowed_to to batches numbers) (flat_map rows_of (batches_at numbers batches)))
        ≡ through (rows_between from to (flat_map rows_of batches))
    same_some =
        by_batch (narrowed_from from batches numbers) (narrowed_to to batches numbers) (batches_at numbers batches)
        ∙ narrow_from from to batches (λ _ rows. through rows) 0 0 (narrowed_from from batches numbers) (narrowed_to to batches numbers) (λ i. get_or numbers i 0) numbers
        (λ j h. let e : 0 + j ≡ j = omega arith in ap (λ (i : ℕ). get_or numbers i 0) e) listed refl refl
        ∙ sym (whole_made from to batches (λ _ rows. through rows) test none)
        ∙ sym (by_batch from to batches)

-- ---- a place of which all rows are read

-- the batches of these numbers are read to their end
all_read : (batches : List BatchAt) (numbers : List ℕ) → are_within (length batches) numbers ≡ true →
    narrowed_to (length (flat_map rows_of batches)) batches numbers ≡ length (flat_map rows_of (batches_at numbers batches))
all_read batches [] h = refl
all_read batches (number ∷ numbers) h =
    let both = and_parts (nat_lt number (length batches)) (are_within (length batches) numbers) h in
    let one = there_at batches number (ltb-true number (length batches) both.0) in
    let next = before_next 0 0 batches number one.0 one.1 in
    let ends = in_all batches (number + 1) (omega (arith, ltb-true number (length batches) both.0)) in
    let rest = all_read batches numbers both.1 in
    let size = rows-cons one.0 (batches_at numbers batches) in
    subst (λ (found : Option BatchAt). narrowed_to (length (flat_map rows_of batches)) batches (number ∷ numbers) ≡ length (flat_map rows_of (option_to_list found ++ batches_at numbers batches)))
    (sym one.1) (omega (arith, next, ends, rest, size))

none_before : (batches : List BatchAt) (numbers : List ℕ) → narrowed_from 0 batches numbers ≡ 0
none_before batches [] = refl
none_before batches (number ∷ numbers) = omega arith

all_between : (n : ℕ) (rows : List Row) → length rows ≤ n → rows_between 0 n rows ≡ rows
all_between n rows h = let e : n - 0 ≡ n = omega arith in ap (λ (m : ℕ). take m rows) e ∙ take_all n rows h

-- it lets the same through of the batches that are opened
module _ (need : List (Pred ℕ)) (some : Columns) (table : TableAt) (can : ℕ → Bool)
    (none : (i : ℕ) (batch : BatchAt) → slice_get table.batches i ≡ Some batch → can i ≡ false → through need some (rows_of batch) ≡ []) where
  abbrev rows_in : ℕ → ℕ → ℕ → Bool
  rows_in from to i = has_row_in from to table.batches i && can i

  pub ranged : (from to i : ℕ) → rows_in from to i ≡ true → has_row_in from to table.batches i ≡ true
  ranged from to i h = (and_parts (has_row_in from to table.batches i) (can i) h).0

  pub none_in : (from to i : ℕ) (batch : BatchAt) → slice_get table.batches i ≡ Some batch → rows_in from to i ≡ false →
      through need some (part_at from to table.batches i batch) ≡ []
  none_in from to i batch there h = by (cases_Bool (has_row_in from to table.batches i)) (cases_Bool (can i))
    where
      -- a range without a row of a batch
      empty_by : (s e r : ℕ) → e ≡ s + r → length (rows_of batch) ≡ r → min e to ≤ max s from →
          (length (rows_of batch) ≤ from - s) ⊎ (to - s ≤ from - s)
      empty_by s e r next size less = cases (cases_lt (from - s) (length (rows_of batch)))
        where
          cases : (from - s < length (rows_of batch)) ⊎ (length (rows_of batch) ≤ from - s) → (length (rows_of batch) ≤ from - s) ⊎ (to - s ≤ from - s)
          cases (inr past) = inl past
          cases (inl within) = inr (omega (arith, within, size, next, less))

      outside : (a b : ℕ) (rows : List Row) → (length rows ≤ a) ⊎ (b ≤ a) → rows_between a b rows ≡ []
      outside a b rows (inl past) = none_behind a b rows past
      outside a b rows (inr before) = no_rows a b rows before

      by : (has_row_in from to table.batches i ≡ true) ⊎ (has_row_in from to table.batches i ≡ false) → (can i ≡ true) ⊎ (can i ≡ false) →
          through need some (part_at from to table.batches i batch) ≡ []
      by a (inr off) =
          none_between need some (from - rows_before table.batches i) (to - rows_before table.batches i) (rows_of batch) (none i batch there off)
      by (inr out) b =
          let next = before_next from to table.batches i batch there in
          let less = ltb-false (max (rows_before table.batches i) from) (min (rows_before table.batches (i + 1)) to) out in
          ap (through need some) (outside (from - rows_before table.batches i) (to - rows_before table.batches i) (rows_of batch)
          (empty_by (rows_before table.batches i) (rows_before table.batches (i + 1)) batch.rows next (length-rows_of batch) less))
          ∙ through_none need some
      by (inl on) (inl held) = absurd (both_ways (rows_in from to i) h (rw (on, held) refl))

  -- of a range
  pub range_same : (from to : ℕ) →
      (let numbers = filter (rows_in from to) (range_with_len 0 (length table.batches)) in
      through need some (rows_between (narrowed_from from table.batches numbers) (narrowed_to to table.batches numbers) (table_of (narrowed numbers table)).rows))
      ≡ through need some (rows_between from to (table_of table).rows)
  range_same from to = same_some need some from to table.batches (rows_in from to) (ranged from to) (none_in from to)

  -- of all rows
  pub all_same : (let numbers = filter (rows_in 0 (length (table_of table).rows)) (range_with_len 0 (length table.batches)) in
      through need some (table_of (narrowed numbers table)).rows) ≡ through need some (table_of table).rows
  all_same =
      let all = length (table_of table).rows in
      let numbers = filter (rows_in 0 all) (range_with_len 0 (length table.batches)) in
      let within = listed_within 0 all table.batches 0 numbers (listed need some 0 all table.batches (rows_in 0 all) (ranged 0 all) (none_in 0 all)) in
      let read = all_read table.batches numbers within in
      sym (ap (through need some) (ap (λ (a : ℕ). rows_between a (narrowed_to all table.batches numbers) (table_of (narrowed numbers table)).rows) (none_before table.batches numbers)
      ∙ all_between (narrowed_to all table.batches numbers) (table_of (narrowed numbers table)).rows (omega (arith, read))))
      ∙ range_same 0 all
      ∙ ap (through need some) (all_between all (table_of table).rows (omega arith))
