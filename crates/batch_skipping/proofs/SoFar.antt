-- The list of the batches that are opened, as it grows.
use Rattle.std.proofs.Common.{◌≡◌, ◌≤◌, ◌<◌, ◌⊎◌, inl, inr, ℕ, ◌+◌, ◌-◌, ◌==◌, ◌&&◌, ◌++◌, Bool, true, false, if◌then◌else◌, List, [], ◌∷◌, length, max, min, nat_lt, slice_get, Option, Some, refl, sym, ap, ◌∙◌, arith, length-append}
use Rattle.std.specs.List.{filter, flat_map, list_all, range_with_len}
use Rattle.std.specs.Option.{option_to_list}
use Rattle.std.proofs.lemmas.Bool.{and_from, lt-ltb, le-ltb}
use Rattle.std.proofs.Math.Dec.{eqb-suc-zero}
use Rattle.std.proofs.lemmas.Grind.{flat_map-append}
use Rattle.std.proofs.lemmas.List.Folds.{list_all-append}
use Rattle.arrays.specs.Batch.{BatchAt, rows_of}
use Rattle.scan_base.specs.Limits.{most_rows}
use Rattle.scan_base.specs.Predicate.{Pred}
use Rattle.table_versions.specs.Standing.{rows_before, BatchesAreRows}
use Rattle.table_versions.specs.StoredTables.{TableAt, table_of}
use Rattle.table_versions.proofs.Rowing.{rows-append, rows-cons}
use Rattle.typed_plan.specs.declared.plan.Columns.{Columns}
use Rattle.batch_skipping.specs.declared.opened_batches.OpenedList.{OpenedList}
use Rattle.batch_skipping.specs.ChosenColumns.{are_within}
use Rattle.batch_skipping.specs.PlaceLists.{IsListOf}
use Rattle.batch_skipping.specs.Narrow.{batches_at, narrowed_from, narrowed_to}
use Rattle.batch_skipping.specs.OpenedBatches.{batches_in, given_columns, has_row_in}
use Rattle.batch_skipping.specs.inside.JudgedBatches.{all_can, is_judged, judged_before}
use Rattle.batch_skipping.proofs.Judging.{passes, fails, none_behind, none_before}
use Rattle.batch_skipping.proofs.PlaceStanding.{grows, in_all, batch_is, start_next, start_few}

-- ---- one number more

module _ (batches : List BatchAt) where
  at_last : (numbers : List ℕ) (i : ℕ) (batch : BatchAt) → slice_get batches i ≡ Some batch → batches_at (numbers ++ i ∷ []) batches ≡ batches_at numbers batches ++ batch ∷ []
  at_last numbers i batch there =
      flat_map-append (λ number. option_to_list (slice_get batches number)) numbers (i ∷ [])
      ∙ ap (λ (found : Option BatchAt). batches_at numbers batches ++ (option_to_list found ++ [])) there

  count_last : (numbers : List ℕ) (i : ℕ) (batch : BatchAt) → slice_get batches i ≡ Some batch →
      length (flat_map rows_of (batches_at (numbers ++ i ∷ []) batches)) ≡ length (flat_map rows_of (batches_at numbers batches)) + batch.rows
  count_last numbers i batch there =
      ap (λ (some : List BatchAt). length (flat_map rows_of some)) (at_last numbers i batch there) ∙ rows-append (batches_at numbers batches) (batch ∷ [])
      ∙ ap (λ (n : ℕ). length (flat_map rows_of (batches_at numbers batches)) + n) (rows-cons batch []) ∙ omega arith

  within_last : (numbers : List ℕ) (i : ℕ) → are_within (length batches) numbers ≡ true → i < length batches → are_within (length batches) (numbers ++ i ∷ []) ≡ true
  within_last numbers i all there =
      list_all-append (λ number. nat_lt number (length batches)) numbers (i ∷ [])
      ∙ and_from (are_within (length batches) numbers) (nat_lt i (length batches) && true) all (and_from (nat_lt i (length batches)) true (lt-ltb i (length batches) there) refl)

  from_last : (from : ℕ) (numbers : List ℕ) (i : ℕ) →
      narrowed_from from batches (numbers ++ i ∷ []) ≡ (if length numbers == 0 then from - rows_before batches i else narrowed_from from batches numbers)
  from_last from [] i = refl
  from_last from (number ∷ numbers) i =
      sym (ap (λ (b : Bool). if b then from - rows_before batches i else from - rows_before batches number) (eqb-suc-zero (length numbers)))

  to_last : (to : ℕ) (numbers : List ℕ) (i : ℕ) →
      narrowed_to to batches (numbers ++ i ∷ []) ≡ narrowed_to to batches numbers + (min (rows_before batches (i + 1)) to - rows_before batches i)
  to_last to [] i = omega arith
  to_last to (number ∷ numbers) i = omega (arith, to_last to numbers i)

-- ---- the batches that are judged

-- how many of the batches before this one have a row that is read
abbrev pub read_before : ℕ → ℕ → TableAt → ℕ → ℕ
read_before begin end table index = length (filter (has_row_in begin end table.batches) (range_with_len 0 index))

-- ---- the list up to a batch

-- what the list is before the batch `index`, which begins at `start`
pub record IsSoFar (parts : List (Pred ℕ)) (first : ℕ) (columns : Columns) (begin end : ℕ) (table : TableAt) (index start : ℕ) (list : OpenedList) : Type 0 where
  pub numbers : list.numbers.items ≡ judged_before parts first columns begin end table index
  pub at : start ≡ rows_before table.batches index
  pub inside : index ≤ length table.batches
  pub filled : index ≤ start
  pub low : (begin ≤ start) ⊎ (begin < rows_before table.batches (index + 1))
  pub within : are_within (length table.batches) list.numbers.items ≡ true
  pub rows : list.rows ≡ length (flat_map rows_of (batches_at list.numbers.items table.batches))
  pub few : list.rows ≤ start
  pub from : list.from ≡ narrowed_from begin table.batches list.numbers.items
  pub to : list.to ≡ narrowed_to end table.batches list.numbers.items
  pub less : list.to ≤ list.rows

module _ (parts : List (Pred ℕ)) (first : ℕ) (columns : Columns) (begin end : ℕ) (table : TableAt) where
  -- at the first batch with a row of the range
  pub begun : (index start : ℕ) (list : OpenedList) → list.numbers.items ≡ [] → list.rows ≡ 0 → list.from ≡ 0 → list.to ≡ 0 →
      start ≡ rows_before table.batches index → start ≤ begin → begin < rows_before table.batches (index + 1) → index ≤ start → index ≤ length table.batches →
      IsSoFar parts first columns begin end table index start list
  begun index start list none no_rows no_from no_to s behind before filled inside =
      let early : judged_before parts first columns begin end table index ≡ [] = none_before (is_judged parts first columns begin end table) index
      (λ k high. let order = grows table.batches (k + 1) index (omega (arith, high)) in
      ap (λ (b : Bool). b && list_all (λ (batch : BatchAt). all_can parts first (given_columns columns batch.columns)) (option_to_list (slice_get table.batches k)))
      (le-ltb (max (rows_before table.batches k) begin) (min (rows_before table.batches (k + 1)) end) (omega (arith, order, s, behind)))) in
      record {
        numbers = none ∙ sym early;
        at = s;
        inside = inside;
        filled = filled;
        low = inr before;
        within = ap (are_within (length table.batches)) none;
        rows = no_rows ∙ sym (ap (λ (some : List ℕ). length (flat_map rows_of (batches_at some table.batches))) none);
        few = omega (arith, no_rows);
        from = no_from ∙ sym (ap (narrowed_from begin table.batches) none);
        to = no_to ∙ sym (ap (narrowed_to end table.batches) none);
        less = omega (arith, no_to);
      }

  -- no batch has a row of an empty range
  pub nothing : min end (length (table_of table).rows) ≤ begin → [] ≡ judged_before parts first columns begin end table (length table.batches)
  nothing h = sym (none_before (is_judged parts first columns begin end table) (length table.batches)
      (λ k high. let within = in_all table.batches (k + 1) (omega (arith, high)) in
      ap (λ (b : Bool). b && list_all (λ (batch : BatchAt). all_can parts first (given_columns columns batch.columns)) (option_to_list (slice_get table.batches k)))
      (le-ltb (max (rows_before table.batches k) begin) (min (rows_before table.batches (k + 1)) end) (omega (arith, h, within)))))

  -- nor one before the range, nor any of an empty one
  pub unread : (index : ℕ) → rows_before table.batches index ≤ begin → read_before begin end table index ≡ 0
  unread index h = ap length (none_before (has_row_in begin end table.batches) index
      (λ k high. let order = grows table.batches (k + 1) index (omega (arith, high)) in
      le-ltb (max (rows_before table.batches k) begin) (min (rows_before table.batches (k + 1)) end) (omega (arith, order, h))))

  pub none_read : min end (length (table_of table).rows) ≤ begin → length (batches_in begin end table.batches) ≡ 0
  none_read h = ap length (none_before (has_row_in begin end table.batches) (length table.batches)
      (λ k high. let within = in_all table.batches (k + 1) (omega (arith, high)) in
      le-ltb (max (rows_before table.batches k) begin) (min (rows_before table.batches (k + 1)) end) (omega (arith, h, within))))

  module _ (standing : BatchesAreRows) (index start last : ℕ) (list : OpenedList) (so_far : IsSoFar parts first columns begin end table index start list)
      (is_last : last ≡ min end (length (table_of table).rows)) where
    module _ (batch : BatchAt) (there : slice_get table.batches index ≡ Some batch) (some : 0 < batch.rows) (before : begin < last) (more : start < last) where
      here : index < length table.batches
      here = batch_is table index start last so_far.at more (omega (arith, is_last))

      next : start + batch.rows ≡ rows_before table.batches (index + 1)
      next = start_next table index start last so_far.at more (omega (arith, is_last)) standing batch there

      pub fits : start + batch.rows ≤ length (table_of table).rows
      fits = start_few table index start last so_far.at more (omega (arith, is_last)) standing batch there

      pub past : begin ≤ start + batch.rows
      past = by so_far.low
        where
          by : (begin ≤ start) ⊎ (begin < rows_before table.batches (index + 1)) → begin ≤ start + batch.rows
          by (inl h) = omega (arith, h)
          by (inr h) = omega (arith, h, next)

      touched : has_row_in begin end table.batches index ≡ true
      touched = by so_far.low
        where
          by : (begin ≤ start) ⊎ (begin < rows_before table.batches (index + 1)) → has_row_in begin end table.batches index ≡ true
          by (inl h) = lt-ltb (max (rows_before table.batches index) begin) (min (rows_before table.batches (index + 1)) end)
              (omega (arith, h, next, so_far.at, more, some, is_last))
          by (inr h) = lt-ltb (max (rows_before table.batches index) begin) (min (rows_before table.batches (index + 1)) end)
              (omega (arith, h, next, so_far.at, more, some, is_last, before))

      -- one more is judged
      pub one_read : read_before begin end table (index + 1) ≡ read_before begin end table index + 1
      one_read =
          ap length (passes (has_row_in begin end table.batches) index touched)
          ∙ length-append (filter (has_row_in begin end table.batches) (range_with_len 0 index)) (index ∷ [])

      judged : (truth : Bool) → truth ≡ all_can parts first (given_columns columns batch.columns) → is_judged parts first columns begin end table index ≡ (truth && true)
      judged truth e =
          let test : BatchAt → Bool = λ b. all_can parts first (given_columns columns b.columns) in
          ap (λ (b : Bool). b && list_all test (option_to_list (slice_get table.batches index))) touched
          ∙ ap (λ (found : Option BatchAt). list_all test (option_to_list found)) there ∙ ap (λ (b : Bool). b && true) (sym e)

      -- one that cannot hold a row is passed over
      pub passed : (truth : Bool) → truth ≡ all_can parts first (given_columns columns batch.columns) → truth ≡ false →
          IsSoFar parts first columns begin end table (index + 1) (start + batch.rows) list
      passed truth e off =
          let out : is_judged parts first columns begin end table index ≡ false = judged truth e ∙ ap (λ (b : Bool). b && true) off in
          record {
            numbers = so_far.numbers ∙ sym (fails (is_judged parts first columns begin end table) index out);
            at = next;
            inside = omega (arith, here);
            filled = omega (arith, so_far.filled, some);
            low = inl past;
            within = so_far.within;
            rows = so_far.rows;
            few = omega (arith, so_far.few);
            from = so_far.from;
            to = so_far.to;
            less = so_far.less;
          }

      -- one that can is listed
      pub listed : (truth : Bool) → truth ≡ all_can parts first (given_columns columns batch.columns) → truth ≡ true → (new : OpenedList) →
          new.numbers.items ≡ list.numbers.items ++ index ∷ [] → new.rows ≡ list.rows + batch.rows →
          new.from ≡ (if length list.numbers.items == 0 then begin - start else list.from) → new.to ≡ list.to + min batch.rows (last - start) →
          IsSoFar parts first columns begin end table (index + 1) (start + batch.rows) new
      listed truth e on new numbers rows from to =
          let in_it : is_judged parts first columns begin end table index ≡ true = judged truth e ∙ ap (λ (b : Bool). b && true) on in
          let olds = list.numbers.items in
          let to_is = to_last table.batches end olds index in
          record {
            numbers = numbers ∙ ap (λ (some : List ℕ). some ++ index ∷ []) so_far.numbers ∙ sym (passes (is_judged parts first columns begin end table) index in_it);
            at = next;
            inside = omega (arith, here);
            filled = omega (arith, so_far.filled, some);
            low = inl past;
            within = ap (are_within (length table.batches)) numbers ∙ within_last table.batches olds index so_far.within here;
            rows = rows ∙ ap (λ (n : ℕ). n + batch.rows) so_far.rows ∙ sym (count_last table.batches olds index batch there)
                ∙ sym (ap (λ (some : List ℕ). length (flat_map rows_of (batches_at some table.batches))) numbers);
            few = omega (arith, so_far.few, rows);
            from = from ∙ ap (λ (n : ℕ). if length olds == 0 then begin - n else list.from) so_far.at
                ∙ ap (λ (n : ℕ). if length olds == 0 then begin - rows_before table.batches index else n) so_far.from
                ∙ sym (from_last table.batches begin olds index) ∙ sym (ap (narrowed_from begin table.batches) numbers);
            to = by olds new.to (omega (arith, to, so_far.to, to_is, so_far.at, next, fits, is_last)) new.numbers.items numbers;
            less = omega (arith, to, rows, so_far.less);
          }
        where
          by : (olds : List ℕ) (n : ℕ) → n ≡ narrowed_to end table.batches (olds ++ index ∷ []) → (news : List ℕ) → news ≡ olds ++ index ∷ [] → n ≡ narrowed_to end table.batches news
          by olds n e news is = e ∙ sym (ap (narrowed_to end table.batches) is)

    -- after the last one
    pub all_read : last ≤ start → length (batches_in begin end table.batches) ≡ read_before begin end table index
    all_read done = ap length (none_behind (has_row_in begin end table.batches) index (length table.batches) so_far.inside
        (λ k low high. let order = grows table.batches index k low in let within = in_all table.batches (k + 1) (omega (arith, high)) in
        le-ltb (max (rows_before table.batches k) begin) (min (rows_before table.batches (k + 1)) end) (omega (arith, order, within, so_far.at, done, is_last))))

    pub all_listed : last ≤ start → length (table_of table).rows ≤ most_rows →
        (list.numbers.items ≡ judged_before parts first columns begin end table (length table.batches)) × IsListOf begin end table list
    all_listed done few =
        let rest = none_behind (is_judged parts first columns begin end table) index (length table.batches) so_far.inside
        (λ k low high. let order = grows table.batches index k low in let within = in_all table.batches (k + 1) (omega (arith, high)) in
        ap (λ (b : Bool). b && list_all (λ (batch : BatchAt). all_can parts first (given_columns columns batch.columns)) (option_to_list (slice_get table.batches k)))
        (le-ltb (max (rows_before table.batches k) begin) (min (rows_before table.batches (k + 1)) end) (omega (arith, order, within, so_far.at, done, is_last)))) in
        let all = in_all table.batches index so_far.inside in (
          so_far.numbers ∙ sym rest,
          record {
            can = record { there = so_far.within; counted = so_far.rows; few = omega (arith, so_far.few, so_far.at, all, few) };
            from = so_far.from;
            to = so_far.to;
          },
        )
