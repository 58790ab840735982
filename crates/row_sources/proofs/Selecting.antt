-- Rows of a batch that are chosen, and batches that are made of them.
use Rattle.std.proofs.Common.{◌≡◌, ◌≤◌, ◌<◌, ℕ, zero, suc, ◌+◌, ◌-◌, Bool, true, false, if◌then◌else◌, List, [], ◌∷◌, ◌++◌, length, map, get_or, All, refl, sym, ap, ◌∙◌, arith}
use Rattle.std.specs.List.{AllZip, filter, range_with_len}
use Rattle.std.proofs.lemmas.List.{same_lists, get_or-map, length-map}
use Rattle.std.proofs.lemmas.List.Elements.{AllZip-push, All-nil, All-cons}
use Rattle.std.proofs.lemmas.List.FromFn.{fill_by_all, get_or-map-range_with_len, get_or-range_with_len, length-range_with_len}
use Rattle.arrow_types.specs.declared.data_type.DataType.{DataType}
use Rattle.arrays.specs.Batch.{BatchAt, AreLong, rows_of, row_of}
use Rattle.arrays.specs.Column.{ColumnAt, slot_of, cut}
use Rattle.arrays.specs.Layout.{layout_slot}
use Rattle.array_select.specs.Selection.{AreRising}
use Rattle.arrays.specs.TypedLayouts.{AreOf}
use Rattle.scan_base.specs.declared.value.Value.{Value}
use Rattle.scan_base.specs.declared.value.Value.TheVariants.{Null}
use Rattle.table_versions.specs.Table.{Row}
use Rattle.row_sources.specs.PickedRows.{HasSlotsAt}

-- ---- the numbers of a range that pass a test

-- those chosen are of the range
pub chosen_below : (test : ℕ → Bool) (first n end : ℕ) → first + n ≤ end → All (λ (row : ℕ). row < end) (filter test (range_with_len first n))
chosen_below test first zero end h = All-nil (λ (row : ℕ). row < end)
chosen_below test first (suc n) end h = by (test first) (chosen_below test (first + 1) n end (omega (arith, h)))
  where
    by : (b : Bool) → All (λ (row : ℕ). row < end) (filter test (range_with_len (first + 1) n)) →
        All (λ (row : ℕ). row < end) (if b then first ∷ filter test (range_with_len (first + 1) n) else filter test (range_with_len (first + 1) n))
    by true rest = All-cons (λ (row : ℕ). row < end) first (filter test (range_with_len (first + 1) n)) (omega (arith, h)) rest
    by false rest = rest

-- ---- places that stand next to each other

-- a later place is as much above an earlier one, or more
rising_far : (places : List ℕ) → AreRising places → (k n : ℕ) → k + n < length places → get_or places k 0 + n ≤ get_or places (k + n) 0
rising_far places rising k zero h = let e : k + 0 ≡ k = omega arith in rw e (omega arith)
rising_far places rising k (suc n) h =
    let before = rising_far places rising k n (omega (arith, h)) in
    let step = rising (k + n) (k + suc n) (omega arith) h in
    omega (arith, before, step)

-- places no further apart than they are many are all from the first on
pub next_to_each_other : (places : List ℕ) (first last : ℕ) → AreRising places → 0 < length places → first ≡ get_or places 0 0 → last ≡ get_or places (length places - 1) 0 →
    last + 1 - first ≤ length places → places ≡ range_with_len first (last + 1 - first)
next_to_each_other places first last rising some f l near =
    let most = length places - 1 in
    let span = rising_far places rising 0 most (omega (arith, some)) in
    let at_end : 0 + most ≡ most = omega arith in
    let whole = rw at_end at span in
    let size : last + 1 - first ≡ length places = omega (arith, near, whole, f, l, some) in
    same_lists places (range_with_len first (last + 1 - first)) (sym size ∙ sym (length-range_with_len first (last + 1 - first)))
    (λ k d h. each k d h size ∙ sym (get_or-range_with_len first (last + 1 - first) k d (omega (arith, size, h))))
  where
    default : (xs : List ℕ) (k c d : ℕ) → k < length xs → get_or xs k c ≡ get_or xs k d
    default [] k c d h = absurd (omega (arith, h))
    default (x ∷ xs) zero c d h = refl
    default (x ∷ xs) (suc k) c d h = default xs k c d (omega (arith, h))

    each : (k d : ℕ) → k < length places → last + 1 - first ≡ length places → get_or places k d ≡ first + k
    each k d h size =
        let low = rising_far places rising 0 k (omega (arith, h)) in
        let n = length places - 1 - k in
        let high = rising_far places rising k n (omega (arith, h)) in
        let at_k : 0 + k ≡ k = omega arith in
        let at_end : k + n ≡ length places - 1 = omega (arith, h) in
        let low_k = rw at_k at low in
        let high_k = rw at_end at high in
        default places k d 0 h ∙ omega (arith, low_k, high_k, f, l, size, h)

-- ---- columns with slots of others

-- a cut has the slots from one to another
cut_slots : {X : Type 0} (f g : ℕ → X) (from k n : ℕ) → ((j : ℕ) → f j ≡ g (from + j)) → map f (range_with_len k n) ≡ map g (range_with_len (from + k) n)
cut_slots f g from k zero same = refl
cut_slots f g from k (suc n) same =
    let next : from + (k + 1) ≡ from + k + 1 = omega arith in
    ap (λ one. one ∷ map f (range_with_len (k + 1) n)) (same k)
    ∙ ap (λ rest. g (from + k) ∷ rest) (cut_slots f g from (k + 1) n same ∙ ap (λ (a : ℕ). map g (range_with_len a n)) next)

pub cut_has : (column : ColumnAt) (from to : ℕ) → HasSlotsAt (range_with_len from (to - from)) column (cut column from to)
cut_has column from to = record {
  values =
      let start : from + 0 ≡ from = omega arith in
      cut_slots (slot_of (cut column from to)) (slot_of column) from 0 (to - from)
      (λ j. let e : column.first + from + j ≡ column.first + (from + j) = omega arith in ap (layout_slot column.layout) e)
      ∙ ap (λ (a : ℕ). map (slot_of column) (range_with_len a (to - from))) start;
  long = sym (length-range_with_len from (to - from));
  typed = λ data_type is. is;
}

-- each column of a cut
pub cuts_have : (columns : List ColumnAt) (from to : ℕ) → AllZip (HasSlotsAt (range_with_len from (to - from))) columns (map (λ (c : ColumnAt). cut c from to) columns)
cuts_have [] from to = tt
cuts_have (column ∷ columns) from to = (cut_has column from to, cuts_have columns from to)

module _ (places : List ℕ) where
  -- a slot of one
  slot_there : (column made : ColumnAt) (k : ℕ) → HasSlotsAt places column made → k < length places → slot_of made k ≡ slot_of column (get_or places k 0)
  slot_there column made k has h =
      sym (get_or-map-range_with_len (slot_of made) 0 made.len k k Null (omega (arith, has.long, h)) (omega arith))
      ∙ ap (λ (values : List Value). get_or values k Null) has.values ∙ get_or-map (slot_of column) places k 0 Null h

  -- a row of all
  row_there : (columns made : List ColumnAt) (k : ℕ) → AllZip (HasSlotsAt places) columns made → k < length places → row_of made k ≡ row_of columns (get_or places k 0)
  row_there [] [] k have h = refl
  row_there [] (new ∷ made) k have h = absurd have
  row_there (column ∷ columns) [] k have h = absurd have
  row_there (column ∷ columns) (new ∷ made) k have h =
      ap (λ (value : Value). value ∷ row_of made k) (slot_there column new k have.0 h)
      ∙ ap (λ (rest : Row). slot_of column (get_or places k 0) ∷ rest) (row_there columns made k have.1 h)

  -- the rows of a batch of them
  pub rows_there : (columns : List ColumnAt) (made : BatchAt) → AllZip (HasSlotsAt places) columns made.columns → made.rows ≡ length places →
      rows_of made ≡ map (row_of columns) places
  rows_there columns made have long =
      sym (fill_by_all (row_of made.columns) (map (row_of columns) places) made.rows [] (length-map places (row_of columns) ∙ sym long)
      (λ k h. let within : k < length places = omega (arith, h, long) in
      get_or-map (row_of columns) places k 0 [] within ∙ sym (row_there columns made.columns k have within)))

  -- they are as long, as many and of the same types
  pub all_long : (columns made : List ColumnAt) → AllZip (HasSlotsAt places) columns made → AreLong (length places) made
  all_long [] [] have = All-nil (λ (column : ColumnAt). column.len ≡ length places)
  all_long [] (new ∷ made) have = absurd have
  all_long (column ∷ columns) [] have = absurd have
  all_long (column ∷ columns) (new ∷ made) have =
      All-cons (λ (column : ColumnAt). column.len ≡ length places) new made have.0.long (all_long columns made have.1)

  pub all_typed : (types : List DataType) (columns made : List ColumnAt) → AllZip (HasSlotsAt places) columns made → AreOf types columns → AreOf types made
  all_typed [] [] [] have typed = tt
  all_typed types [] (new ∷ made) have typed = absurd have
  all_typed types (column ∷ columns) [] have typed = absurd have
  all_typed [] (column ∷ columns) (new ∷ made) have typed = absurd typed
  all_typed (data_type ∷ types) [] [] have typed = absurd typed
  all_typed (data_type ∷ types) (column ∷ columns) (new ∷ made) have typed =
      (have.0.typed data_type typed.0, all_typed types columns made have.1 typed.1)

  -- one column more
  pub more_has : (columns made all new : List ColumnAt) (column one : ColumnAt) → all ≡ columns ++ column ∷ [] → new ≡ made ++ one ∷ [] →
      AllZip (HasSlotsAt places) columns made → HasSlotsAt places column one → AllZip (HasSlotsAt places) all new
  more_has columns made all new column one e f have has = rw (e, f) (AllZip-push (HasSlotsAt places) columns made column one have has)
