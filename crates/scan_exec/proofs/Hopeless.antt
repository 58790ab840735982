-- A batch that cannot hold a row that is kept holds none.
use Rattle.std.proofs.Common.{◌≡◌, ◌≤◌, ◌<◌, ◌⊎◌, inl, inr, ℕ, zero, suc, ◌+◌, ◌-◌, Bool, true, false, ◌&&◌, All, List, [], ◌∷◌, ◌++◌, length, map, nat_lt, slice_get, cond, Option, Some, None, option_map, unwrap_or, refl, sym, ap, ◌∙◌, subst, arith}
use Rattle.std.specs.List.{filter, list_all, range_with_len}
use Rattle.std.specs.Option.{option_to_list}
use Rattle.std.proofs.lemmas.Bool.{and_parts, cases_Bool, ltb-true}
use Rattle.std.proofs.lemmas.List.Elements.{All-nil, All-cons, All-head, All-tail}
use Rattle.std.proofs.lemmas.Option.{slice_get-map}
use Rattle.arrow_types.specs.declared.data_type.DataType.{DataType}
use Rattle.arrays.specs.Batch.{BatchAt, row_of, rows_of}
use Rattle.arrays.specs.Column.{ColumnAt, IsColumn, slot_of}
use Rattle.arrays.specs.TypedLayouts.{AreOf, AreOfTypes, IsOfType}
use Rattle.batch_skipping.specs.PredicateTruths.{can}
use Rattle.batch_skipping.specs.Laws.{IsBatch}
use Rattle.batch_skipping.proofs.InBatch.{skipped_rows_are_not_kept}
use Rattle.batch_stats.specs.Columns.{stats_in}
use Rattle.scan_base.specs.declared.value.Value.{Value}
use Rattle.scan_base.specs.declared.value.Value.TheVariants.{Null}
use Rattle.scan_base.specs.Predicate.{Pred, cell_in, names_only}
use Rattle.scan_base.specs.Truth.{keeps}
use Rattle.table_versions.specs.KeptTables.{IsKept, Stands}
use Rattle.table_versions.specs.StoredTables.{TableAt, table_of}
use Rattle.table_versions.specs.Table.{Row}
use Rattle.typed_plan.specs.declared.plan.Columns.{Columns}
use Rattle.typed_plan.specs.declared.plan.Columns.TheVariants as columns
use Rattle.typed_plan.specs.Plan.{is_true, taken}
use Rattle.typed_plan.specs.TypedPlans.{has_columns, type_at, types_of}
use Rattle.typed_plan.proofs.Numbered.{truth_of-map}
use Rattle.rewrite.specs.Conjuncts.{all_true, is_between}
use Rattle.rewrite.specs.PushedFilters.{moved}
use Rattle.batch_skipping.specs.ChosenColumns.{are_within, columns_at, listed}
use Rattle.batch_skipping.specs.OpenedBatches.{batch_can, can_hold, given_columns, given_width}
use Rattle.row_sources.proofs.Narrowing.{there_at, one_of}
use Rattle.scan_exec.proofs.NarrowGiven.{through}
use Rattle.scan_exec.proofs.NarrowLaw.{Holds}
use Rattle.row_sources.proofs.Shown.{of_types}
use Rattle.row_sources.proofs.BeginTree.{fields_wide}
use Rattle.scan_exec.proofs.Through.{first_need, need_behind}

-- ---- the columns that a scan gives

column_of : (types : List DataType) (columns : List ColumnAt) (i : ℕ) (column : ColumnAt) → AreOf types columns → slice_get columns i ≡ Some column →
    IsOfType (type_at types i) column.layout
column_of [] [] i column of e = cc
column_of [] (c ∷ columns) i column of e = absurd of
column_of (t ∷ types) [] i column of e = absurd of
column_of (t ∷ types) (c ∷ columns) zero column of e = let same : c ≡ column = cc in subst (λ (x : ColumnAt). IsOfType t x.layout) same of.0
column_of (t ∷ types) (c ∷ columns) (suc i) column of e = column_of types columns i column of.1 e

module _ (P : ColumnAt → Type 0) where
  column_has : (columns : List ColumnAt) → All P columns → (i : ℕ) (column : ColumnAt) → slice_get columns i ≡ Some column → P column
  column_has [] all i column e = cc
  column_has (c ∷ columns) all zero column e = let same : c ≡ column = cc in subst P same (All-head P c columns all)
  column_has (c ∷ columns) all (suc i) column e = column_has columns (All-tail P c columns all) i column e

  columns_have : (columns : List ColumnAt) → All P columns → (numbers : List ℕ) → All P (columns_at numbers columns)
  columns_have columns all [] = All-nil P
  columns_have columns all (number ∷ numbers) = by (slice_get columns number) refl (columns_have columns all numbers)
    where
      by : (found : Option ColumnAt) → slice_get columns number ≡ found → All P (columns_at numbers columns) → All P (listed found ++ columns_at numbers columns)
      by None e rest = rest
      by (Some column) e rest = All-cons P column (columns_at numbers columns) (column_has columns all number column e) rest

columns_of : (types : List DataType) (columns : List ColumnAt) (numbers : List ℕ) → AreOf types columns → are_within (length columns) numbers ≡ true →
    AreOf (map (type_at types) numbers) (columns_at numbers columns)
columns_of types columns [] of h = tt
columns_of types columns (number ∷ numbers) of h =
    let both = and_parts (nat_lt number (length columns)) (are_within (length columns) numbers) h in
    let one = there_at columns number (ltb-true number (length columns) both.0) in
    subst (λ (found : Option ColumnAt). AreOf (map (type_at types) (number ∷ numbers)) (listed found ++ columns_at numbers columns)) (sym one.1)
    (column_of types columns number one.0 of one.1, columns_of types columns numbers of both.1)

cells_at : (columns : List ColumnAt) (j : ℕ) (numbers : List ℕ) → are_within (length columns) numbers ≡ true →
    row_of (columns_at numbers columns) j ≡ map (cell_in (row_of columns j)) numbers
cells_at columns j [] h = refl
cells_at columns j (number ∷ numbers) h =
    let both = and_parts (nat_lt number (length columns)) (are_within (length columns) numbers) h in
    let one = there_at columns number (ltb-true number (length columns) both.0) in
    let cell : cell_in (row_of columns j) number ≡ slot_of one.0 j =
    ap (λ (v : Option Value). unwrap_or v Null) (slice_get-map (λ (c : ColumnAt). slot_of c j) columns number ∙ ap (option_map (λ (c : ColumnAt). slot_of c j)) one.1) in
    ap (λ (found : Option ColumnAt). row_of (listed found ++ columns_at numbers columns) j) one.1
    ∙ ap (λ (v : Value). v ∷ row_of (columns_at numbers columns) j) (sym cell)
    ∙ ap (λ (rest : Row). cell_in (row_of columns j) number ∷ rest) (cells_at columns j numbers both.1)

abbrev given_batch : Columns → BatchAt → BatchAt
given_batch some batch = record batch { columns = given_columns some batch.columns }

abbrev given_types : Columns → List DataType → List DataType
given_types columns.All types = types
given_types (columns.These numbers) types = map (type_at types) numbers

given_is : (some : Columns) (types : List DataType) (batch : BatchAt) → has_columns (length batch.columns) some ≡ true → AreOf types batch.columns → Stands batch →
    IsBatch (given_types some types) (given_batch some batch)
given_is columns.All types batch h of stands = record { typed = of; stand = stands.columns; long = stands.long }
given_is (columns.These numbers) types batch h of stands = record {
  typed = columns_of types batch.columns numbers of h;
  stand = columns_have IsColumn batch.columns stands.columns numbers;
  long = columns_have (λ (column : ColumnAt). column.len ≡ batch.rows) batch.columns stands.long numbers;
}

taken_rows : (some : Columns) (batch : BatchAt) → has_columns (length batch.columns) some ≡ true → taken some (rows_of batch) ≡ rows_of (given_batch some batch)
taken_rows columns.All batch h = refl
taken_rows (columns.These numbers) batch h = each (range_with_len 0 batch.rows)
  where
    each : (places : List ℕ) → map (λ row. map (cell_in row) numbers) (map (row_of batch.columns) places) ≡ map (row_of (columns_at numbers batch.columns)) places
    each [] = refl
    each (j ∷ places) =
        ap (λ (row : Row). row ∷ map (λ row. map (cell_in row) numbers) (map (row_of batch.columns) places)) (sym (cells_at batch.columns j numbers h))
        ∙ ap (λ (rest : List Row). row_of (columns_at numbers batch.columns) j ∷ rest) (each places)

-- ---- rows that no conjunct keeps

none_of_range : (test : Row → Bool) (row : ℕ → Row) (first n : ℕ) → ((j : ℕ) → first ≤ j → j < first + n → test (row j) ≡ false) →
    filter test (map row (range_with_len first n)) ≡ []
none_of_range test row first zero none = refl
none_of_range test row first (suc n) none =
    rw (none first (omega arith) (omega arith)) (none_of_range test row (first + 1) n (λ j low high. none j (omega (arith, low)) (omega (arith, high))))

both_false : (a b : Bool) → b ≡ false → (a && b) ≡ false
both_false true b e = e
both_false false b e = refl

-- one of these cannot be true, so no row makes all of them true
module _ (types : List DataType) (batch : BatchAt) (is : IsBatch types batch) (first width : ℕ) (row : Row) (test : Pred ℕ → Bool)
    (fails : (p : Pred ℕ) → names_only (is_between first width) p ≡ true → (can (λ number. stats_in batch.columns (number - first)) p).can_true ≡ false → test p ≡ false) where
  none_true : (parts : List (Pred ℕ)) →
      list_all (λ part. (can (λ number. stats_in batch.columns (number - first)) part).can_true) (filter (names_only (is_between first width)) parts) ≡ false →
      list_all test (filter (names_only (is_between first width)) parts) ≡ false
  none_true [] h = cc
  none_true (p ∷ parts) h = by (cases_Bool (names_only (is_between first width) p)) (none_true parts)
    where
      by : (names_only (is_between first width) p ≡ true) ⊎ (names_only (is_between first width) p ≡ false) →
          (list_all (λ part. (can (λ number. stats_in batch.columns (number - first)) part).can_true) (filter (names_only (is_between first width)) parts) ≡ false → list_all test (filter (names_only (is_between first width)) parts) ≡ false) →
          list_all test (filter (names_only (is_between first width)) (p ∷ parts)) ≡ false
      by (inr off) rest = rw off (rest (sym (ap (λ (b : Bool). list_all (λ part. (can (λ number. stats_in batch.columns (number - first)) part).can_true) (cond b (p ∷ (filter (names_only (is_between first width)) parts)) (filter (names_only (is_between first width)) parts))) off) ∙ h))
      by (inl on) rest =
          let all = sym (ap (λ (b : Bool). list_all (λ part. (can (λ number. stats_in batch.columns (number - first)) part).can_true) (cond b (p ∷ (filter (names_only (is_between first width)) parts)) (filter (names_only (is_between first width)) parts))) on) ∙ h in
          rw on (one_or_rest (cases_Bool ((can (λ number. stats_in batch.columns (number - first)) p).can_true)) all)
        where
          one_or_rest : ((can (λ number. stats_in batch.columns (number - first)) p).can_true ≡ true) ⊎ ((can (λ number. stats_in batch.columns (number - first)) p).can_true ≡ false) →
              ((can (λ number. stats_in batch.columns (number - first)) p).can_true
              && list_all (λ part. (can (λ number. stats_in batch.columns (number - first)) part).can_true) (filter (names_only (is_between first width)) parts)) ≡ false →
              (test p && list_all test (filter (names_only (is_between first width)) parts)) ≡ false
          one_or_rest (inr none) all = rw (fails p on none) refl
          one_or_rest (inl may) all =
              let later = rest (sym (ap (λ (b : Bool). b && list_all (λ part. (can (λ number. stats_in batch.columns (number - first)) part).can_true) (filter (names_only (is_between first width)) parts)) may) ∙ all) in
              both_false (test p) (list_all test (filter (names_only (is_between first width)) parts)) later

moved_all : (first : ℕ) (needs : List (Pred ℕ)) (row : Row) → list_all (λ p. is_true p row) (map (moved first) needs) ≡ list_all (λ p. is_true (moved first p) row) needs
moved_all first [] row = refl
moved_all first (p ∷ needs) row = ap (λ (b : Bool). is_true (moved first p) row && b) (moved_all first needs row)

-- ---- of a table

module _ (parts : List (Pred ℕ)) (before : ℕ) (some : Columns) (table : TableAt) (i : ℕ) (batch : BatchAt)
    (fits : has_columns (length table.schema.fields) some ≡ true) (kept : IsKept table (length (table_of table).rows)) (there : slice_get table.batches i ≡ Some batch)
    (off : batch_can parts before some table i ≡ false) where
  abbrev width : ℕ
  width = given_width some (length table.schema.fields)

  abbrev given : BatchAt
  given = given_batch some batch

  wide : length batch.columns ≡ length table.schema.fields
  wide = one_of (λ (b : BatchAt). length b.columns ≡ length table.schema.fields) table.batches (fields_wide table.schema.fields table.batches kept.storable.typed) i batch there

  there_columns : has_columns (length batch.columns) some ≡ true
  there_columns = subst (λ (n : ℕ). has_columns n some ≡ true) (sym wide) fits

  is_batch : IsBatch (given_types some (types_of table.schema.fields)) given
  is_batch =
      given_is some (types_of table.schema.fields) batch there_columns
      (of_types table.schema.fields batch.columns (one_of (λ (b : BatchAt). AreOfTypes table.schema.fields b.columns) table.batches kept.storable.typed i batch there))
      (one_of Stands table.batches kept.stand i batch there)

  -- one of the conjuncts cannot be true
  cannot : list_all (λ part. (can (λ number. stats_in (given_columns some batch.columns) (number - before)) part).can_true) (filter (names_only (is_between before width)) parts) ≡ false
  cannot =
      first_only (list_all (λ part. (can (λ number. stats_in (given_columns some batch.columns) (number - before)) part).can_true) (filter (names_only (is_between before width)) parts))
      (sym (ap (λ (found : Option BatchAt). list_all (λ (b : BatchAt). can_hold parts before width (given_columns some b.columns)) (option_to_list found)) there) ∙ off)
    where
      first_only : (b : Bool) → (b && true) ≡ false → b ≡ false
      first_only true e = e
      first_only false e = refl

  none_kept : (need : List (Pred ℕ)) → ((j : ℕ) → j < batch.rows → all_true need (row_of (given_columns some batch.columns) j) ≡ false) → through need some (rows_of batch) ≡ []
  none_kept need fails =
      ap (filter (all_true need)) (taken_rows some batch there_columns)
      ∙ none_of_range (all_true need) (row_of (given_columns some batch.columns)) 0 batch.rows (λ j low high. fails j (omega (arith, high)))

  pub none_behind : through (need_behind parts before width) some (rows_of batch) ≡ []
  none_behind =
      none_kept (need_behind parts before width)
      (λ j low. let row = row_of (given_columns some batch.columns) j in
      moved_all before (filter (names_only (is_between before width)) parts) row
      ∙ none_true (given_types some (types_of table.schema.fields)) given is_batch before width row (λ p. is_true (moved before p) row)
      (λ p named none.
      ap keeps (truth_of-map (cell_in row) (λ column. column - before) p)
      ∙ skipped_rows_are_not_kept (given_types some (types_of table.schema.fields)) given before j (is_between before width) (λ column. cell_in row (column - before)) p
      is_batch low named (λ column between. refl) none)
      parts cannot)

  pub none_first : before ≡ 0 → through (first_need parts width) some (rows_of batch) ≡ []
  none_first zero_is =
      subst (λ (n : ℕ). through (filter (names_only (is_between n width)) parts) some (rows_of batch) ≡ []) zero_is
      (none_kept (filter (names_only (is_between before width)) parts)
      (λ j low. let row = row_of (given_columns some batch.columns) j in
      none_true (given_types some (types_of table.schema.fields)) given is_batch before width row (λ p. is_true p row)
      (λ p named none.
      skipped_rows_are_not_kept (given_types some (types_of table.schema.fields)) given before j (is_between before width) (cell_in row) p
      is_batch low named (λ column between. ap (cell_in row) (minus column)) none)
      parts cannot))
    where
      minus : (column : ℕ) → column ≡ column - before
      minus column = omega (arith, zero_is)

pub holds : (parts : List (Pred ℕ)) → Holds parts
holds parts = record {
  first = λ some table i batch fits kept there off. none_first parts 0 some table i batch fits kept there off refl;
  behind = λ before some table i batch fits kept there off. none_behind parts before some table i batch fits kept there off;
}
