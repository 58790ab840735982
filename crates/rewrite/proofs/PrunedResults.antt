-- A result takes of the used cells of rows what it took of the rows.
use Rattle.std.proofs.Common.{◌≡◌, ℕ, pos, Bool, true, false, cond, List, [], ◌∷◌, ◌++◌, length, map, refl, sym, ap, ◌∙◌}
use Rattle.std.specs.List.{list_all, fold, AllByRecursion}
use Rattle.std.proofs.lemmas.Bool.{and_parts}
use Rattle.std.proofs.lemmas.List.{length-map, map-append}
use Rattle.scan_base.specs.declared.value.Value.{Value}
use Rattle.scan_base.specs.declared.value.Value.TheVariants.{Int}
use Rattle.scan_base.specs.Predicate.{cell_in}
use Rattle.table_versions.specs.Table.{Row}
use Rattle.typed_plan.specs.declared.plan.Aggregate.{Aggregate}
use Rattle.typed_plan.specs.declared.plan.Aggregate.TheVariants.{Key, CountRows, Count, Sum}
use Rattle.typed_plan.specs.declared.plan.Columns.TheVariants.{All, These}
use Rattle.typed_plan.specs.declared.plan.Output.{Output}
use Rattle.typed_plan.specs.declared.plan.Output.TheVariants.{Project, Groups}
use Rattle.typed_plan.specs.GroupedRows.{Group, same_key, with_row, count_of, sum_of}
use Rattle.typed_plan.specs.Plan.{answered, groups_by, output_rows, taken}
use Rattle.rewrite.specs.PrunedColumns.{used_of, is_used, used_number, item_in, output_in, uses_item, uses_output}
use Rattle.rewrite.proofs.PrunedRows.{cell_kept}
use Rattle.rewrite.proofs.PushedRows.{IsWide}
use Rattle.rewrite.proofs.UsedColumns.{kept_whole}

module _ (uses : List Bool) where
  -- rows with a cell for each use
  abbrev AreFull : List Row → Type 0
  AreFull rows = AllByRecursion (IsWide (length uses)) rows

  cells_kept : (columns : List ℕ) → list_all (is_used uses) columns ≡ true → (row : Row) → length row ≡ length uses →
      map (cell_in (used_of uses row)) (map (used_number uses) columns) ≡ map (cell_in row) columns
  cells_kept [] u row full = refl
  cells_kept (column ∷ columns) u row full =
      let parts = and_parts (is_used uses column) (list_all (is_used uses) columns) u in
      ap (λ (value : Value). value ∷ map (cell_in (used_of uses row)) (map (used_number uses) columns)) (cell_kept uses row column full parts.0)
      ∙ ap (λ (values : List Value). cell_in row column ∷ values) (cells_kept columns parts.1 row full)

  taken_these : (columns : List ℕ) → list_all (is_used uses) columns ≡ true → (rows : List Row) → AreFull rows →
      taken (These (map (used_number uses) columns)) (map (used_of uses) rows) ≡ taken (These columns) rows
  taken_these columns u [] full = refl
  taken_these columns u (row ∷ rows) full =
      ap (λ (first : Row). first ∷ taken (These (map (used_number uses) columns)) (map (used_of uses) rows)) (cells_kept columns u row full.0)
      ∙ ap (λ (rest : List Row). map (cell_in row) columns ∷ rest) (taken_these columns u rows full.1)

  taken_whole : list_all (λ used. used) uses ≡ true → (rows : List Row) → AreFull rows → map (used_of uses) rows ≡ rows
  taken_whole u [] full = refl
  taken_whole u (row ∷ rows) full =
      ap (λ (first : Row). first ∷ map (used_of uses) rows) (kept_whole uses row full.0 u) ∙ ap (λ (rest : List Row). row ∷ rest) (taken_whole u rows full.1)

  -- ---- groups

  -- a group of the used cells
  abbrev group_of : List Value → List Row → Group
  group_of key rows = record { key = key; rows = rows }

  abbrev group_in : Group → Group
  group_in group = group_of group.key (map (used_of uses) group.rows)

  abbrev AreGroups : List Group → Type 0
  AreGroups groups = AllByRecursion (λ (group : Group). AreFull group.rows) groups

  full-append : (xs ys : List Row) → AreFull xs → AreFull ys → AreFull (xs ++ ys)
  full-append [] ys h k = k
  full-append (x ∷ xs) ys h k = (h.0, full-append xs ys h.1 k)

  one_with : (b : Bool) (key : List Value) (row : Row) (group : Group) (groups : List Group) → length row ≡ length uses → AreFull group.rows → AreGroups groups →
      AreGroups (with_row key row groups) → AreGroups (cond b (group_of group.key (group.rows ++ row ∷ []) ∷ groups) (group ∷ with_row key row groups))
  one_with true key row group groups full h rest more = (full-append group.rows (row ∷ []) h (full, tt), rest)
  one_with false key row group groups full h rest more = (h, more)

  groups_with : (key : List Value) (row : Row) → length row ≡ length uses → (groups : List Group) → AreGroups groups → AreGroups (with_row key row groups)
  groups_with key row full [] h = ((full, tt), tt)
  groups_with key row full (group ∷ groups) h =
      one_with (same_key group.key key) key row group groups full h.0 h.1 (groups_with key row full groups h.1)

  one_kept : (b : Bool) (key : List Value) (row : Row) (group : Group) (groups more : List Group) → more ≡ map group_in (with_row key row groups) →
      cond b (group_of group.key (map (used_of uses) group.rows ++ used_of uses row ∷ []) ∷ map group_in groups) (group_in group ∷ more)
      ≡ map group_in (cond b (group_of group.key (group.rows ++ row ∷ []) ∷ groups) (group ∷ with_row key row groups))
  one_kept true key row group groups more e =
      ap (λ (rows : List Row). group_of group.key rows ∷ map group_in groups) (sym (map-append (used_of uses) group.rows (row ∷ [])))
  one_kept false key row group groups more e = ap (λ (rest : List Group). group_in group ∷ rest) e

  with_kept : (key : List Value) (row : Row) (groups : List Group) →
      with_row key (used_of uses row) (map group_in groups) ≡ map group_in (with_row key row groups)
  with_kept key row [] = refl
  with_kept key row (group ∷ groups) =
      one_kept (same_key group.key key) key row group groups (with_row key (used_of uses row) (map group_in groups)) (with_kept key row groups)

  module _ (keys : List ℕ) (u : list_all (is_used uses) keys ≡ true) where
    -- groups with a row more
    abbrev more_groups : List Group → Row → List Group
    more_groups groups row = with_row (map (cell_in row) keys) row groups

    abbrev more_kept : List Group → Row → List Group
    more_kept groups row = with_row (map (cell_in row) (map (used_number uses) keys)) row groups

    all_groups : (rows : List Row) → AreFull rows → (groups : List Group) → AreGroups groups →
        (fold more_kept (map group_in groups) (map (used_of uses) rows) ≡ map group_in (fold more_groups groups rows)) × AreGroups (fold more_groups groups rows)
    all_groups [] full groups h = (refl, h)
    all_groups (row ∷ rows) full groups h =
        let key = map (cell_in row) keys in
        let one : more_kept (map group_in groups) (used_of uses row) ≡ map group_in (more_groups groups row) =
        ap (λ (values : List Value). with_row values (used_of uses row) (map group_in groups)) (cells_kept keys u row full.0) ∙ with_kept key row groups in
        let rest = all_groups rows full.1 (more_groups groups row) (groups_with key row full.0 groups h) in
        (ap (λ (some : List Group). fold more_kept some (map (used_of uses) rows)) one ∙ rest.0, rest.1)

  groups_kept : (keys : List ℕ) → list_all (is_used uses) keys ≡ true → (rows : List Row) → AreFull rows →
      (groups_by (map (used_number uses) keys) (map (used_of uses) rows) ≡ map group_in (groups_by keys rows)) × AreGroups (groups_by keys rows)
  groups_kept [] u rows full = (refl, (full, tt))
  groups_kept (key ∷ keys) u rows full = all_groups (key ∷ keys) u rows full [] tt

  -- ---- items

  column_kept : (column : ℕ) → is_used uses column ≡ true → (rows : List Row) → AreFull rows →
      map (λ (row : Row). cell_in row (used_number uses column)) (map (used_of uses) rows) ≡ map (λ (row : Row). cell_in row column) rows
  column_kept column u [] full = refl
  column_kept column u (row ∷ rows) full =
      ap (λ (value : Value). value ∷ map (λ (one : Row). cell_in one (used_number uses column)) (map (used_of uses) rows)) (cell_kept uses row column full.0 u)
      ∙ ap (λ (values : List Value). cell_in row column ∷ values) (column_kept column u rows full.1)

  item_kept : (item : Aggregate) → uses_item uses item ≡ true → (group : Group) → AreFull group.rows →
      answered (group_in group) (item_in uses item) ≡ answered group item
  item_kept (Key place) u group full = refl
  item_kept CountRows u group full = ap (λ (n : ℕ). Int (pos n)) (length-map group.rows (used_of uses))
  item_kept (Count column) u group full = ap count_of (column_kept column u group.rows full)
  item_kept (Sum column) u group full = ap sum_of (column_kept column u group.rows full)

  items_kept : (items : List Aggregate) → list_all (uses_item uses) items ≡ true → (group : Group) → AreFull group.rows →
      map (answered (group_in group)) (map (item_in uses) items) ≡ map (answered group) items
  items_kept [] u group full = refl
  items_kept (item ∷ items) u group full =
      let parts = and_parts (uses_item uses item) (list_all (uses_item uses) items) u in
      ap (λ (value : Value). value ∷ map (answered (group_in group)) (map (item_in uses) items)) (item_kept item parts.0 group full)
      ∙ ap (λ (values : List Value). answered group item ∷ values) (items_kept items parts.1 group full)

  answers_kept : (items : List Aggregate) → list_all (uses_item uses) items ≡ true → (groups : List Group) → AreGroups groups →
      map (λ (group : Group). map (answered group) (map (item_in uses) items)) (map group_in groups) ≡ map (λ (group : Group). map (answered group) items) groups
  answers_kept items u [] full = refl
  answers_kept items u (group ∷ groups) full =
      ap (λ (first : Row). first ∷ map (λ (one : Group). map (answered one) (map (item_in uses) items)) (map group_in groups)) (items_kept items u group full.0)
      ∙ ap (λ (rest : List Row). map (answered group) items ∷ rest) (answers_kept items u groups full.1)

  -- every result
  pub result_kept : (output : Output) → uses_output uses output ≡ true → (rows : List Row) → AllByRecursion (IsWide (length uses)) rows →
      output_rows (output_in uses output) (map (used_of uses) rows) ≡ output_rows output rows
  result_kept (Project All) u rows full = taken_whole u rows full
  result_kept (Project (These columns)) u rows full = taken_these columns u rows full
  result_kept (Groups keys items) u rows full =
      let used = and_parts (list_all (is_used uses) keys) (list_all (uses_item uses) items) u in
      let groups = groups_kept keys used.0 rows full in
      ap (map (λ (group : Group). map (answered group) (map (item_in uses) items))) groups.0
      ∙ answers_kept items used.1 (groups_by keys rows) groups.1
