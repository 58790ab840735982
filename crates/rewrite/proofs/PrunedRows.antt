-- A pruned tree gives the used cells of the same rows.
use Rattle.std.proofs.Common.{◌≡◌, ℕ, zero, suc, ◌+◌, Bool, true, false, ◌&&◌, cond, List, [], ◌∷◌, ◌++◌, length, map, filter, take, drop, refl, sym, ap, ◌∙◌, arith}
use Rattle.std.specs.List.{list_all, range_with_len, AllByRecursion}
use Rattle.std.proofs.lemmas.Bool.{and_parts}
use Rattle.std.proofs.lemmas.List.{length-append, map-append, take-append-drop}
use Rattle.std.proofs.lemmas.List.FromFn.{fill_by_all}
use Rattle.std.proofs.lemmas.Option.{unwrap_or-slice_get}
use Rattle.scan_base.specs.declared.comparison.Comparison.TheVariants.{Equal}
use Rattle.scan_base.specs.declared.value.Value.TheVariants.{Null}
use Rattle.scan_base.specs.Comparison.{compared}
use Rattle.scan_base.specs.Predicate.{Pred, cell_in, names_only}
use Rattle.scan_base.specs.Truth.{keeps}
use Rattle.rewrite.specs.PrunedColumns.{used_of, is_used, used_number, used_key, pruned, uses_key, AreUsed, PruningKeepsRows}
use Rattle.rewrite.specs.Places.{first_rows, rows_over, tree_width}
use Rattle.arrow_types.specs.declared.schema.Schema.{Schema}
use Rattle.table_versions.specs.Table.{Row}
use Rattle.typed_plan.specs.HeldTables.{tree_schemas}
use Rattle.typed_plan.specs.NumberedPredicates.{predicate_map}
use Rattle.typed_plan.specs.TypedPlans.{tree_types}
use Rattle.typed_plan.specs.Plan.{Tree, scan, filtered, joined, taken, is_true, fits, joined_rows}
use Rattle.typed_plan.specs.declared.plan.Columns.TheVariants.{All, These}
use Rattle.typed_plan.specs.declared.plan.JoinKey.{JoinKey}
use Rattle.rewrite.proofs.Filters.{filter-map}
use Rattle.typed_plan.proofs.Numbered.{truth_of-map}
use Rattle.rewrite.proofs.Naming.{agrees}
use Rattle.rewrite.proofs.PushedRows.{IsWide, wide_rows}
use Rattle.rewrite.proofs.UsedColumns.{kept-map, kept-append}

-- ---- used cells

-- a used cell stands at its number among those that are used
pub cell_kept : (uses : List Bool) (row : Row) (n : ℕ) → length row ≡ length uses → is_used uses n ≡ true →
    cell_in (used_of uses row) (used_number uses n) ≡ cell_in row n
cell_kept [] row n h e = cc
cell_kept (used ∷ uses) [] n h e = absurd (omega (arith, h))
cell_kept (true ∷ uses) (value ∷ row) zero h e = refl
cell_kept (false ∷ uses) (value ∷ row) zero h e = cc
cell_kept (true ∷ uses) (value ∷ row) (suc n) h e = cell_kept uses row n (omega (arith, h)) e
cell_kept (false ∷ uses) (value ∷ row) (suc n) h e = cell_kept uses row n (omega (arith, h)) e

-- a row is its cells, number by number, as Cells of row_sources has it
all_cells : (row : Row) → map (cell_in row) (range_with_len 0 (length row)) ≡ row
all_cells row = sym (fill_by_all (cell_in row) row (length row) Null refl (λ k h. sym (unwrap_or-slice_get row k Null)))

-- ---- filters and keys over used cells

module _ (uses : List Bool) where
  filter_sees : (p : Pred ℕ) → names_only (is_used uses) p ≡ true → (row : Row) → length row ≡ length uses →
      is_true (predicate_map (used_number uses) p) (used_of uses row) ≡ is_true p row
  filter_sees p h row wide =
      ap keeps (truth_of-map (cell_in (used_of uses row)) (used_number uses) p
      ∙ agrees (is_used uses) (λ c. cell_in (used_of uses row) (used_number uses c)) (cell_in row) (λ c e. cell_kept uses row c wide e) p h)

  keys_see : (on : List JoinKey) → list_all (uses_key uses) on ≡ true → (row : Row) → length row ≡ length uses →
      fits (map (used_key uses) on) (used_of uses row) ≡ fits on row
  keys_see [] h row wide = refl
  keys_see (key ∷ on) h row wide =
      let parts = and_parts (uses_key uses key) (list_all (uses_key uses) on) h in
      let both = and_parts (is_used uses key.left) (is_used uses key.right) parts.0 in
      let l = cell_kept uses row key.left wide both.0 in
      let r = cell_kept uses row key.right wide both.1 in
      let rest = keys_see on parts.1 row wide in
      ap (λ b. b && fits (map (used_key uses) on) (used_of uses row))
      (ap (λ v. keeps (compared Equal v (cell_in (used_of uses row) (used_number uses key.right)))) l ∙ ap (λ v. keeps (compared Equal (cell_in row key.left) v)) r)
      ∙ ap (λ b. keeps (compared Equal (cell_in row key.left) (cell_in row key.right)) && b) rest

one_more : {X : Type 0} (x : X) (a b : Bool) (xs ys : List X) → a ≡ b → xs ≡ ys → cond a (x ∷ xs) xs ≡ cond b (x ∷ ys) ys
one_more x a b xs ys e h = ap (λ c. cond c (x ∷ xs) xs) e ∙ ap (λ some. cond b (x ∷ some) some) h

-- two tests that agree at rows of a width keep the same of them
filter_within : (width : ℕ) (p q : Row → Bool) → ((row : Row) → length row ≡ width → p row ≡ q row) → (rows : List Row) →
    AllByRecursion (IsWide width) rows → filter p rows ≡ filter q rows
filter_within width p q same [] h = refl
filter_within width p q same (row ∷ rows) h =
    one_more row (p row) (q row) (filter p rows) (filter q rows) (same row h.0) (filter_within width p q same rows h.1)

-- ---- joins

module _ (uses : List Bool) (on : List JoinKey) (used : list_all (uses_key uses) on ≡ true) (seam other : ℕ) (long : length uses ≡ seam + other) where
  one_left : (left : Row) → length left ≡ seam → (rights : List Row) → AllByRecursion (IsWide other) rights →
      filter (fits (map (used_key uses) on)) (map (λ right. used_of (take seam uses) left ++ right) (map (used_of (drop seam uses)) rights))
      ≡ map (used_of uses) (filter (fits on) (map (λ right. left ++ right) rights))
  one_left left wide [] h = refl
  one_left left wide (right ∷ rights) h =
      let whole = left ++ right in
      let both : used_of (take seam uses) left ++ used_of (drop seam uses) right ≡ used_of uses whole =
      ap (λ n. used_of (take n uses) left ++ used_of (drop n uses) right) (sym wide) ∙ kept-append uses left right in
      let r : length right ≡ other = h.0 in
      let fit : length whole ≡ length uses = let l = length-append left right in omega (arith, l, wide, r, long) in
      let rest = one_left left wide rights h.1 in
      let keys = map (used_key uses) on in
      let more = filter (fits keys) (map (λ one. used_of (take seam uses) left ++ one) (map (used_of (drop seam uses)) rights)) in
      ap (λ row. cond (fits keys row) (row ∷ more) more) both
      ∙ one_more (used_of uses whole) (fits keys (used_of uses whole)) (fits on whole) more (map (used_of uses) (filter (fits on) (map (λ one. left ++ one) rights))) (keys_see uses on used whole fit) rest
      ∙ shown (fits on whole) whole (filter (fits on) (map (λ one. left ++ one) rights))
    where
      shown : (b : Bool) (row : Row) (rows : List Row) → cond b (used_of uses row ∷ map (used_of uses) rows) (map (used_of uses) rows) ≡ map (used_of uses) (cond b (row ∷ rows) rows)
      shown true row rows = refl
      shown false row rows = refl

  pub joins_pruned : (lefts rights : List Row) → AllByRecursion (IsWide seam) lefts → AllByRecursion (IsWide other) rights →
      joined_rows (map (used_key uses) on) (map (used_of (take seam uses)) lefts) (map (used_of (drop seam uses)) rights)
      ≡ map (used_of uses) (joined_rows on lefts rights)
  joins_pruned [] rights h k = refl
  joins_pruned (left ∷ lefts) rights h k =
      let first = filter (fits on) (map (λ right. left ++ right) rights) in
      ap (λ rows. rows ++ joined_rows (map (used_key uses) on) (map (used_of (take seam uses)) lefts) (map (used_of (drop seam uses)) rights)) (one_left left h.0 rights k)
      ∙ ap (λ rows. map (used_of uses) first ++ rows) (joins_pruned lefts rights h.1 k)
      ∙ sym (map-append (used_of uses) first (joined_rows on lefts rights))

-- ---- every tree

taken_kept : (uses : List Bool) (numbers : List ℕ) (rows : List Row) →
    taken (These (used_of uses numbers)) rows ≡ map (used_of uses) (taken (These numbers) rows)
taken_kept uses numbers [] = refl
taken_kept uses numbers (row ∷ rows) =
    ap (λ cells. cells ∷ taken (These (used_of uses numbers)) rows) (kept-map (cell_in row) uses numbers)
    ∙ ap (λ some. used_of uses (map (cell_in row) numbers) ∷ some) (taken_kept uses numbers rows)

taken_all : (width : ℕ) (rows : List Row) → AllByRecursion (IsWide width) rows → taken (These (range_with_len 0 width)) rows ≡ rows
taken_all width [] h = refl
taken_all width (row ∷ rows) h =
    ap (λ cells. cells ∷ taken (These (range_with_len 0 width)) rows) (ap (λ n. map (cell_in row) (range_with_len 0 n)) (sym h.0) ∙ all_cells row)
    ∙ ap (λ some. row ∷ some) (taken_all width rows h.1)

pub used_width : (uses : List Bool) (tree : Tree) → AreUsed uses tree → length uses ≡ tree_width tree
used_width uses (scan table schema columns) h = h
used_width uses (filtered predicate tree) h = used_width uses tree h.1
used_width uses (joined left right on) h =
    let l = used_width (take (tree_width left) uses) left h.1 in
    let r = used_width (drop (tree_width left) uses) right h.2 in
    let seam = tree_width left in
    let both = length-append (tree_types left) (tree_types right) in
    let whole = ap length (take-append-drop seam uses) in
    let parts = length-append (take seam uses) (drop seam uses) in
    omega (arith, l, r, both, whole, parts)

pub pruned_schemas : (uses : List Bool) (tree : Tree) → tree_schemas (pruned uses tree) ≡ tree_schemas tree
pruned_schemas uses (scan table schema columns) = refl
pruned_schemas uses (filtered predicate tree) = pruned_schemas uses tree
pruned_schemas uses (joined left right on) =
    ap (λ (s : List Schema). s ++ tree_schemas (pruned (drop (tree_width left) uses) right)) (pruned_schemas (take (tree_width left) uses) left)
    ∙ ap (λ (s : List Schema). tree_schemas left ++ s) (pruned_schemas (drop (tree_width left) uses) right)

pub pruning_keeps_rows : PruningKeepsRows
pruning_keeps_rows uses (scan table schema All) places u h =
    taken_kept uses (range_with_len 0 (length schema.fields)) (first_rows places)
    ∙ ap (map (used_of uses)) (taken_all (length schema.fields) (first_rows places) h)
pruning_keeps_rows uses (scan table schema (These numbers)) places u h = taken_kept uses numbers (first_rows places)
pruning_keeps_rows uses (filtered predicate tree) places u h =
    let rows = rows_over tree places in
    let seen = predicate_map (used_number uses) predicate in
    ap (filter (is_true seen)) (pruning_keeps_rows uses tree places u.1 h)
    ∙ filter-map (is_true seen) (used_of uses) rows
    ∙ ap (map (used_of uses)) (filter_within (tree_width tree) (λ row. is_true seen (used_of uses row)) (is_true predicate)
    (λ row wide. filter_sees uses predicate u.0 row (wide ∙ sym (used_width uses tree u.1))) rows (wide_rows tree places h))
pruning_keeps_rows uses (joined left right on) places u h =
    let seam = tree_width left in
    let behind = drop (length (tree_schemas left)) places in
    let keys = map (used_key uses) on in
    let l = pruned (take seam uses) left in
    let r = pruned (drop seam uses) right in
    ap (λ (s : List Schema). joined_rows keys (rows_over l places) (rows_over r (drop (length s) places))) (pruned_schemas (take seam uses) left)
    ∙ ap (λ rows. joined_rows keys rows (rows_over r behind)) (pruning_keeps_rows (take seam uses) left places u.1 h.0)
    ∙ ap (λ rows. joined_rows keys (map (used_of (take seam uses)) (rows_over left places)) rows) (pruning_keeps_rows (drop seam uses) right behind u.2 h.1)
    ∙ joins_pruned uses on u.0 seam (tree_width right) (used_width uses (joined left right on) u ∙ length-append (tree_types left) (tree_types right)) (rows_over left places) (rows_over right behind)
    (wide_rows left places h.0) (wide_rows right behind h.1)
