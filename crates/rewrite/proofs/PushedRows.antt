-- Pushed filters keep the rows of every tree, in order.
use Rattle.std.proofs.Common.{◌≡◌, ℕ, ◌+◌, Bool, true, false, ◌&&◌, cond, List, [], ◌∷◌, ◌++◌, length, map, filter, drop, refl, sym, ap, ◌∙◌, subst, arith}
use Rattle.std.specs.List.{flat_map, AllByRecursion}
use Rattle.std.proofs.lemmas.List.{length-map, length-append}
use Rattle.std.proofs.lemmas.List.Elements.{filter_agree}
use Rattle.scan_base.specs.Predicate.{Pred, cell_in}
use Rattle.rewrite.specs.Conjuncts.{parts_of, all_of, all_true}
use Rattle.rewrite.specs.Laws.{AreWide, PushingKeepsRows}
use Rattle.rewrite.specs.PushedFilters.{is_left, is_right, is_both, moved, above, pushed}
use Rattle.rewrite.specs.Places.{first_rows, rows_over, tree_width}
use Rattle.arrow_types.specs.declared.schema.Schema.{Schema}
use Rattle.table_versions.specs.Table.{Row}
use Rattle.typed_plan.specs.HeldTables.{tree_schemas}
use Rattle.typed_plan.specs.TypedPlans.{tree_types, type_at, types_of}
use Rattle.typed_plan.specs.Plan.{Tree, scan, filtered, joined, taken, is_true, fits, joined_rows}
use Rattle.typed_plan.specs.declared.plan.Columns.TheVariants.{All, These}
use Rattle.typed_plan.specs.declared.plan.JoinKey.{JoinKey}
use Rattle.rewrite.proofs.Filters.{filter-all, filter-none, filter-filter, filter-map, filter-flat_map}
use Rattle.rewrite.proofs.Splitting.{parts_are, all_of_are, all-append, split}

-- ---- how wide rows are

abbrev pub IsWide : ℕ → Row → Type 0
IsWide width row = length row ≡ width

wide-append : (width : ℕ) (xs ys : List Row) → AllByRecursion (IsWide width) xs → AllByRecursion (IsWide width) ys → AllByRecursion (IsWide width) (xs ++ ys)
wide-append width [] ys h k = k
wide-append width (x ∷ xs) ys h k = (h.0, wide-append width xs ys h.1 k)

wide_if : (width : ℕ) (b : Bool) (x : Row) (xs : List Row) → IsWide width x → AllByRecursion (IsWide width) xs →
    AllByRecursion (IsWide width) (cond b (x ∷ xs) xs)
wide_if width true x xs h k = (h, k)
wide_if width false x xs h k = k

wide-filter : (width : ℕ) (p : Row → Bool) (xs : List Row) → AllByRecursion (IsWide width) xs → AllByRecursion (IsWide width) (filter p xs)
wide-filter width p [] h = h
wide-filter width p (x ∷ xs) h = wide_if width (p x) x (filter p xs) h.0 (wide-filter width p xs h.1)

wide-map : (one other : ℕ) (left : Row) → IsWide one left → (rights : List Row) → AllByRecursion (IsWide other) rights →
    AllByRecursion (IsWide (one + other)) (map (λ right. left ++ right) rights)
wide-map one other left h [] k = k
wide-map one other left h (right ∷ rights) k = (
  let long = length-append left right in
      let l : length left ≡ one = h in
      let r : length right ≡ other = k.0 in
      omega (arith, long, l, r),
  wide-map one other left h rights k.1,
)

wide-joined : (one other : ℕ) (on : List JoinKey) (lefts rights : List Row) → AllByRecursion (IsWide one) lefts → AllByRecursion (IsWide other) rights →
    AllByRecursion (IsWide (one + other)) (joined_rows on lefts rights)
wide-joined one other on [] rights h k = tt
wide-joined one other on (left ∷ lefts) rights h k =
    wide-append (one + other) (filter (fits on) (map (λ right. left ++ right) rights)) (joined_rows on lefts rights)
    (wide-filter (one + other) (fits on) (map (λ right. left ++ right) rights) (wide-map one other left h.0 rights k))
    (wide-joined one other on lefts rights h.1 k)

wide-taken : (columns : List ℕ) (rows : List Row) → AllByRecursion (IsWide (length columns)) (taken (These columns) rows)
wide-taken columns [] = tt
wide-taken columns (row ∷ rows) = (length-map columns (cell_in row), wide-taken columns rows)

pub wide_rows : (tree : Tree) (places : List (List Row)) → AreWide tree places → AllByRecursion (IsWide (tree_width tree)) (rows_over tree places)
wide_rows (scan table schema All) places h =
    subst (λ n. AllByRecursion (IsWide n) (first_rows places)) (sym (length-map schema.fields (λ field. field.data_type))) h
wide_rows (scan table schema (These columns)) places h =
    subst (λ n. AllByRecursion (IsWide n) (taken (These columns) (first_rows places))) (sym (length-map columns (type_at (types_of schema.fields))))
    (wide-taken columns (first_rows places))
wide_rows (filtered predicate tree) places h = wide-filter (tree_width tree) (is_true predicate) (rows_over tree places) (wide_rows tree places h)
wide_rows (joined left right on) places h =
    let behind = drop (length (tree_schemas left)) places in
    subst (λ n. AllByRecursion (IsWide n) (joined_rows on (rows_over left places) (rows_over right behind))) (sym (length-append (tree_types left) (tree_types right)))
    (wide-joined (tree_width left) (tree_width right) on (rows_over left places) (rows_over right behind)
    (wide_rows left places h.0) (wide_rows right behind h.1))

-- ---- filters above a tree

above_schemas : (ps : List (Pred ℕ)) (tree : Tree) → tree_schemas (above ps tree) ≡ tree_schemas tree
above_schemas [] tree = refl
above_schemas (p ∷ ps) tree = refl

above_rows : (ps : List (Pred ℕ)) (tree : Tree) (places : List (List Row)) →
    rows_over (above ps tree) places ≡ filter (all_true ps) (rows_over tree places)
above_rows [] tree places = sym (filter-all (rows_over tree places))
above_rows (p ∷ ps) tree places =
    filter_agree (is_true (all_of p ps)) (all_true (p ∷ ps)) (λ row. all_of_are p ps row) (rows_over tree places)

pub pushed_schemas : (ps : List (Pred ℕ)) (tree : Tree) → tree_schemas (pushed ps tree) ≡ tree_schemas tree
pushed_schemas ps (scan table schema columns) = above_schemas ps (scan table schema columns)
pushed_schemas ps (filtered predicate tree) = pushed_schemas (parts_of predicate ++ ps) tree
pushed_schemas ps (joined left right on) =
    let seam = tree_width left in
    let here = pushed_schemas (filter (is_left seam) ps) left in
    let there = pushed_schemas (map (moved seam) (filter (is_right seam) ps)) right in
    above_schemas (filter (is_both seam) ps) (joined (pushed (filter (is_left seam) ps) left) (pushed (map (moved seam) (filter (is_right seam) ps)) right) on)
    ∙ (ap (λ (s : List Schema). s ++ tree_schemas (pushed (map (moved seam) (filter (is_right seam) ps)) right)) here ∙ ap (λ (s : List Schema). tree_schemas left ++ s) there)

-- ---- filters of a join

module _ (seam : ℕ) (on : List JoinKey) (ps : List (Pred ℕ)) (rights : List Row) where
  abbrev of_left : Row → Bool
  of_left = all_true (filter (is_left seam) ps)

  abbrev of_right : Row → Bool
  of_right = all_true (map (moved seam) (filter (is_right seam) ps))

  abbrev of_both : Row → Bool
  of_both = all_true (filter (is_both seam) ps)

  -- what a left row gives: all that fit, and those of chosen right rows
  abbrev fitting : Row → List Row → List Row
  fitting left some = filter (fits on) (map (λ right. left ++ right) some)

  mixed : (a f r o : Bool) → a ≡ true → (f && (a && (r && o))) ≡ (r && (f && o))
  mixed true true true o e = refl
  mixed true true false o e = refl
  mixed true false true o e = refl
  mixed true false false o e = refl
  mixed false f r o e = cc

  out : (a f b : Bool) → a ≡ false → (f && (a && b)) ≡ false
  out true f b e = cc
  out false true b e = refl
  out false false b e = refl

  -- as one filter of the right rows
  all_as_one : (left : Row) → filter (all_true ps) (fitting left rights)
      ≡ map (λ right. left ++ right) (filter (λ right. fits on (left ++ right) && all_true ps (left ++ right)) rights)
  all_as_one left =
      filter-filter (all_true ps) (fits on) (map (λ right. left ++ right) rights)
      ∙ filter-map (λ row. fits on row && all_true ps row) (λ right. left ++ right) rights

  chosen_as_one : (left : Row) → filter of_both (fitting left (filter of_right rights))
      ≡ map (λ right. left ++ right) (filter (λ right. of_right right && (fits on (left ++ right) && of_both (left ++ right))) rights)
  chosen_as_one left =
      filter-filter of_both (fits on) (map (λ right. left ++ right) (filter of_right rights))
      ∙ filter-map (λ row. fits on row && of_both row) (λ right. left ++ right) (filter of_right rights)
      ∙ ap (map (λ right. left ++ right)) (filter-filter (λ right. fits on (left ++ right) && of_both (left ++ right)) of_right rights)

  one_left : (left : Row) → length left ≡ seam → (b : Bool) → of_left left ≡ b →
      filter (all_true ps) (fitting left rights) ≡ cond b (filter of_both (fitting left (filter of_right rights))) []
  one_left left wide true e =
      all_as_one left
      ∙ ap (map (λ right. left ++ right)) (filter_agree
      (λ right. fits on (left ++ right) && all_true ps (left ++ right)) (λ right. of_right right && (fits on (left ++ right) && of_both (left ++ right)))
      (λ right. ap (λ t. fits on (left ++ right) && t) (split seam left right wide ps)
      ∙ mixed (of_left left) (fits on (left ++ right)) (of_right right) (of_both (left ++ right)) e) rights)
      ∙ sym (chosen_as_one left)
  one_left left wide false e =
      all_as_one left
      ∙ ap (map (λ right. left ++ right)) (filter-none (λ right. fits on (left ++ right) && all_true ps (left ++ right))
      (λ right. ap (λ t. fits on (left ++ right) && t) (split seam left right wide ps)
      ∙ out (of_left left) (fits on (left ++ right)) (of_right right && of_both (left ++ right)) e) rights)

  chosen_left : (b : Bool) (f : Row → List Row) (x : Row) (xs : List Row) →
      cond b (f x) [] ++ flat_map f xs ≡ flat_map f (cond b (x ∷ xs) xs)
  chosen_left true f x xs = refl
  chosen_left false f x xs = refl

  -- filter before the join is filter after it
  pub join_law : (lefts : List Row) → AllByRecursion (IsWide seam) lefts →
      filter (all_true ps) (joined_rows on lefts rights) ≡ filter of_both (joined_rows on (filter of_left lefts) (filter of_right rights))
  join_law lefts wide =
      filter-flat_map (all_true ps) (λ left. fitting left rights) lefts ∙ each lefts wide
      ∙ sym (filter-flat_map of_both (λ left. fitting left (filter of_right rights)) (filter of_left lefts))
    where
      each : (some : List Row) → AllByRecursion (IsWide seam) some →
          flat_map (λ left. filter (all_true ps) (fitting left rights)) some
          ≡ flat_map (λ left. filter of_both (fitting left (filter of_right rights))) (filter of_left some)
      each [] h = refl
      each (left ∷ some) h =
          let f : Row → List Row = λ one. filter of_both (fitting one (filter of_right rights)) in
          ap (λ rows. rows ++ flat_map (λ one. filter (all_true ps) (fitting one rights)) some) (one_left left h.0 (of_left left) refl)
          ∙ ap (λ rows. cond (of_left left) (f left) [] ++ rows) (each some h.1)
          ∙ chosen_left (of_left left) f left (filter of_left some)

-- ---- every tree

pub pushed_rows : (ps : List (Pred ℕ)) (tree : Tree) (places : List (List Row)) → AreWide tree places →
    rows_over (pushed ps tree) places ≡ filter (all_true ps) (rows_over tree places)
pushed_rows ps (scan table schema columns) places h = above_rows ps (scan table schema columns) places
pushed_rows ps (filtered predicate tree) places h =
    let rows = rows_over tree places in
    pushed_rows (parts_of predicate ++ ps) tree places h
    ∙ filter_agree (all_true (parts_of predicate ++ ps)) (λ row. is_true predicate row && all_true ps row)
    (λ row. all-append (parts_of predicate) ps row ∙ ap (λ b. b && all_true ps row) (parts_are predicate row)) rows
    ∙ sym (filter-filter (all_true ps) (is_true predicate) rows)
pushed_rows ps (joined left right on) places h =
    let seam = tree_width left in
    let ls = filter (is_left seam) ps in
    let rs = map (moved seam) (filter (is_right seam) ps) in
    let bs = filter (is_both seam) ps in
    let behind = drop (length (tree_schemas left)) places in
    let here = pushed_rows ls left places h.0 in
    let there = pushed_rows rs right behind h.1 in
    above_rows bs (joined (pushed ls left) (pushed rs right) on) places
    ∙ ap (λ (s : List Schema). filter (all_true bs) (joined_rows on (rows_over (pushed ls left) places) (rows_over (pushed rs right) (drop (length s) places)))) (pushed_schemas ls left)
    ∙ ap (λ rows. filter (all_true bs) (joined_rows on rows (rows_over (pushed rs right) behind))) here
    ∙ ap (λ rows. filter (all_true bs) (joined_rows on (filter (all_true ls) (rows_over left places)) rows)) there
    ∙ sym (join_law seam on ps (rows_over right behind) (rows_over left places) (wide_rows left places h.0))

pub pushing_keeps_rows : PushingKeepsRows
pushing_keeps_rows tree places h = pushed_rows [] tree places h ∙ filter-all (rows_over tree places)
