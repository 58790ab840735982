-- Rows of a place that its own conjuncts do not let through may be left out before the join.
use Rattle.std.proofs.Common.{◌≡◌, ℕ, Bool, true, false, ◌&&◌, cond, List, [], ◌∷◌, ◌++◌, length, map, filter, drop, refl, sym, ap, ◌∙◌}
use Rattle.std.specs.List.{flat_map, AllByRecursion}
use Rattle.std.proofs.lemmas.Bool.{and_parts, and_from}
use Rattle.std.proofs.lemmas.List.Elements.{filter_agree}
use Rattle.scan_base.specs.Predicate.{Pred}
use Rattle.rewrite.specs.Conjuncts.{conjuncts, all_true}
use Rattle.rewrite.specs.Laws.{AreWide, SameThrough, SkippingKeepsRows}
use Rattle.rewrite.specs.PushedFilters.{is_left, is_behind, moved}
use Rattle.rewrite.specs.Places.{rows_over, tree_width}
use Rattle.table_versions.specs.Table.{Row}
use Rattle.typed_plan.specs.HeldTables.{tree_schemas}
use Rattle.typed_plan.specs.Plan.{Tree, scan, filtered, joined, is_true, fits, joined_rows}
use Rattle.typed_plan.specs.declared.plan.JoinKey.{JoinKey}
use Rattle.rewrite.proofs.Filters.{filter-all, filter-none, filter-filter, filter-map, filter-flat_map}
use Rattle.rewrite.proofs.PushedRows.{IsWide, wide_rows}
use Rattle.rewrite.proofs.Splitting.{conjuncts_are, all-append, of_left, of_right}

-- what is true of a joined row is true of its parts
module _ (seam : ℕ) (left right : Row) (wide : length left ≡ seam) where
  left_if : (p : Pred ℕ) (ps : List (Pred ℕ)) (b : Bool) → is_left seam p ≡ b → is_true p (left ++ right) ≡ true → all_true (filter (is_left seam) ps) left ≡ true →
      all_true (cond b (p ∷ filter (is_left seam) ps) (filter (is_left seam) ps)) left ≡ true
  left_if p ps true e h k = and_from (is_true p left) (all_true (filter (is_left seam) ps) left) (sym (of_left seam left right wide p e) ∙ h) k
  left_if p ps false e h k = k

  pub of_left_part : (ps : List (Pred ℕ)) → all_true ps (left ++ right) ≡ true → all_true (filter (is_left seam) ps) left ≡ true
  of_left_part [] h = refl
  of_left_part (p ∷ ps) h =
      let parts = and_parts (is_true p (left ++ right)) (all_true ps (left ++ right)) h in
      left_if p ps (is_left seam p) refl parts.0 (of_left_part ps parts.1)

  right_if : (p : Pred ℕ) (ps : List (Pred ℕ)) (b : Bool) → is_behind seam p ≡ b → is_true p (left ++ right) ≡ true →
      all_true (map (moved seam) (filter (is_behind seam) ps)) right ≡ true →
      all_true (map (moved seam) (cond b (p ∷ filter (is_behind seam) ps) (filter (is_behind seam) ps))) right ≡ true
  right_if p ps true e h k =
      and_from (is_true (moved seam p) right) (all_true (map (moved seam) (filter (is_behind seam) ps)) right) (sym (of_right seam left right wide p e) ∙ h) k
  right_if p ps false e h k = k

  pub of_right_part : (ps : List (Pred ℕ)) → all_true ps (left ++ right) ≡ true → all_true (map (moved seam) (filter (is_behind seam) ps)) right ≡ true
  of_right_part [] h = refl
  of_right_part (p ∷ ps) h =
      let parts = and_parts (is_true p (left ++ right)) (all_true ps (left ++ right)) h in
      right_if p ps (is_behind seam p) refl parts.0 (of_right_part ps parts.1)

-- so both sides may be filtered before, and the joined rows all the same
module _ (seam : ℕ) (on : List JoinKey) (ps : List (Pred ℕ)) (rights : List Row) where
  abbrev of_lefts : Row → Bool
  of_lefts = all_true (filter (is_left seam) ps)

  abbrev of_rights : Row → Bool
  of_rights = all_true (map (moved seam) (filter (is_behind seam) ps))

  abbrev fitting : Row → List Row → List Row
  fitting left some = filter (fits on) (map (λ right. left ++ right) some)

  implied : (f a r : Bool) → (a ≡ true → r ≡ true) → (f && a) ≡ (r && (f && a))
  implied f a true h = refl
  implied true true false h = sym (h refl)
  implied true false false h = refl
  implied false a false h = refl

  refuted : (f a l : Bool) → (a ≡ true → l ≡ true) → l ≡ false → (f && a) ≡ false
  refuted f a true h e = cc
  refuted true true false h e = sym (h refl)
  refuted true false false h e = refl
  refuted false a false h e = refl

  as_one : (left : Row) (some : List Row) → filter (all_true ps) (fitting left some)
      ≡ map (λ right. left ++ right) (filter (λ right. fits on (left ++ right) && all_true ps (left ++ right)) some)
  as_one left some =
      filter-filter (all_true ps) (fits on) (map (λ right. left ++ right) some)
      ∙ filter-map (λ row. fits on row && all_true ps row) (λ right. left ++ right) some

  one_left : (left : Row) → length left ≡ seam → (b : Bool) → of_lefts left ≡ b →
      filter (all_true ps) (fitting left rights) ≡ cond b (filter (all_true ps) (fitting left (filter of_rights rights))) []
  one_left left wide true e =
      as_one left rights
      ∙ ap (map (λ right. left ++ right)) (filter_agree (λ right. fits on (left ++ right) && all_true ps (left ++ right))
      (λ right. of_rights right && (fits on (left ++ right) && all_true ps (left ++ right)))
      (λ right. implied (fits on (left ++ right)) (all_true ps (left ++ right)) (of_rights right) (of_right_part seam left right wide ps)) rights
      ∙ sym (filter-filter (λ right. fits on (left ++ right) && all_true ps (left ++ right)) of_rights rights))
      ∙ sym (as_one left (filter of_rights rights))
  one_left left wide false e =
      as_one left rights
      ∙ ap (map (λ right. left ++ right)) (filter-none (λ right. fits on (left ++ right) && all_true ps (left ++ right))
      (λ right. refuted (fits on (left ++ right)) (all_true ps (left ++ right)) (of_lefts left) (of_left_part seam left right wide ps) e) rights)

  chosen : (b : Bool) (f : Row → List Row) (x : Row) (xs : List Row) → cond b (f x) [] ++ flat_map f xs ≡ flat_map f (cond b (x ∷ xs) xs)
  chosen true f x xs = refl
  chosen false f x xs = refl

  each : (some : List Row) → AllByRecursion (IsWide seam) some →
      flat_map (λ left. filter (all_true ps) (fitting left rights)) some
      ≡ flat_map (λ left. filter (all_true ps) (fitting left (filter of_rights rights))) (filter of_lefts some)
  each [] h = refl
  each (left ∷ some) h =
      let f : Row → List Row = λ one. filter (all_true ps) (fitting one (filter of_rights rights)) in
      ap (λ rows. rows ++ flat_map (λ one. filter (all_true ps) (fitting one rights)) some) (one_left left h.0 (of_lefts left) refl)
      ∙ ap (λ rows. cond (of_lefts left) (f left) [] ++ rows) (each some h.1)
      ∙ chosen (of_lefts left) f left (filter of_lefts some)

  pub before_too : (lefts : List Row) → AllByRecursion (IsWide seam) lefts →
      filter (all_true ps) (joined_rows on lefts rights) ≡ filter (all_true ps) (joined_rows on (filter of_lefts lefts) (filter of_rights rights))
  before_too lefts wide =
      filter-flat_map (all_true ps) (λ left. fitting left rights) lefts ∙ each lefts wide
      ∙ sym (filter-flat_map (all_true ps) (λ left. fitting left (filter of_rights rights)) (filter of_lefts lefts))

-- ---- every tree

skipped : (ps : List (Pred ℕ)) (tree : Tree) (some all : List (List Row)) → AreWide tree some → AreWide tree all → SameThrough ps tree some all →
    filter (all_true ps) (rows_over tree some) ≡ filter (all_true ps) (rows_over tree all)
skipped ps (scan table schema columns) some all v w h = h
skipped ps (filtered predicate tree) some all v w h =
    let both : (rows : List Row) → filter (all_true ps) (filter (is_true predicate) rows) ≡ filter (all_true (conjuncts predicate ++ ps)) rows =
    λ rows. filter-filter (all_true ps) (is_true predicate) rows
    ∙ sym (filter_agree (all_true (conjuncts predicate ++ ps)) (λ row. is_true predicate row && all_true ps row)
    (λ row. all-append (conjuncts predicate) ps row ∙ ap (λ b. b && all_true ps row) (conjuncts_are predicate row)) rows) in
    both (rows_over tree some) ∙ skipped (conjuncts predicate ++ ps) tree some all v w h ∙ sym (both (rows_over tree all))
skipped ps (joined left right on) some all v w h =
    let seam = tree_width left in
    let ls = filter (is_left seam) ps in
    let rs = map (moved seam) (filter (is_behind seam) ps) in
    let some_behind = drop (length (tree_schemas left)) some in
    let all_behind = drop (length (tree_schemas left)) all in
    let here = skipped ls left some all v.0 w.0 h.0 in
    let there = skipped rs right some_behind all_behind v.1 w.1 h.1 in
    before_too seam on ps (rows_over right some_behind) (rows_over left some) (wide_rows left some v.0)
    ∙ ap (λ rows. filter (all_true ps) (joined_rows on rows (filter (all_true rs) (rows_over right some_behind)))) here
    ∙ ap (λ rows. filter (all_true ps) (joined_rows on (filter (all_true ls) (rows_over left all)) rows)) there
    ∙ sym (before_too seam on ps (rows_over right all_behind) (rows_over left all) (wide_rows left all w.0))

pub skipping_keeps_rows : SkippingKeepsRows
skipping_keeps_rows tree some all v w same =
    sym (filter-all (rows_over tree some)) ∙ skipped [] tree some all v w same ∙ filter-all (rows_over tree all)
