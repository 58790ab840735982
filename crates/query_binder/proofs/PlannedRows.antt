-- The tree of a query's plan gives the rows of FROM and WHERE.
use Rattle.std.proofs.Common.{◌≡◌, ℕ, Bool, true, false, nat_lt, if◌then◌else◌, List, [], ◌∷◌, ◌++◌, length, map, filter, Option}
use Rattle.std.proofs.Common.{Some, None, refl, sym, ap, ◌∙◌}
use Rattle.std.specs.List.{flat_map}
use Rattle.std.specs.Ordering.{is_eq, int_cmp, bool_cmp, nat_cmp, ordering_reverse}
use Rattle.std.specs.Cmp.{bool_cmp_total}
use Rattle.std.specs.Cmp.Lexicographic.{slice_cmp}
use Rattle.std.specs.declared.cmp.Ordering.{Ordering}
use Rattle.std.specs.declared.cmp.Ordering.TheVariants.{Less, Equal as Same, Greater}
use Rattle.std.proofs.lemmas.Cmp.{int_cmp_total, nat_list_cmp_total}
use Rattle.std.proofs.lemmas.List.Elements.{filter_agree}
use Rattle.scan_base.specs.declared.comparison.Comparison.TheVariants.{Equal}
use Rattle.scan_base.specs.declared.value.Value.{Value}
use Rattle.scan_base.specs.declared.value.Value.TheVariants.{Null, Bool as Flag, Int, Text}
use Rattle.scan_base.specs.Comparison.{compared}
use Rattle.scan_base.specs.Predicate.{Pred, cell_in}
use Rattle.scan_base.specs.Truth.{truth_from, keeps}
use Rattle.sql_query.specs.declared.query.Term.{Term}
use Rattle.sql_query.specs.declared.query.Equality.{Equality}
use Rattle.sql_query.specs.declared.query.Join.{Join}
use Rattle.sql_query.specs.Sentence.{Sentence}
use Rattle.table_versions.specs.Table.{Row}
use Rattle.table_versions.specs.Database.{Database}
use Rattle.typed_plan.specs.declared.plan.JoinKey.{JoinKey}
use Rattle.typed_plan.specs.Scope.{Scope, numbered, term_operand}
use Rattle.typed_plan.specs.SettledLiterals.{settled}
use Rattle.typed_plan.specs.JoinedRows.{place_columns, place_rows, scope_of, fits_on, extensions, rows_after, rows_between}
use Rattle.typed_plan.specs.JoinedRows.{meets_where, kept_rows}
use Rattle.typed_plan.specs.NumberedPredicates.{predicate_bind}
use Rattle.typed_plan.proofs.Numbered.{truth_of-bind}
use Rattle.typed_plan.specs.Plan.{Tree, joined as both, is_true, fits, joined_rows, tree_rows}
use Rattle.query_binder.specs.PlannedTree.{place_tree, join_key, keys_of, joins_tree, from_tree, numbered_filter, where_kept}
use Rattle.query_binder.specs.PlannedTree.{plan_for}

-- ---- ON

reversed_same : (order : Ordering) → is_eq (ordering_reverse order) ≡ is_eq order
reversed_same Less = refl
reversed_same Same = refl
reversed_same Greater = refl

-- two values are as equal as they are the other way round
pub equal_both_ways : (a b : Value) → keeps (compared Equal a b) ≡ keeps (compared Equal b a)
equal_both_ways (Flag a) (Flag b) =
    ap (λ same. keeps (truth_from same)) (ap is_eq (bool_cmp_total.antisymm a b) ∙ reversed_same (bool_cmp b a))
equal_both_ways (Int a) (Int b) =
    ap (λ same. keeps (truth_from same)) (ap is_eq (int_cmp_total.antisymm a b) ∙ reversed_same (int_cmp b a))
equal_both_ways (Text a) (Text b) =
    ap (λ same. keeps (truth_from same))
    (ap is_eq (nat_list_cmp_total.antisymm a b) ∙ reversed_same (slice_cmp nat_cmp b a))
equal_both_ways Null Null = refl
equal_both_ways Null (Flag b) = refl
equal_both_ways Null (Int b) = refl
equal_both_ways Null (Text b) = refl
equal_both_ways (Flag a) Null = refl
equal_both_ways (Flag a) (Int b) = refl
equal_both_ways (Flag a) (Text b) = refl
equal_both_ways (Int a) Null = refl
equal_both_ways (Int a) (Flag b) = refl
equal_both_ways (Int a) (Text b) = refl
equal_both_ways (Text a) Null = refl
equal_both_ways (Text a) (Flag b) = refl
equal_both_ways (Text a) (Int b) = refl

-- whether two cells of a row are equal
abbrev are_equal : Row → ℕ → ℕ → Bool
are_equal row one other = keeps (compared Equal (cell_in row one) (cell_in row other))

-- the order of a key's cells does not matter
key_is : (seam one other : ℕ) (row : Row) →
    are_equal row (join_key seam one other).left (join_key seam one other).right ≡ are_equal row one other
key_is seam one other row = ordered (nat_lt one seam)
  where
    ordered : (earlier : Bool) →
        (let key : JoinKey =
        if earlier then record { left = one; right = other } else record { left = other; right = one } in
        are_equal row key.left key.right) ≡ are_equal row one other
    ordered true = refl
    ordered false = equal_both_ways (cell_in row other) (cell_in row one)

on_is : (scope : Scope) (seam : ℕ) (on : List Equality) (row : Row) →
    fits (keys_of seam scope on) row ≡ fits_on scope on row
on_is scope seam [] row = refl
on_is scope seam (equality ∷ on) row =
    let here = key_is seam (numbered scope equality.left) (numbered scope equality.right) row in
    let there = on_is scope seam on row in
    cc

-- ---- FROM

flat_map_agree : {X Y : Type 0} (f g : X → List Y) → ((x : X) → f x ≡ g x) → (xs : List X) →
    flat_map f xs ≡ flat_map g xs
flat_map_agree f g same [] = refl
flat_map_agree f g same (x ∷ xs) =
    ap (λ ys. ys ++ flat_map f xs) (same x) ∙ ap (λ ys. g x ++ ys) (flat_map_agree f g same xs)

-- the joined rows of a tree and a place are the extensions of the tree's rows
join_is : (scope : Scope) (seam : ℕ) (on : List Equality) (lefts rights : List Row) →
    joined_rows (keys_of seam scope on) lefts rights ≡ flat_map (extensions scope on rights) lefts
join_is scope seam on lefts rights =
    flat_map_agree (λ left. filter (fits (keys_of seam scope on)) (map (λ right. left ++ right) rights))
    (extensions scope on rights)
    (λ left. filter_agree (fits (keys_of seam scope on)) (fits_on scope on) (on_is scope seam on)
    (map (λ right. left ++ right) rights))
    lefts

-- the joins of a tree give the rows after these joins
pub joins_are : (database : Database) (scope : Scope) (tree : Tree) (joins : List Join) (cut : List Row → List Row) →
    tree_rows (joins_tree database scope tree joins) database cut
    ≡ rows_after database scope joins (tree_rows tree database cut)
joins_are database scope tree [] cut = refl
joins_are database scope tree (join ∷ joins) cut =
    let wider = scope ++ place_columns database join.place in
    let keys = keys_of (length scope) wider join.on in
    joins_are database wider (both tree (place_tree database join.place) keys) joins cut
    ∙ ap (rows_after database wider joins)
    (join_is wider (length scope) join.on (tree_rows tree database cut) (place_rows database join.place))

-- ---- WHERE

-- a filter that all pass
filter-all : {X : Type 0} (xs : List X) → filter (λ x. true) xs ≡ xs
filter-all [] = refl
filter-all (x ∷ xs) = ap (λ ys. x ∷ ys) (filter-all xs)

-- what WHERE leaves of the rows of a tree
where_are : (scope : Scope) (filtering : Option (Pred Term)) (tree : Tree) (database : Database)
    (cut : List Row → List Row) →
    tree_rows (where_kept (numbered_filter scope filtering) tree) database cut
    ≡ filter (meets_where scope filtering) (tree_rows tree database cut)
where_are scope None tree database cut = sym (filter-all (tree_rows tree database cut))
where_are scope (Some predicate) tree database cut =
    filter_agree (is_true (predicate_bind (term_operand scope) (settled scope predicate))) (meets_where scope (Some predicate))
    (λ row. ap keeps (truth_of-bind (cell_in row) (term_operand scope) (settled scope predicate))) (tree_rows tree database cut)

-- the tree gives the rows of FROM and WHERE
pub rows_are : (query : Sentence) (database : Database) (a b : ℕ) →
    tree_rows (plan_for query database).tree database (rows_between a b) ≡ kept_rows query database a b
rows_are query database a b =
    let scope = scope_of query database in
    where_are scope query.filter (from_tree query database) database (rows_between a b)
    ∙ ap (filter (meets_where scope query.filter))
    (joins_are database (place_columns database query.first) (place_tree database query.first) query.joins
    (rows_between a b))
