-- What holds place by place, from the left, holds of a tree.
use Rattle.std.proofs.Common.{◌≡◌, ◌<◌, ℕ, ◌+◌, true, List, [], ◌∷◌, ◌++◌, length, drop, refl, sym, ap, ◌∙◌, subst, arith, length-append}
use Rattle.std.specs.List.{filter}
use Rattle.std.proofs.lemmas.List.{length-map}
use Rattle.arrow_types.specs.declared.schema.Schema.{Schema}
use Rattle.scan_base.specs.Predicate.{Pred}
use Rattle.table_versions.specs.Table.{Row}
use Rattle.typed_plan.specs.declared.plan.Columns.{Columns}
use Rattle.typed_plan.specs.declared.plan.Columns.TheVariants as columns
use Rattle.typed_plan.specs.HeldTables.{tree_schemas}
use Rattle.typed_plan.specs.Plan.{Tree, scan, filtered, joined, taken}
use Rattle.typed_plan.specs.TypedPlans.{is_place, tree_types, types_of, types_taken, type_at}
use Rattle.rewrite.specs.Conjuncts.{all_true}
use Rattle.rewrite.specs.Places.{first_rows, tree_width}
use Rattle.batch_skipping.specs.OpenedBatches.{given_width, scans_of}
use Rattle.scan_exec.proofs.Through.{IsDeep, PlacesSame, first_need, need_behind, place_columns}
use Rattle.scan_exec.proofs.Wide.{drop_one}

-- a scan gives as many columns as it takes of its table
pub width_is : (some : Columns) (schema : Schema) → length (types_taken some (types_of schema.fields)) ≡ given_width some (length schema.fields)
width_is columns.All schema = length-map schema.fields _
width_is (columns.These numbers) schema = length-map numbers (type_at (types_of schema.fields))

-- what a place lets through is the same
abbrev pub LetsSame : List (Pred ℕ) → Columns → List (List Row) → List (List Row) → Type 0
LetsSame need some_columns some all =
    filter (all_true need) (taken some_columns (first_rows some)) ≡ filter (all_true need) (taken some_columns (first_rows all))

-- so it is of each place of these scans and columns, where so many columns stand before them
abbrev pub EachSame : List (Pred ℕ) → ℕ → List Columns → List Schema → List (List Row) → List (List Row) → Type 0
EachSame parts first (some_columns ∷ scans) (schema ∷ schemas) some all =
    LetsSame (need_behind parts first (given_width some_columns (length schema.fields))) some_columns some all
    × EachSame parts (first + given_width some_columns (length schema.fields)) scans schemas (drop 1 some) (drop 1 all)
EachSame parts first _ _ some all = Unit {0}

-- how many columns they give
abbrev total_width : List Columns → List Schema → ℕ
total_width (some_columns ∷ scans) (schema ∷ schemas) = given_width some_columns (length schema.fields) + total_width scans schemas
total_width _ _ = 0

-- and of the last one
each_last : (parts : List (Pred ℕ)) (first : ℕ) (scans : List Columns) (schemas : List Schema) (last : Columns) (schema : Schema) (some all : List (List Row)) →
    length scans ≡ length schemas → EachSame parts first (scans ++ last ∷ []) (schemas ++ schema ∷ []) some all →
    EachSame parts first scans schemas some all
    × LetsSame (need_behind parts (first + total_width scans schemas) (given_width last (length schema.fields))) last (drop (length schemas) some) (drop (length schemas) all)
each_last parts first [] [] last schema some all same each =
    let e : first + 0 ≡ first = omega arith in
    (tt, subst (λ (n : ℕ). LetsSame (need_behind parts n (given_width last (length schema.fields))) last some all) (sym e) each.0)
each_last parts first [] (s ∷ schemas) last schema some all same each = absurd (omega (arith, same))
each_last parts first (c ∷ scans) [] last schema some all same each = absurd (omega (arith, same))
each_last parts first (c ∷ scans) (s ∷ schemas) last schema some all same each =
    let width = given_width c (length s.fields) in
    let rest = each_last parts (first + width) scans schemas last schema (drop 1 some) (drop 1 all) (omega (arith, same)) each.1 in
    let e : first + width + total_width scans schemas ≡ first + (width + total_width scans schemas) = omega arith in (
      (each.0, rest.0),
      subst (λ (xs : List (List Row)). LetsSame (need_behind parts (first + (width + total_width scans schemas)) (given_width last (length schema.fields))) last xs (drop (length (s ∷ schemas)) all))
          (drop_one (length schemas) some)
          (subst (λ (xs : List (List Row)). LetsSame (need_behind parts (first + (width + total_width scans schemas)) (given_width last (length schema.fields))) last (drop (length schemas) (drop 1 some)) xs)
          (drop_one (length schemas) all)
          (subst (λ (n : ℕ). LetsSame (need_behind parts n (given_width last (length schema.fields))) last (drop (length schemas) (drop 1 some)) (drop (length schemas) (drop 1 all))) e rest.1)),
    )

-- a place has one scan and one table
place_scan : (tree : Tree) → is_place tree ≡ true → scans_of tree ≡ place_columns tree ∷ []
place_scan (scan table schema some) h = refl
place_scan (filtered predicate tree) h = place_scan tree h
place_scan (joined left right on) h = cc

place_schema : (tree : Tree) → is_place tree ≡ true → (schema : Schema) × ((tree_schemas tree ≡ schema ∷ []) × (tree_width tree ≡ given_width (place_columns tree) (length schema.fields)))
place_schema (scan table schema some) h = (schema, (refl, width_is some schema))
place_schema (filtered predicate tree) h = place_schema tree h
place_schema (joined left right on) h = cc

-- a scan for each table
pub as_many_scans : (tree : Tree) → length (scans_of tree) ≡ length (tree_schemas tree)
as_many_scans (scan table schema some) = refl
as_many_scans (filtered predicate tree) = as_many_scans tree
as_many_scans (joined left right on) =
    omega (arith, as_many_scans left, as_many_scans right, length-append (scans_of left) (scans_of right), length-append (tree_schemas left) (tree_schemas right))

-- the first place, and those after it
abbrev pub AllSame : List (Pred ℕ) → List Columns → List Schema → List (List Row) → List (List Row) → Type 0
AllSame parts (some_columns ∷ scans) (schema ∷ schemas) some all =
    LetsSame (first_need parts (given_width some_columns (length schema.fields))) some_columns some all
    × EachSame parts (given_width some_columns (length schema.fields)) scans schemas (drop 1 some) (drop 1 all)
AllSame parts _ _ some all = Unit {0}

all_last : (parts : List (Pred ℕ)) (scans : List Columns) (schemas : List Schema) (last : Columns) (schema : Schema) (some all : List (List Row)) →
    length scans ≡ length schemas → 0 < length schemas → AllSame parts (scans ++ last ∷ []) (schemas ++ schema ∷ []) some all →
    AllSame parts scans schemas some all
    × LetsSame (need_behind parts (total_width scans schemas) (given_width last (length schema.fields))) last (drop (length schemas) some) (drop (length schemas) all)
all_last parts scans [] last schema some all same more each = absurd (omega (arith, more))
all_last parts [] (s ∷ schemas) last schema some all same more each = absurd (omega (arith, same))
all_last parts (c ∷ scans) (s ∷ schemas) last schema some all same more each =
    let width = given_width c (length s.fields) in
    let rest = each_last parts width scans schemas last schema (drop 1 some) (drop 1 all) (omega (arith, same)) each.1 in (
      (each.0, rest.0),
      subst (λ (xs : List (List Row)). LetsSame (need_behind parts (width + total_width scans schemas) (given_width last (length schema.fields))) last xs (drop (length (s ∷ schemas)) all))
          (drop_one (length schemas) some)
          (subst (λ (xs : List (List Row)). LetsSame (need_behind parts (width + total_width scans schemas) (given_width last (length schema.fields))) last (drop (length schemas) (drop 1 some)) xs)
          (drop_one (length schemas) all) rest.1),
    )

-- the columns of a tree are those of its scans
total_append : (xs ys : List Columns) (ss ts : List Schema) → length xs ≡ length ss → total_width (xs ++ ys) (ss ++ ts) ≡ total_width xs ss + total_width ys ts
total_append [] ys [] ts same = omega arith
total_append [] ys (s ∷ ss) ts same = absurd (omega (arith, same))
total_append (x ∷ xs) ys [] ts same = absurd (omega (arith, same))
total_append (x ∷ xs) ys (s ∷ ss) ts same =
    let rest = total_append xs ys ss ts (omega (arith, same)) in
    omega (arith, rest)

width_total : (tree : Tree) → tree_width tree ≡ total_width (scans_of tree) (tree_schemas tree)
width_total (scan table schema some) = width_is some schema ∙ omega arith
width_total (filtered predicate tree) = width_total tree
width_total (joined left right on) =
    let both = total_append (scans_of left) (scans_of right) (tree_schemas left) (tree_schemas right) (as_many_scans left) in
    omega (arith, length-append (tree_types left) (tree_types right), both, width_total left, width_total right)

schemas_some : (tree : Tree) → 0 < length (tree_schemas tree)
schemas_some (scan table schema some) = omega arith
schemas_some (filtered predicate tree) = schemas_some tree
schemas_some (joined left right on) = omega (arith, length-append (tree_schemas left) (tree_schemas right), schemas_some left)

pub places_same : (parts : List (Pred ℕ)) (tree : Tree) → IsDeep tree → (some all : List (List Row)) → AllSame parts (scans_of tree) (tree_schemas tree) some all →
    PlacesSame parts tree some all
places_same parts (scan table schema some_columns) deep some all each =
    subst (λ (n : ℕ). LetsSame (first_need parts n) some_columns some all) (sym (width_is some_columns schema)) each.0
places_same parts (filtered predicate tree) deep some all each = places_same parts tree deep some all each
places_same parts (joined left right on) deep some all each =
    let one = place_schema right deep.1 in
    let scans = ap (λ (xs : List Columns). scans_of left ++ xs) (place_scan right deep.1) in
    let schemas = ap (λ (xs : List Schema). tree_schemas left ++ xs) one.1.0 in
    let split = all_last parts (scans_of left) (tree_schemas left) (place_columns right) one.0 some all (as_many_scans left) (schemas_some left)
    (subst (λ (xs : List Schema). AllSame parts (scans_of left ++ place_columns right ∷ []) xs some all) schemas
    (subst (λ (xs : List Columns). AllSame parts xs (tree_schemas left ++ tree_schemas right) some all) scans each)) in (
      places_same parts left deep.0 some all split.0,
      subst (λ (n : ℕ). LetsSame (need_behind parts (tree_width left) n) (place_columns right) (drop (length (tree_schemas left)) some) (drop (length (tree_schemas left)) all)) (sym one.1.1)
          (subst (λ (n : ℕ). LetsSame (need_behind parts n (given_width (place_columns right) (length (one.0).fields))) (place_columns right) (drop (length (tree_schemas left)) some) (drop (length (tree_schemas left)) all))
          (sym (width_total left)) split.1),
    )
