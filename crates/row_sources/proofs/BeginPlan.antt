-- What gives the rows of a join of plans.
use Rattle.std.proofs.Common.{◌≡◌, ◌≤◌, ◌<◌, ℕ, zero, suc, ◌+◌, Bool, true, false, List, [], ◌∷◌, ◌++◌, length, map, nat_lt, drop, None, refl, sym, ap, ◌∙◌, subst, arith, length-append, length-drop, cond}
use Rattle.std.specs.Prelude.{◌-◌}
use Rattle.std.specs.List.{AllZip, filter, flat_map, list_all, range_with_len, zip}
use Rattle.std.proofs.lemmas.List.{drop_all, length-map, map-append, take_all}
use Rattle.std.proofs.lemmas.List.Elements.{filter-append, length_all_zip}
use Rattle.arrow_types.specs.Answer.{LiesAs}
use Rattle.arrow_types.specs.declared.data_type.DataType.{DataType}
use Rattle.arrow_types.specs.declared.schema.Schema.{Schema}
use Rattle.arrays.specs.Batch.{BatchAt, rows_of}
use Rattle.scan_base.specs.Limits.{most_rows}
use Rattle.scan_base.specs.Predicate.{cell_in}
use Rattle.table_versions.specs.StoredTables.{TableAt, table_of}
use Rattle.table_versions.specs.Table.{Row}
use Rattle.table_versions.proofs.Rowing.{length-rows_of, rows-cons}
use Rattle.typed_plan.specs.declared.plan.Columns.TheVariants as columns
use Rattle.typed_plan.specs.declared.plan.JoinKey.{JoinKey}
use Rattle.typed_plan.specs.Faults.{first_in}
use Rattle.typed_plan.specs.HeldTables.{tree_schemas}
use Rattle.typed_plan.specs.JoinedRows.{rows_between}
use Rattle.typed_plan.specs.Plan.{Tree, scan, filtered, joined, is_true, joined_rows}
use Rattle.typed_plan.specs.TypedPlans.{is_place, key_fault, spans, tree_types, IsTypedTree}
use Rattle.typed_plan.proofs.TypedNames.{then_none, key_there}
use Rattle.row_sources.specs.JoinParts.{CanJoin, JoinsRows, numbered_fits}
use Rattle.row_sources.specs.BegunRows.{IsBegun, tree_given}
use Rattle.row_sources.specs.CollectedRows.{plain_rows}
use Rattle.row_sources.specs.Parts.{numbered_parts, parts, numbered_rows}
use Rattle.rewrite.specs.Places.{first_rows, rows_over}
use Rattle.row_sources.specs.Running.{RowsAt}
use Rattle.row_sources.proofs.BeginJoin.{fits_over}
use Rattle.row_sources.proofs.Lying.{lie_behind, lie_copied}
use Rattle.row_sources.proofs.AllRows.{numbers_off}

-- ---- the tables of both sides

pub tree_some : (tree : Tree) → 0 < length (tree_schemas tree)
tree_some (scan table schema columns) = omega arith
tree_some (filtered predicate tree) = tree_some tree
tree_some (joined left right on) = omega (arith, length-append (tree_schemas left) (tree_schemas right), tree_some left)

-- a place has one table
place_one : (tree : Tree) → is_place tree ≡ true → (schema : Schema) × (tree_schemas tree ≡ schema ∷ [])
place_one (scan table schema columns) h = (schema, refl)
place_one (filtered predicate tree) h = place_one tree h
place_one (joined left right on) h = cc

last_parts : {X : Type 0} (xs ys : List X) (a b : X) → xs ++ a ∷ [] ≡ ys ++ b ∷ [] → (xs ≡ ys) × (a ≡ b)
last_parts [] [] a b e = (refl, cc)
last_parts [] (y ∷ ys) a b e = absurd (omega (arith, ap length e, length-append ys (b ∷ [])))
last_parts (x ∷ xs) [] a b e = absurd (omega (arith, ap length e, length-append xs (a ∷ [])))
last_parts (x ∷ xs) (y ∷ ys) a b e =
    let head : x ≡ y = cc in
    let tail : xs ++ a ∷ [] ≡ ys ++ b ∷ [] = cc in
    let p = last_parts xs ys a b tail in
    (ap (λ first. first ∷ xs) head ∙ ap (λ rest. y ∷ rest) p.0, p.1)

abbrev pub schemas_of : List TableAt → List Schema
schemas_of tables = map (λ (table : TableAt). table.schema) tables

-- the last table is that of a place at the right, and the others those of the left
pub sides_tables : (left right : Tree) (all lefts : List TableAt) (last : TableAt) → is_place right ≡ true →
    tree_schemas left ++ tree_schemas right ≡ schemas_of all → all ≡ lefts ++ last ∷ [] →
    (tree_schemas left ≡ schemas_of lefts) × (tree_schemas right ≡ last.schema ∷ [])
sides_tables left right all lefts last place e split =
    let one = place_one right place in
    let whole : tree_schemas left ++ one.0 ∷ [] ≡ schemas_of lefts ++ last.schema ∷ [] =
    ap (λ (schemas : List Schema). tree_schemas left ++ schemas) (sym one.1) ∙ e ∙ ap schemas_of split
    ∙ map-append (λ (table : TableAt). table.schema) lefts (last ∷ []) in
    let p = last_parts (tree_schemas left) (schemas_of lefts) one.0 last.schema whole in
    (p.0, one.1 ∙ ap (λ (schema : Schema). schema ∷ []) p.1)

-- ---- the rows of a place

place_none : (tree : Tree) → is_place tree ≡ true → rows_over tree ([] ∷ []) ≡ []
place_none (scan table schema columns.All) h = refl
place_none (scan table schema (columns.These numbers)) h = refl
place_none (filtered predicate tree) h = ap (filter (is_true predicate)) (place_none tree h)
place_none (joined left right on) h = cc

place_append : (tree : Tree) → is_place tree ≡ true → (some more : List Row) →
    rows_over tree ((some ++ more) ∷ []) ≡ rows_over tree (some ∷ []) ++ rows_over tree (more ∷ [])
place_append (scan table schema columns.All) h some more = refl
place_append (scan table schema (columns.These numbers)) h some more = map-append (λ (row : Row). map (cell_in row) numbers) some more
place_append (filtered predicate tree) h some more =
    ap (filter (is_true predicate)) (place_append tree h some more) ∙ filter-append (is_true predicate) (rows_over tree (some ∷ [])) (rows_over tree (more ∷ []))
place_append (joined left right on) h some more = cc

filter_few : (test : Row → Bool) (rows : List Row) → length (filter test rows) ≤ length rows
filter_few test [] = omega arith
filter_few test (row ∷ rows) = elim (test row) as (λ b. length (cond b (row ∷ filter test rows) (filter test rows)) ≤ suc (length rows)) [
  | true ↦ omega (arith, filter_few test rows)
  | false ↦ omega (arith, filter_few test rows)
]

place_few : (tree : Tree) → is_place tree ≡ true → (rows : List Row) → length (rows_over tree (rows ∷ [])) ≤ length rows
place_few (scan table schema columns.All) h rows = omega arith
place_few (scan table schema (columns.These numbers)) h rows = omega (arith, length-map rows (λ (row : Row). map (cell_in row) numbers))
place_few (filtered predicate tree) h rows = omega (arith, filter_few (is_true predicate) (rows_over tree (rows ∷ [])), place_few tree h rows)
place_few (joined left right on) h rows = cc

-- all parts together
module _ (g : List Row → List Row) (none : g [] ≡ []) (more : (some rest : List Row) → g (some ++ rest) ≡ g some ++ g rest) where
  whole_over : (n from to : ℕ) (batches : List BatchAt) → from ≡ 0 → length (flat_map rows_of batches) ≤ to →
      plain_rows (numbered_rows (map (λ (part : ℕ × List Row). (part.0, g part.1)) (zip (range_with_len n (length batches)) (parts from to batches))))
      ≡ g (flat_map rows_of batches)
  whole_over n from to [] f h = sym none
  whole_over n from to (batch ∷ batches) f h =
      let rows = rows_of batch in
      let size = length-rows_of batch in
      let long = rows-cons batch batches in
      let rest = numbered_rows (map (λ (part : ℕ × List Row). (part.0, g part.1)) (zip (range_with_len (n + 1) (length batches)) (parts (from - batch.rows) (to - batch.rows) batches))) in
      let here : rows_between from to rows ≡ rows = ap (λ (a : ℕ). rows_between a to rows) f ∙ take_all (to - 0) rows (omega (arith, size, long, h)) in
      map-append (λ (row : ℕ × Row). row.1) (map (λ row. (n, row)) (g (rows_between from to rows))) rest
      ∙ ap (λ (first : List Row). first ++ plain_rows rest) (numbers_off n (g (rows_between from to rows)) ∙ ap g here)
      ∙ ap (λ (others : List Row). g rows ++ others) (whole_over (n + 1) (from - batch.rows) (to - batch.rows) batches (omega (arith, f)) (omega (arith, long, h)))
      ∙ sym (more rows (flat_map rows_of batches))

-- all rows of a place
pub place_whole : (tree : Tree) → is_place tree ≡ true → (table : TableAt) (rows : ℕ) → rows ≡ length (flat_map rows_of table.batches) →
    plain_rows (tree_given tree (table ∷ []) 0 rows) ≡ rows_over tree (flat_map rows_of table.batches ∷ [])
place_whole tree place table rows counted =
    whole_over (λ (some : List Row). rows_over tree (some ∷ [])) (place_none tree place) (place_append tree place) 0 0 rows table.batches refl (omega (arith, counted))

-- ---- the rows of the left side

front_rows : (places extra : List (List Row)) → 0 < length places → first_rows (places ++ extra) ≡ first_rows places
front_rows [] extra h = absurd (omega (arith, h))
front_rows (rows ∷ places) extra h = refl

drop_front : (n : ℕ) (places extra : List (List Row)) → n ≤ length places → drop n (places ++ extra) ≡ drop n places ++ extra
drop_front zero places extra h = refl
drop_front (suc n) [] extra h = absurd (omega (arith, h))
drop_front (suc n) (rows ∷ places) extra h = drop_front n places extra (omega (arith, h))

-- a tree reads no further places than its own
over_front : (tree : Tree) (places extra : List (List Row)) → length (tree_schemas tree) ≤ length places → rows_over tree (places ++ extra) ≡ rows_over tree places
over_front (scan table schema some) places extra h = ap (λ (rows : List Row). rows_over (scan table schema some) (rows ∷ [])) (front_rows places extra (omega (arith, h)))
over_front (filtered predicate tree) places extra h = ap (filter (is_true predicate)) (over_front tree places extra h)
over_front (joined left right on) places extra h =
    let n = length (tree_schemas left) in
    let both = length-append (tree_schemas left) (tree_schemas right) in
    ap (λ (rows : List Row). joined_rows on rows (rows_over right (drop n (places ++ extra)))) (over_front left places extra (omega (arith, h, both)))
    ∙ ap (λ (others : List (List Row)). joined_rows on (rows_over left places) (rows_over right others)) (drop_front n places extra (omega (arith, h, both)))
    ∙ ap (joined_rows on (rows_over left places)) (over_front right (drop n places) extra (omega (arith, h, both, length-drop n places)))

drop_exact : (n : ℕ) (places : List (List Row)) → n ≡ length places → drop n places ≡ []
drop_exact n places e = drop_all n places (omega (arith, e))

abbrev pub plain_of : List TableAt → List (List Row)
plain_of tables = map (λ (table : TableAt). (table_of table).rows) tables

-- a part joined with all rows of the last table
part_joined : (left right : Tree) (on : List JoinKey) (more : List TableAt) (last : TableAt) → length (tree_schemas left) ≡ suc (length more) → (rows : List Row) →
    joined_rows on (rows_over left (rows ∷ plain_of more)) (rows_over right (flat_map rows_of last.batches ∷ []))
    ≡ rows_over (joined left right on) (rows ∷ plain_of (more ++ last ∷ []))
part_joined left right on more last e rows =
    let extra : List (List Row) = flat_map rows_of last.batches ∷ [] in
    let n = length (tree_schemas left) in
    let places : List (List Row) = rows ∷ plain_of more in
    let long : length places ≡ n = ap suc (length-map more (λ (table : TableAt). (table_of table).rows)) ∙ sym e in
    let whole : rows ∷ plain_of (more ++ last ∷ []) ≡ places ++ extra = ap (λ (others : List (List Row)). rows ∷ others) (map-append (λ (table : TableAt). (table_of table).rows) more (last ∷ [])) in
    ap (λ (some : List Row). joined_rows on some (rows_over right extra)) (sym (over_front left places extra (omega (arith, long))))
    ∙ ap (λ (others : List (List Row)). joined_rows on (rows_over left (places ++ extra)) (rows_over right others))
    (sym (drop_front n places extra (omega (arith, long)) ∙ ap (λ (others : List (List Row)). others ++ extra) (drop_exact n places (sym long))))
    ∙ ap (rows_over (joined left right on)) (sym whole)

parts_along : (f g : List Row → List Row) → ((rows : List Row) → f rows ≡ g rows) → (some : List (ℕ × List Row)) →
    numbered_rows (map (λ (part : ℕ × List Row). (part.0, f part.1)) some) ≡ numbered_rows (map (λ (part : ℕ × List Row). (part.0, g part.1)) some)
parts_along f g same [] = refl
parts_along f g same (part ∷ some) =
    ap (λ (rows : List Row). map (λ row. (part.0, row)) rows ++ numbered_rows (map (λ (part : ℕ × List Row). (part.0, f part.1)) some)) (same part.1)
    ∙ ap (λ (rest : List (ℕ × Row)). map (λ row. (part.0, row)) (g part.1) ++ rest) (parts_along f g same some)

-- ---- types

pub as_many_types : (tree : Tree) (tables : List TableAt) (from to : ℕ) (rows : RowsAt) → IsBegun tree tables from to rows → length rows.types ≡ length (tree_types tree)
as_many_types tree tables from to rows is = sym (length_all_zip LiesAs (tree_types tree) rows.types is.types)

-- ---- joined plans

pub joined_begun : (left right : Tree) (on : List JoinKey) (lefts : List TableAt) (last : TableAt) (from to rows : ℕ) (a b made : RowsAt) →
    IsBegun left lefts from to a → IsBegun right (last ∷ []) 0 rows b → rows ≡ length (flat_map rows_of last.batches) → is_place right ≡ true →
    tree_schemas left ≡ schemas_of lefts → JoinsRows on a b made → IsBegun (joined left right on) (lefts ++ last ∷ []) from to made
joined_begun left right on [] last from to rows a b made l r counted place e joins = absurd (omega (arith, tree_some left, ap length e))
joined_begun left right on (first ∷ more) last from to rows a b made l r counted place e joins =
    let all = rows_over right (flat_map rows_of last.batches ∷ []) in
    let rights : plain_rows b.ahead ≡ all = ap plain_rows r.ahead ∙ place_whole right place last rows counted in
    let long : length (tree_schemas left) ≡ suc (length more) = ap length e ∙ length-map (first ∷ more) (λ (table : TableAt). table.schema) in
    record {
      types = subst (AllZip LiesAs (tree_types left ++ tree_types right)) (sym joins.types)
          (lie_copied (tree_types left ++ tree_types right) (a.types ++ b.types) (lie_behind (tree_types left) a.types (tree_types right) b.types l.types r.types));
      ahead = joins.ahead
          ∙ ap (λ (some : List Row). numbered_fits on some a.ahead) rights
          ∙ ap (numbered_fits on all) l.ahead
          ∙ fits_over on all (λ (part : List Row). rows_over left (part ∷ plain_of more)) (numbered_parts from to first.batches)
          ∙ parts_along (λ (part : List Row). joined_rows on (rows_over left (part ∷ plain_of more)) all)
          (λ (part : List Row). rows_over (joined left right on) (part ∷ plain_of (more ++ last ∷ []))) (part_joined left right on more last long) (numbered_parts from to first.batches);
      wide = joins.wide;
      batches = joins.batches ∙ l.batches;
      opened = joins.opened;
    }

-- a key's cells are there
keys_there : (types : List DataType) (on : List JoinKey) → first_in (key_fault types) on ≡ None → list_all (λ (key : JoinKey). nat_lt key.right (length types)) on ≡ true
keys_there types [] h = refl
keys_there types (key ∷ on) h =
    let p = then_none (key_fault types key) (first_in (key_fault types) on) h in
    rw ((key_there types key p.0).1, keys_there types on p.1) refl

pub can_join : (left right : Tree) (on : List JoinKey) (lefts : List TableAt) (last : TableAt) (from to rows : ℕ) (a b : RowsAt) →
    IsTypedTree (joined left right on) → IsBegun left lefts from to a → IsBegun right (last ∷ []) 0 rows b → rows ≡ length (flat_map rows_of last.batches) → rows ≤ most_rows → CanJoin on a b
can_join left right on lefts last from to rows a b typed l r counted few =
    let one = as_many_types left lefts from to a l in
    let other = as_many_types right (last ∷ []) 0 rows b r in
    let size = length-map b.ahead (λ (row : ℕ × Row). row.1) in
    let all = ap length (ap plain_rows r.ahead ∙ place_whole right typed.2 last rows counted) in
    let fewer = place_few right typed.2 (flat_map rows_of last.batches) in
    let both : length a.types + length b.types ≡ length (tree_types left ++ tree_types right) = omega (arith, one, other, length-append (tree_types left) (tree_types right)) in
    record {
      left_wide = l.wide;
      right_wide = r.wide;
      left_unopened = l.opened;
      right_unopened = r.opened;
      few = omega (arith, size, all, fewer, counted, few);
      spanned = subst (λ (n : ℕ). list_all (spans n) on ≡ true) (sym one) typed.4;
      there = subst (λ (n : ℕ). list_all (λ (key : JoinKey). nat_lt key.right n) on ≡ true) (sym both) (keys_there (tree_types left ++ tree_types right) on typed.3);
    }
