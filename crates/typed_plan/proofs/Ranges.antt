-- Neighboring ranges join.
use Rattle.std.proofs.Common.{◌≡◌, ℕ, ◌+◌, ◌-◌, ◌≤◌, false, List, [], ◌∷◌, ◌++◌, map, filter, take, drop, refl, sym, ap}
use Rattle.std.proofs.Common.{◌∙◌, arith, cond, take-add, drop-drop}
use Rattle.std.proofs.lemmas.Grind.{flat_map-append}
use Rattle.std.proofs.lemmas.List.{map-append}
use Rattle.std.proofs.lemmas.List.Elements.{filter-append}
use Rattle.sql_query.specs.declared.query.Join.{Join}
use Rattle.sql_query.specs.Sentence.{Sentence, is_grouped}
use Rattle.table_versions.specs.Table.{Row}
use Rattle.table_versions.specs.Database.{Database}
use Rattle.typed_plan.specs.Scope.{Scope}
use Rattle.typed_plan.specs.JoinedRows.{rows_after, extensions, place_columns, place_rows, rows_between, from_rows, kept_rows}
use Rattle.typed_plan.specs.JoinedRows.{meets_where, scope_of}
use Rattle.typed_plan.specs.GroupedRows.{groups_of}
use Rattle.typed_plan.specs.Meaning.{RangesJoin, meaning, selected, group_values}

rows_after-append : (database : Database) (scope : Scope) (joins : List Join) (xs ys : List Row) →
    rows_after database scope joins (xs ++ ys)
    ≡ rows_after database scope joins xs ++ rows_after database scope joins ys
rows_after-append database scope [] xs ys = refl
rows_after-append database scope (join ∷ joins) xs ys =
    let wider = scope ++ place_columns database join.place in
    ap (rows_after database wider joins)
    (flat_map-append (extensions wider join.on (place_rows database join.place)) xs ys)
    ∙ rows_after-append database wider joins _ _

pub rows_between-append : (a b c : ℕ) (rows : List Row) → a ≤ b → b ≤ c →
    rows_between a b rows ++ rows_between b c rows ≡ rows_between a c rows
rows_between-append a b c rows h k =
    let sizes : c - a ≡ (b - a) + (c - b) = omega arith in
    let starts : a + (b - a) ≡ b = omega arith in
    sym (ap (λ n. take n (drop a rows)) sizes ∙ take-add (b - a) (c - b) (drop a rows)
    ∙ ap (λ xs. take (b - a) (drop a rows) ++ take (c - b) xs)
    (drop-drop (b - a) a rows ∙ ap (λ n. drop n rows) starts))

joined-append : (query : Sentence) (database : Database) (a b c : ℕ) → a ≤ b → b ≤ c →
    from_rows query database a b ++ from_rows query database b c ≡ from_rows query database a c
joined-append query database a b c h k =
    sym (rows_after-append database (place_columns database query.first) query.joins _ _)
    ∙ ap (rows_after database (place_columns database query.first) query.joins)
    (rows_between-append a b c (place_rows database query.first) h k)

kept-append : (query : Sentence) (database : Database) (a b c : ℕ) → a ≤ b → b ≤ c →
    kept_rows query database a b ++ kept_rows query database b c ≡ kept_rows query database a c
kept-append query database a b c h k =
    let test = meets_where (scope_of query database) query.filter in
    sym (filter-append test (from_rows query database a b) (from_rows query database b c))
    ∙ ap (filter test) (joined-append query database a b c h k)

pub meaning-plain : (query : Sentence) (database : Database) (a b : ℕ) → is_grouped query ≡ false →
    meaning query database a b ≡ map (selected (scope_of query database) query.select) (kept_rows query database a b)
meaning-plain query database a b plain =
    ap (λ grouped. cond grouped (map (group_values (scope_of query database) query.select)
    (groups_of (scope_of query database) query.group_by (kept_rows query database a b)))
    (map (selected (scope_of query database) query.select) (kept_rows query database a b))) plain

pub ranges_join : RangesJoin
ranges_join query database a b c plain h k =
    let pick = selected (scope_of query database) query.select in
    ap (λ xs. xs ++ meaning query database b c) (meaning-plain query database a b plain)
    ∙ ap (λ xs. map pick (kept_rows query database a b) ++ xs) (meaning-plain query database b c plain)
    ∙ sym (map-append pick (kept_rows query database a b) (kept_rows query database b c))
    ∙ ap (map pick) (kept-append query database a b c h k) ∙ sym (meaning-plain query database a c plain)
