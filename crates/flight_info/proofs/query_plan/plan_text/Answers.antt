use Rattle.std.proofs.Common.{◌≡◌, get_or, List, length, map, Some, sym, ap, ◌∙◌, inl, inr}
use Rattle.std.proofs.lemmas.Result.{err_from_is_err_and}
use Rattle.sql_query.specs.Sentence.{sentence_of}
use Rattle.sql_query.specs.declared.query.Join.{Join}
use Rattle.table_versions.specs.Database.{table_at}
use Rattle.table_versions.specs.StoredTables.{TableAt, tables_of}
use Rattle.typed_plan.specs.View.{tree_of, plan_of}
use Rattle.typed_plan.specs.HeldTables.{tree_tables}
use Rattle.flight_info.proofs.Meaning.{planned, names_are, first_held, place_is}
use Rattle.flight_info.proofs.query_plan.plan_text.Goals as goal

pub returns-in_err-query-clause-missed : goal.returns-in_err-query-clause-missed
returns-in_err-query-clause-missed c =
    let p = err_from_is_err_and c.from_residual.result c.from_residual.ensures.1 in
    rw (p.1, p.2) (λ other. inl c.in_err-query.ensures.parsed)

pub returns-in_err-plan-clause-missed : goal.returns-in_err-plan-clause-missed
returns-in_err-plan-clause-missed c =
    let p = err_from_is_err_and c.from_residual-in_err-plan.result c.from_residual-in_err-plan.ensures.1 in
    rw (p.1, p.2) (λ other. inr (sentence_of c.in_ok-query.query, c.in_ok-query.ensures.parsed, c.in_err-plan.ensures.bound other))

pub returns-clause-planned : goal.returns-clause-planned
returns-clause-planned c =
    let catalog = c.args.catalog.now in
    let query = c.in_ok-query.query in
    let bound = c.in_ok-plan.plan in
    let table = c.index-tables-0.result in
    let first : table ≡ get_or bound.tables 0 table = c.index-tables-0.is ∙ ap (λ (all : List TableAt). get_or all 0 table) c.tables.ensures.tables in
    let names = tree_tables (tree_of bound.plan) in
    let there : table_at catalog query.first.table ≡ Some table = first_held catalog query.first.table (map (λ (join : Join). join.place.table) query.joins) names bound.tables
    c.in_ok-plan.ensures.held c.in_ok-plan.ensures.places table first in
    let rows = c.rows-rows.ensures.rows ∙ ap length (sym (place_is catalog query.first (Some table) there)) in
    planned (tables_of catalog) c.args.text.now query (plan_of bound) c.rows-rows.result c.is_grouped-grouped.result c.in_ok-query.ensures.parsed
    c.in_ok-plan.ensures.bound.0 c.in_ok-plan.ensures.means rows c.rows-rows.ensures.few c.is_grouped-grouped.ensures
    (c.in_ok-plan.ensures.named (names_are query.select c.in_ok-query.ensures.named.select))
