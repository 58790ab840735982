use Rattle.std.proofs.Common.{◌≡◌, ◌-◌, [], ◌∷◌, false, Some, None, length, map, take, drop, refl, sym, ap, subst, ◌∙◌, rules}
use Rattle.std.proofs.lemmas.Result.{err_from_is_err_and}
use Rattle.arrow_types.specs.Schema.{IsSchema}
use Rattle.std.specs.Option.{option_copied}
use Rattle.sql_query.specs.Sentence.{sentence_of, is_left_out_whole}
use Rattle.table_versions.specs.StoredTables.{TableAt, tables_of, plain}
use Rattle.query_binder.specs.PlaceTables.{AreTablesOf, names_of, places_of}
use Rattle.table_versions.specs.Database.{table_at}
use Rattle.table_versions.proofs.Stores.{table_at-tables_of}
use Rattle.query_binder.specs.Binding.{IsPlanOf}
use Rattle.query_binder.specs.NameRules.{places_fault}
use Rattle.typed_plan.specs.HeldTables.{tree_tables, tree_schemas}
use Rattle.typed_plan.specs.Plan.{PlanAt}
use Rattle.typed_plan.specs.TypedPlans.{IsTyped}
use Rattle.typed_plan.specs.View.{BoundAt, plan_of}
use Rattle.query_binder.proofs.LookedUp.{glance_is, glance_refuses}
use Rattle.query_binder.proofs.Over.{others_are, fault_is, bound_over, schemas_are, names_hold}
use Rattle.query_binder.proofs.PlanMeans.{plan_means, plan_reads}
use Rattle.query_binder.proofs.PlannedTypes.{plan_typed}
use Rattle.query_binder.proofs.binding.bind.Goals as goal

pub returns-in_default-clause-bound : goal.returns-in_default-clause-bound
returns-in_default-clause-bound c other =
    let query = sentence_of c.args.query.now in
    let going : is_left_out_whole query ≡ false = sym c.is_left_out.ensures ∙ c.if-is_left_out.false in
    let absent = table_at-tables_of c.args.catalog.now query.first.table
    ∙ ap plain (sym c.get.ensures ∙ ap option_copied c.in_default.is) in
    rw (going, absent) refl

pub returns-in_default-clause-first : goal.returns-in_default-clause-first
returns-in_default-clause-first c =
    let query = sentence_of c.args.query.now in
    let going : is_left_out_whole query ≡ false = sym c.is_left_out.ensures ∙ c.if-is_left_out.false in
    let absent = table_at-tables_of c.args.catalog.now query.first.table
    ∙ ap plain (sym c.get.ensures ∙ ap option_copied c.in_default.is) in
    rw (going, absent) refl

pub returns-in_err-check_joins-clause-bound : goal.returns-in_err-check_joins-clause-bound
returns-in_err-check_joins-clause-bound c =
    let query = sentence_of c.args.query.now in
    let catalog = c.args.catalog.now in
    let shown = glance_is query catalog c.in-Some.first.now (sym c.is_left_out.ensures ∙ c.if-is_left_out.false)
    (sym c.get.ensures ∙ ap option_copied c.in-Some.is) in
    let p = err_from_is_err_and c.from_residual.result c.from_residual.ensures.1 in
    rw (p.1, p.2) (λ apart. glance_refuses query (tables_of catalog) _ (shown ∙ sym c.in_err-check_joins.ensures))

pub returns-in_err-check_joins-clause-first : goal.returns-in_err-check_joins-clause-first
returns-in_err-check_joins-clause-first c =
    let query = sentence_of c.args.query.now in
    let shown = glance_is query c.args.catalog.now c.in-Some.first.now (sym c.is_left_out.ensures ∙ c.if-is_left_out.false)
    (sym c.get.ensures ∙ ap option_copied c.in-Some.is) in
    let p = err_from_is_err_and c.from_residual.result c.from_residual.ensures.1 in
    rw (p.1, p.2, shown ∙ sym c.in_err-check_joins.ensures) refl

-- no place is refused by the time that memory is taken
pub returns-in_err-tables-clause-first : goal.returns-in_err-tables-clause-first
returns-in_err-tables-clause-first c =
    let query = sentence_of c.args.query.now in
    let database = tables_of c.args.catalog.now in
    let shown = glance_is query c.args.catalog.now c.in-Some.first.now (sym c.is_left_out.ensures ∙ c.if-is_left_out.false)
    (sym c.get.ensures ∙ ap option_copied c.in-Some.is) in
    let none : None ≡ places_fault database (names_of query.first []) (map (λ join. join.place) query.joins) = search rules in
    rw (shown ∙ sym none) tt

pub returns-in_err-plan-clause-bound : goal.returns-in_err-plan-clause-bound
returns-in_err-plan-clause-bound c =
    let query = sentence_of c.args.query.now in
    let catalog = c.args.catalog.now in
    let tables = c.deref.result.now in
    let same : c.in_ok-tables.tables.items ≡ tables = search (rules, c.deref.ensures.value) in
    let are = subst (AreTablesOf catalog (places_of query.first query.joins)) same c.in_ok-tables.ensures.1 in
    let others = take (length tables - 1) (drop 1 tables) in
    let first = c.in-Some.first.now in
    let tail = others_are catalog query.first query.joins tables are in
    let is = fault_is query catalog first others (sym c.is_left_out.ensures ∙ c.if-is_left_out.false)
    (sym c.get.ensures ∙ ap option_copied c.in-Some.is) tail c.in_ok-tables.ensures.0 in
    let p = err_from_is_err_and c.from_residual-in_err-plan.result c.from_residual-in_err-plan.ensures.1 in
    rw (p.1, p.2) (λ apart. is ∙ c.in_err-plan.ensures.bound apart)

pub new-requires-clause-typed : goal.new-requires-clause-typed
new-requires-clause-typed c =
    let query = sentence_of c.args.query.now in
    let catalog = c.args.catalog.now in
    let tables = c.deref.result.now in
    let same : c.in_ok-tables.tables.items ≡ tables = search (rules, c.deref.ensures.value) in
    let are = subst (AreTablesOf catalog (places_of query.first query.joins)) same c.in_ok-tables.ensures.1 in
    let others = take (length tables - 1) (drop 1 tables) in
    let head = sym c.get.ensures ∙ ap option_copied c.in-Some.is in
    let tail = others_are catalog query.first query.joins tables are in
    let parts = c.in_ok-plan.ensures.bound in
    let bound = bound_over query catalog c.in-Some.first.now others _ (sym c.is_left_out.ensures ∙ c.if-is_left_out.false)
    head tail c.in_ok-tables.ensures.0 parts.0 parts.1 in
    subst IsTyped (sym bound.1) (plan_typed query (tables_of catalog) bound.0)

pub new-requires-clause-columns : goal.new-requires-clause-columns
new-requires-clause-columns c =
    let query = sentence_of c.args.query.now in
    let catalog = c.args.catalog.now in
    let tables = c.deref.result.now in
    let same : c.in_ok-tables.tables.items ≡ tables = search (rules, c.deref.ensures.value) in
    let are = subst (AreTablesOf catalog (places_of query.first query.joins)) same c.in_ok-tables.ensures.1 in
    let head = sym c.get.ensures ∙ ap option_copied c.in-Some.is in
    ap (λ (plan : PlanAt). tree_schemas plan.tree) c.in_ok-plan.ensures.bound.1
    ∙ schemas_are query catalog c.in-Some.first.now tables head are
    ∙ ap (map (λ (table : TableAt). table.schema)) (sym same)

pub returns-clause-bound : goal.returns-clause-bound
returns-clause-bound c =
    let query = sentence_of c.args.query.now in
    let catalog = c.args.catalog.now in
    let tables = c.deref.result.now in
    let same : c.in_ok-tables.tables.items ≡ tables = search (rules, c.deref.ensures.value) in
    let are = subst (AreTablesOf catalog (places_of query.first query.joins)) same c.in_ok-tables.ensures.1 in
    let others = take (length tables - 1) (drop 1 tables) in
    let tail = others_are catalog query.first query.joins tables are in
    let parts = c.in_ok-plan.ensures.bound in
    let bound = bound_over query catalog c.in-Some.first.now others _ (sym c.is_left_out.ensures ∙ c.if-is_left_out.false)
    (sym c.get.ensures ∙ ap option_copied c.in-Some.is) tail c.in_ok-tables.ensures.0 parts.0 parts.1 in
    (bound.0, ap plan_of c.new.ensures ∙ bound.1)

pub returns-clause-means : goal.returns-clause-means
returns-clause-means c =
    let query = sentence_of c.args.query.now in
    let database = tables_of c.args.catalog.now in
    let bound = returns-clause-bound c in
    subst (IsPlanOf query database) (sym bound.1) (plan_means query database bound.0)

pub returns-clause-named : goal.returns-clause-named
returns-clause-named c names =
    subst IsSchema (ap (λ (bound : BoundAt). bound.schema) (sym c.new.ensures)) (c.in_ok-plan.ensures.named names)

pub returns-clause-places : goal.returns-clause-places
returns-clause-places c =
    let query = sentence_of c.args.query.now in
    let database = tables_of c.args.catalog.now in
    ap (λ (plan : PlanAt). tree_tables plan.tree) (returns-clause-bound c).1 ∙ plan_reads query database

pub returns-clause-held : goal.returns-clause-held
returns-clause-held c =
    let query = sentence_of c.args.query.now in
    let catalog = c.args.catalog.now in
    ap (map (table_at catalog)) (returns-clause-places c)
    ∙ ap (λ rest. table_at catalog query.first.table ∷ rest) (names_hold catalog query.joins)
    ∙ c.in_ok-tables.ensures.1
    ∙ ap (λ (bound : BoundAt). map (λ (table : TableAt). Some table) bound.tables) (sym c.new.ensures)
