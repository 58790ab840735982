use Rattle.std.proofs.Common.{◌≤◌, List, ap, ◌∙◌, arith}
use Rattle.std.proofs.lemmas.Result.{err_from_is_err_and}
use Rattle.table_versions.specs.StoredTables.{tables_of}
use Rattle.table_versions.specs.Table.{Row}
use Rattle.typed_plan.specs.View.{plan_of}
use Rattle.scan_exec.proofs.PlanGives.{rows_law}
use Rattle.fetch_stream.specs.Morsels.{before_schema}
use Rattle.fetch_stream.proofs.Meaning.{misses_mean_nothing, out_of_range, part_of_groups, range_is, meant, plan_answer}
use Rattle.fetch_stream.proofs.opening.open_query.Goals as goal

pub returns-in_err-planned-clause-refused : goal.returns-in_err-planned-clause-refused
returns-in_err-planned-clause-refused c =
    let p = err_from_is_err_and c.from_residual.result c.from_residual.ensures.1 in
    rw (p.1, p.2) (λ other. misses_mean_nothing (tables_of c.args.catalog.now) c.args.range.from c.args.range.to c.args.text.now c.in_err-planned.field-0.0 other (c.in_err-planned.ensures.missed other))

pub returns-then-to-planned-clause-refused : goal.returns-then-to-planned-clause-refused
returns-then-to-planned-clause-refused c other =
    let planned = c.in_ok-planned.planned in
    out_of_range (tables_of c.args.catalog.now) c.args.range.from c.args.range.to planned.rows planned.grouped c.args.text.now (plan_of planned.plan) c.in_ok-planned.ensures.planned
    (omega (arith, c.if-to-planned.true))

pub returns-then-count-least-clause-refused : goal.returns-then-count-least-clause-refused
returns-then-count-least-clause-refused c other =
    let planned = c.in_ok-planned.planned in
    part_of_groups (tables_of c.args.catalog.now) c.args.range.from c.args.range.to planned.rows c.least_rows-least.result planned.grouped c.args.text.now (plan_of planned.plan)
    c.in_ok-planned.ensures.planned c.least_rows-least.ensures.whole c.least_rows-least.ensures.part (omega (arith, c.if-count-least.true))

pub returns-clause-opened : goal.returns-clause-opened
returns-clause-opened c =
    let catalog = c.args.catalog.now in
    let database = tables_of catalog in
    let planned = c.in_ok-planned.planned in
    let plan = plan_of planned.plan in
    let from = c.args.range.from in
    let to = c.args.range.to in
    let within : to ≤ planned.rows = omega (arith, c.if-to-planned.false) in
    let is = c.in_ok-planned.ensures.planned in
    let range = range_is database from to planned.rows planned.grouped c.args.text.now plan is (omega (arith, c.requires)) within
    (λ groups. omega (arith, c.least_rows-least.ensures.whole groups, c.if-count-least.false)) in
    let means = meant database from to planned.rows planned.grouped c.args.text.now plan is range in
    let rows = rows_law catalog planned.plan from to c.plan-typed.ensures.typed c.tables-columns.ensures.columns c.in_ok-planned.ensures.held in
    (plan_answer plan database from to, means, c.of.ensures ∙ ap (λ (some : List Row). before_schema planned.plan.schema some) rows)
