use Rattle.std.proofs.Common.{◌≢◌, subst, arith}
use Rattle.std.proofs.lemmas.Result.{err_from_is_err_and}
use Rattle.scan_base.specs.declared.fault.Fault.TheVariants.{OutOfMemory}
use Rattle.flight_proto.specs.InfoCommand.{rows_of}
use Rattle.table_versions.specs.StoredTables.{CatalogAt, tables_of}
use Rattle.typed_plan.specs.View.{plan_of}
use Rattle.flight_info.specs.QueryMeaning.{Misses}
use Rattle.flight_info.proofs.Describing.{text_short, query_described}
use Rattle.flight_info.proofs.info.describe_query.Goals as goal

pub returns-in_err-planned-clause-missed : goal.returns-in_err-planned-clause-missed
returns-in_err-planned-clause-missed c =
    let p = err_from_is_err_and c.from_residual.result c.from_residual.ensures.1 in
    let fault = c.in_err-planned.field-0.0 in
    let missed : fault ≢ OutOfMemory → Misses (tables_of c.args.snapshot.now.catalog) (rows_of c.args.text.now) fault =
    subst (λ (catalog : CatalogAt). fault ≢ OutOfMemory → Misses (tables_of catalog) (rows_of c.args.text.now) fault) c.catalog.ensures c.in_err-planned.ensures.missed in
    rw (p.1, p.2) missed

pub returns-clause-described : goal.returns-clause-described
returns-clause-described c =
    let planned = c.in_ok-planned.planned in
    query_described (tables_of c.args.snapshot.now.catalog) c.args.text.now (plan_of planned.plan) planned.rows planned.grouped (rw c.catalog.ensures at c.in_ok-planned.ensures.planned)
    c.in_ok-result_form.field-0.items c.in_ok-result_form.ensures.form c.in_ok-result_form.ensures.small
    c.args.snapshot.now.number c.args.parts _ (omega (arith, c.number.ensures)) c.utf8.text (text_short planned c.args.text.now c.in_ok-planned.ensures.first)
    (rw (c.number.ensures, c.as_slice.ensures, c.endpoint_ranges-ranges.ensures) at c.in_ok-query_tickets.ensures)
