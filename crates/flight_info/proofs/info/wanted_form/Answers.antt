use Rattle.table_versions.specs.StoredTables.{tables_of}
use Rattle.flight_info.proofs.Describing.{tables_form}
use Rattle.flight_info.proofs.info.wanted_form.Goals as goal

pub returns-in-Rows-clause-missed : goal.returns-in-Rows-clause-missed
returns-in-Rows-clause-missed c = rw c.in-Rows.is c.query_form.ensures.missed

pub returns-in_ok-schema_form-in-Tables-clause-form : goal.returns-in_ok-schema_form-in-Tables-clause-form
returns-in_ok-schema_form-in-Tables-clause-form c =
    let said = c.in_ok-schema_form-in-Tables in
    rw c.in-Tables.is (tables_form (tables_of c.args.snapshot.now.catalog) said.field-0.items (rw c.in_ok-tables_schema-in-Tables.ensures.schema at said.ensures.form) said.ensures.small)
