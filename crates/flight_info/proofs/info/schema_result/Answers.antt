use Rattle.flight_proto.specs.InfoCommand.{wanted_said}
use Rattle.table_versions.specs.StoredTables.{tables_of}
use Rattle.flight_info.proofs.Answering.{shown, schema_made}
use Rattle.flight_info.proofs.info.schema_result.Goals as goal

pub returns-clause-schema : goal.returns-clause-schema
returns-clause-schema c =
    let wanted = wanted_said c.in_ok-wanted.wanted in
    schema_made (tables_of c.args.snapshot.now.catalog) c.args.payload.now wanted c.in_ok-wanted.ensures c.in_ok-form.form.items c.in_ok-form.ensures.form
    (shown c.in_ok-form.form wanted c.in_ok-form.ensures.first) c.in_ok-write_schema_result.field-0.items (rw c.deref.ensures.value at c.in_ok-write_schema_result.ensures.said)
