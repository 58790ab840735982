use Rattle.std.proofs.Common.{◌∙◌, sym, subst}
use Rattle.arrow_types.specs.declared.schema.Schema.{Schema}
use Rattle.table_versions.specs.StoredTables.{tables_of}
use Rattle.arrays.specs.Batch.{rows_of}
use Rattle.flight_info.specs.Tables.{tables_listed, tables_schema}
use Rattle.fetch_stream.specs.inside.RowsAhead.{AnsweredAs}
use Rattle.fetch_stream.proofs.Going.{opens_all}
use Rattle.fetch_stream.proofs.Scanned.{typed_dressable}
use Rattle.fetch_stream.proofs.opening.open_tables.Goals as goal

pub of-stream-requires-clause-columns : goal.of-stream-requires-clause-columns
of-stream-requires-clause-columns c some =
    subst (λ (schema : Schema). AnsweredAs schema c.in_ok-batch.batch.columns) (sym c.in_ok-schema.ensures.schema) (record {
      numbered = (tt, (tt, (tt, (tt, tt))));
      dressable = typed_dressable tables_schema.fields c.in_ok-batch.batch.columns c.in_ok-batch.ensures.typed;
    })

pub returns : goal.returns
returns c =
    let list = tables_listed (tables_of c.args.catalog.now) in
    let batch = c.in_ok-batch.batch in
    c.of.ensures ∙ c.of-stream.ensures ∙ opens_all c.in_ok-schema.schema (rows_of batch) list c.in_ok-schema.ensures.schema c.in_ok-batch.ensures.rows
