use Rattle.std.proofs.Common.{◌∙◌, ap}
use Rattle.std.specs.List.{list_any}
use Rattle.table_versions.specs.Columns.{is_long_column}
use Rattle.table_versions.proofs.Transposed.{long_batch}
use Rattle.table_versions.proofs.cells.is_long_batch.Goals as goal

pub returns-clause-long : goal.returns-clause-long
returns-clause-long c =
    let long = rw c.columns.ensures.columns at c.columns.ensures.long in
    c.has_long_column.ensures.long ∙ ap (list_any is_long_column) c.columns.ensures.columns ∙ long_batch c.args.batch.now long

pub returns-clause-stands : goal.returns-clause-stands
returns-clause-stands c = λ none. record {
  long = rw c.columns.ensures.columns at c.columns.ensures.long;
  columns = rw c.columns.ensures.columns at c.has_long_column.ensures.stand none;
}
