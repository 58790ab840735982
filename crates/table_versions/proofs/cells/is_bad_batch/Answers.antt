use Rattle.std.proofs.Common.{◌∙◌, ap}
use Rattle.table_versions.specs.Columns.{has_bad_column}
use Rattle.table_versions.proofs.Transposed.{bad_batch}
use Rattle.table_versions.proofs.cells.is_bad_batch.Goals as goal

pub returns : goal.returns
returns c =
    let long = rw c.columns.ensures.columns at c.columns.ensures.long in
    c.has_bad_column.ensures ∙ ap (has_bad_column c.args.fields.now) c.columns.ensures.columns ∙ bad_batch c.args.fields.now c.args.batch.now long
