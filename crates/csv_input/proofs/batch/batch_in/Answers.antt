use Rattle.std.proofs.Common.{[], false, length, sym, ◌∙◌}
use Rattle.arrow_types.specs.declared.data_type.DataType.TheVariants as type
use Rattle.csv_input.specs.inside.Cells.{AreColumnsIn}
use Rattle.csv_input.proofs.Columnar.{columns_long}
use Rattle.csv_input.proofs.batch.batch_in.Goals as goal

pub new-requires : goal.new-requires
new-requires c =
    let chunk = c.args.chunk.now in
    let columns = c.args.columns.now in
    let made = c.in-Some.made.items in
    let are : AreColumnsIn chunk columns made (length columns) = rw c.in-Some.is at c.in_ok-made.ensures.found in
    λ k d low. columns_long chunk columns made (record { name = []; nullable = false; data_type = type.Bool }) are k d low ∙ sym c.rows.ensures
