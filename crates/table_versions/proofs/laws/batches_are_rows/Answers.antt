use Rattle.table_versions.proofs.Standing.{batches_are_rows}
use Rattle.table_versions.proofs.laws.batches_are_rows.Goals as goal

pub returns : goal.returns
returns c = batches_are_rows c.batch_slices_keep_rows.ensures
