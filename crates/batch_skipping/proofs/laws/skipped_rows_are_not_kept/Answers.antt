use Rattle.batch_skipping.proofs.InBatch.{skipped_rows_are_not_kept}
use Rattle.batch_skipping.proofs.laws.skipped_rows_are_not_kept.Goals as goal

pub returns : goal.returns
returns c = skipped_rows_are_not_kept
