use Rattle.batch_skipping.proofs.InBatch.{rows_are_possible}
use Rattle.batch_skipping.proofs.laws.rows_are_possible.Goals as goal

pub returns : goal.returns
returns c = rows_are_possible
