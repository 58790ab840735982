use Rattle.batch_skipping.proofs.Ends.{own_values_are_within}
use Rattle.batch_skipping.proofs.laws.own_values_are_within.Goals as goal

pub returns : goal.returns
returns c = own_values_are_within
