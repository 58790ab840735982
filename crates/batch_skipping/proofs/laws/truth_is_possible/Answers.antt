use Rattle.batch_skipping.proofs.Possibles.{truth_is_possible}
use Rattle.batch_skipping.proofs.laws.truth_is_possible.Goals as goal

pub returns : goal.returns
returns c = truth_is_possible
