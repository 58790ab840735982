use Rattle.rewrite.proofs.Folding.{folding_keeps_truths, folded_names_columns}
use Rattle.rewrite.proofs.laws.folding_keeps_truths.Goals as goal

pub returns : goal.returns
returns c = record { truths = folding_keeps_truths; columns = folded_names_columns }
