use Rattle.typed_plan.proofs.ExactLiterals.{compares_exactly, agrees_exactly}
use Rattle.typed_plan.proofs.laws.literals_compare_exactly.Goals as goal

pub returns : goal.returns
returns c = record { with_columns = compares_exactly; with_literals = agrees_exactly }
