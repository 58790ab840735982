use Rattle.typed_plan.proofs.TypedNames.{names_there}
use Rattle.typed_plan.proofs.laws.typed_predicates_name_columns.Goals as goal

pub returns : goal.returns
returns c = names_there
