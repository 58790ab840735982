use Rattle.arrow_schema.proofs.SaidLaws.{read_is_said}
use Rattle.arrow_schema.proofs.laws.read_schemas_are_said.Goals as goal

pub returns : goal.returns
returns c = read_is_said
