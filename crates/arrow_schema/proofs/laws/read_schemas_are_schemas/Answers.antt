use Rattle.arrow_schema.proofs.SaidLaws.{read_is_schema}
use Rattle.arrow_schema.proofs.laws.read_schemas_are_schemas.Goals as goal

pub returns : goal.returns
returns c = read_is_schema
