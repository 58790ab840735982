use Rattle.arrow_types.proofs.Plain.{plain_is_schema}
use Rattle.arrow_types.proofs.laws.plain_schemas_are_schemas.Goals as goal

pub returns : goal.returns
returns c = plain_is_schema
