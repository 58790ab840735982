use Rattle.table_versions.proofs.Databases.{tables_are_found}
use Rattle.table_versions.proofs.laws.tables_are_found.Goals as goal

pub returns : goal.returns
returns c = tables_are_found
