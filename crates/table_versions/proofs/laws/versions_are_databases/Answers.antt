use Rattle.table_versions.proofs.Tables.{versions_are_databases}
use Rattle.table_versions.proofs.laws.versions_are_databases.Goals as goal

pub returns : goal.returns
returns c = versions_are_databases
