use Rattle.table_versions.proofs.Databases.{logs_grow, logs_stay}
use Rattle.table_versions.proofs.laws.logs_grow.Goals as goal

pub returns-clause-accepted : goal.returns-clause-accepted
returns-clause-accepted c = logs_grow

pub returns-clause-refused : goal.returns-clause-refused
returns-clause-refused c = logs_stay
