use Rattle.std.proofs.Common.{length}
use Rattle.table_versions.proofs.catalog.+find_in.Given as goal

abbrev pub decreases-find_in : goal.decreases-find_in
decreases-find_in l = length l.tables.now
