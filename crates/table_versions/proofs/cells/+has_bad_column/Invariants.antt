use Rattle.std.proofs.Common.{length}
use Rattle.table_versions.proofs.cells.+has_bad_column.Given as goal

abbrev pub decreases-has_bad_column : goal.decreases-has_bad_column
decreases-has_bad_column l = length l.fields.now
