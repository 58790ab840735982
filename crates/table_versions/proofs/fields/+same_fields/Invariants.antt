use Rattle.std.proofs.Common.{length}
use Rattle.table_versions.proofs.fields.+same_fields.Given as goal

abbrev pub decreases-same_fields : goal.decreases-same_fields
decreases-same_fields l = length l.old.now
