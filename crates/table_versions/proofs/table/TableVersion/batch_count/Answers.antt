use Rattle.std.proofs.Common.{arith}
use Rattle.std.specs.Arc.{arc_value}
use Rattle.table_versions.proofs.Placing.{few_batches}
use Rattle.table_versions.proofs.table.TableVersion.batch_count.Goals as goal

pub len-requires : goal.len-requires
len-requires c = rw c.deref.ensures
    (omega (arith, few_batches (arc_value c.self.inside.schema) (arc_value c.self.inside.batches) c.self.inside.rows c.self.invariant.placed))
