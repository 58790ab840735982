use Rattle.std.proofs.Common.{arith}
use Rattle.std.proofs.lemmas.List.{length-map}
use Rattle.std.specs.Arc.{arc_value}
use Rattle.table_versions.specs.declared.placed_batch.PlacedBatch.{PlacedBatch}
use Rattle.table_versions.proofs.Placing.{few_batches}
use Rattle.table_versions.proofs.table.TableVersion.page_of.Goals as goal

pub len-requires : goal.len-requires
len-requires c =
    let few = few_batches (arc_value c.self.inside.schema) (arc_value c.self.inside.batches) c.self.inside.rows c.self.invariant.placed in
    rw c.deref.ensures
    (omega (arith, few, c.self.invariant.paged.few, length-map (arc_value c.self.inside.batches) (λ (one : PlacedBatch). one.batch)))
