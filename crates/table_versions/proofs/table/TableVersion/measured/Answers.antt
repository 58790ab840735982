use Rattle.std.proofs.Common.{◌≡◌, slice_get, Some}
use Rattle.std.specs.Arc.{arc_value}
use Rattle.table_versions.specs.Batches.{placed_table}
use Rattle.table_versions.proofs.Placing.{batches, batch_there}
use Rattle.table_versions.proofs.Storable.{IsBatch, batch_at}
use Rattle.table_versions.proofs.table.TableVersion.measured.Goals as goal

there : (c : goal.After-deref-2) → slice_get (batches (arc_value c.self.inside.batches)) c.args.index ≡ Some c.deref-2.result.now.batch
there c = batch_there (arc_value c.self.inside.batches) c.args.index c.deref-2.result.now (rw (← c.deref-2.ensures) at (rw c.deref.ensures at c.get.ensures))

here : (c : goal.After-deref-2) → IsBatch (arc_value c.self.inside.schema) c.deref-2.result.now.batch
here c = batch_at (placed_table (arc_value c.self.inside.schema) (arc_value c.self.inside.batches)) c.self.inside.rows c.args.index
    c.deref-2.result.now.batch c.self.invariant.placed.kept (there c)

pub returns-clause-batch : goal.returns-clause-batch
returns-clause-batch c = rw (← c.self.view_is) (there c)

pub returns-clause-filled : goal.returns-clause-filled
returns-clause-filled c = (here c).filled

pub returns-clause-typed : goal.returns-clause-typed
returns-clause-typed c = rw (← c.self.view_is) (here c).typed

pub returns-clause-wide : goal.returns-clause-wide
returns-clause-wide c = rw (← c.self.view_is) (here c).wide

pub returns-clause-few : goal.returns-clause-few
returns-clause-few c = (here c).few

pub returns-clause-sound : goal.returns-clause-sound
returns-clause-sound c = rw (← c.self.view_is) (here c).sound
