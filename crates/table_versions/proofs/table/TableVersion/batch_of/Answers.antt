use Rattle.std.proofs.Common.{◌≤◌, ◌<◌, length, arith}
use Rattle.std.proofs.lemmas.List.{length-map}
use Rattle.std.specs.Arc.{arc_value}
use Rattle.table_versions.specs.declared.placed_batch.PlacedBatch.{PlacedBatch}
use Rattle.table_versions.specs.Standing.{rows_before}
use Rattle.table_versions.proofs.Placing.{batches, few_batches, stands_in}
use Rattle.table_versions.proofs.table.TableVersion.batch_of.Goals as goal

pub len-end-requires : goal.len-end-requires
len-end-requires c = rw c.deref.ensures
    (omega (arith, few_batches (arc_value c.self.inside.schema) (arc_value c.self.inside.batches) c.self.inside.rows c.self.invariant.placed))

pub returns : goal.returns
returns c =
    let placed = arc_value c.self.inside.batches in
    let index = c.loop-end.index in
    let behind : rows_before (batches placed) index ≤ c.args.row = rw (← c.self.view_is) at c.loop-end.invariant.behind in
    let before : c.args.row < rows_before (batches placed) c.loop-end.end = rw (← c.self.view_is) at c.loop-end.invariant.before in
    let high : c.loop-end.end ≤ length (batches placed) = rw (← c.self.view_is) at c.loop-end.invariant.high in
    rw (← c.self.view_is)
    (stands_in (arc_value c.self.inside.schema) placed c.self.inside.rows c.self.invariant.placed index c.loop-end.end c.args.row c.deref-3.result.now
    (rw (← c.deref-3.ensures) at (rw c.deref-2.ensures at c.get-2.ensures)) c.loop-end.invariant.ordered (omega (arith, c.loop-end-test.false))
    (omega (arith, high, length-map placed (λ (each : PlacedBatch). each.batch))) behind before)
