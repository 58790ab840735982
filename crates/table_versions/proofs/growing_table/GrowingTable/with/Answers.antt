use Rattle.std.proofs.Common.{◌≡◌, ◌+◌, arith, rules}
use Rattle.std.specs.Arc.{arc_value}
use Rattle.table_versions.specs.declared.placed_batch.PlacedBatch.{PlacedBatch}
use Rattle.table_versions.proofs.Paging.{stored_push}
use Rattle.table_versions.proofs.growing_table.GrowingTable.with.Goals as goal

pub invariant_of-result : goal.invariant_of-result
invariant_of-result c =
    let typed = rw (← c.self.view_is) at c.requires.typed in
    let sound = rw (← c.self.view_is) at c.requires.sound in
    let few = rw (← c.self.view_is) at c.requires.few in
    let new : PlacedBatch = record { batch = c.args.batch; start = c.self.inside.rows } in
    let placed : arc_value c.in_ok-placed.placed ≡ new = search rules in
    rw (c.in_ok-with.ensures, placed)
    (stored_push (arc_value c.self.inside.schema) c.self.inside.batches (arc_value c.self.inside.stats) c.self.inside.rows c.self.invariant c.args.batch
    (c.self.inside.rows + c.rows.result) c.requires.filled typed c.requires.stands sound few (omega (arith, c.rows.ensures)))
