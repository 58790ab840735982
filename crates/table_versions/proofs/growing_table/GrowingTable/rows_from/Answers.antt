use Rattle.std.proofs.Common.{◌≡◌, ◌∷◌, ◌++◌, [], List, ℕ, length, Some, slice_get, sym, ap, ◌∙◌, subst, arith, length-append}
use Rattle.std.proofs.lemmas.List.{length-map}
use Rattle.std.specs.Arc.{arc_value}
use Rattle.table_versions.specs.declared.placed_batch.PlacedBatch.{PlacedBatch}
use Rattle.table_versions.specs.StatsPages.{AreRowsFrom}
use Rattle.table_versions.specs.StoredTables.{TableAt}
use Rattle.table_versions.proofs.Placing.{batch_there, few_batches}
use Rattle.table_versions.proofs.Paging.{rows_more}
use Rattle.table_versions.proofs.growing_table.GrowingTable.rows_from.Goals as goal

pub overflow_add-index-end : goal.overflow_add-index-end
overflow_add-index-end c =
    let few = few_batches (arc_value c.self.inside.schema) c.self.inside.batches c.self.inside.rows c.self.invariant.placed in
    let same = ap (λ (table : TableAt). length table.batches) c.self.view_is in
    omega (arith, few, same, length-map c.self.inside.batches (λ (one : PlacedBatch). one.batch), c.requires)

pub loop-index-preserved : goal.loop-index-preserved
loop-index-preserved c =
    let all = c.args.self.now.batches in
    let first = c.args.first in
    let rows = c.loop-index.rows.items in
    let one = c.deref.result.now in
    let there : slice_get all c.loop-index.index ≡ Some one.batch =
    rw (← c.self.view_is) (batch_there c.self.inside.batches c.loop-index.index one (rw (← c.deref.ensures) at c.get.ensures)) in
    let items : c.push.new.self.items ≡ rows ++ one.batch.rows ∷ [] = c.in_ok-push.ensures.items ∙ ap (λ (n : ℕ). rows ++ n ∷ []) c.rows.ensures in
    let more = rows_more all first c.loop-index.index one.batch there rows c.loop-index.invariant.are c.loop-index.invariant.long in
    record {
      long = omega (arith, c.loop-index.invariant.long, ap (λ (some : List ℕ). length some) items, length-append rows (one.batch.rows ∷ []));
      are = subst (λ (some : List ℕ). AreRowsFrom all first some) (sym items) more;
    }
