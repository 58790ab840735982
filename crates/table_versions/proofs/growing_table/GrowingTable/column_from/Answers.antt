use Rattle.std.proofs.Common.{◌≡◌, ◌∷◌, ◌++◌, [], List, length, Some, slice_get, sym, ap, subst, arith, length-append}
use Rattle.std.proofs.lemmas.List.{length-map}
use Rattle.std.specs.Arc.{arc_value}
use Rattle.batch_stats.specs.declared.owned_stats.OwnedStats.{OwnedStats}
use Rattle.table_versions.specs.declared.placed_batch.PlacedBatch.{PlacedBatch}
use Rattle.table_versions.specs.StatsPages.{AreStatsFrom}
use Rattle.table_versions.specs.StoredTables.{TableAt}
use Rattle.table_versions.proofs.Placing.{batch_there, few_batches}
use Rattle.table_versions.proofs.Paging.{is_batch, stats_more}
use Rattle.table_versions.proofs.growing_table.GrowingTable.column_from.Goals as goal

pub overflow_add-index-end : goal.overflow_add-index-end
overflow_add-index-end c =
    let few = few_batches (arc_value c.self.inside.schema) c.self.inside.batches c.self.inside.rows c.self.invariant.placed in
    let same = ap (λ (table : TableAt). length table.batches) c.self.view_is in
    omega (arith, few, same, length-map c.self.inside.batches (λ (one : PlacedBatch). one.batch), c.requires.there)

pub owned_stats-requires : goal.owned_stats-requires
owned_stats-requires c =
    let is = is_batch (arc_value c.self.inside.schema) c.self.inside.batches c.self.inside.rows c.self.invariant.placed c.loop-index.index c.deref.result.now
    (rw (← c.deref.ensures) at c.get.ensures) in
    let same = ap (λ (table : TableAt). length table.schema.fields) c.self.view_is in
    omega (arith, is.wide, same, c.requires.column)

pub loop-index-preserved : goal.loop-index-preserved
loop-index-preserved c =
    let all = c.args.self.now.batches in
    let first = c.args.first in
    let column = c.args.column in
    let stats = c.loop-index.all.items in
    let one = c.deref.result.now in
    let there : slice_get all c.loop-index.index ≡ Some one.batch =
    rw (← c.self.view_is) (batch_there c.self.inside.batches c.loop-index.index one (rw (← c.deref.ensures) at c.get.ensures)) in
    let next = c.in-Some.stats in
    let items : c.push.new.self.items ≡ stats ++ next ∷ [] = c.in_ok-push-in-Some.ensures.items in
    let more = stats_more all first c.loop-index.index one.batch there column stats next c.in-Some.ensures.kept c.loop-index.invariant.are c.loop-index.invariant.long in
    record {
      long = omega (arith, c.loop-index.invariant.long, ap (λ (some : List OwnedStats). length some) items, length-append stats (next ∷ []));
      are = subst (λ (some : List OwnedStats). AreStatsFrom all first column some) (sym items) more;
    }
