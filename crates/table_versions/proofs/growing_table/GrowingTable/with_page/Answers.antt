use Rattle.std.proofs.Common.{◌≡◌, ◌<◌, ◌*◌, ◌∷◌, ◌++◌, [], List, ℕ, length, sym, ap, ◌∙◌, subst, arith, rules}
use Rattle.std.proofs.lemmas.List.{length-map}
use Rattle.std.specs.Arc.{arc_value}
use Rattle.table_versions.specs.declared.placed_batch.PlacedBatch.{PlacedBatch}
use Rattle.table_versions.specs.declared.stats_page.StatsPage.{StatsPage}
use Rattle.table_versions.specs.StatsPages.{AreStored, IsPageFrom}
use Rattle.table_versions.specs.StoredTables.{TableAt}
use Rattle.table_versions.proofs.Placing.{batches, few_batches}
use Rattle.table_versions.proofs.Paging.{pages_push}
use Rattle.table_versions.proofs.growing_table.GrowingTable.with_page.Goals as goal

pub len-requires : goal.len-requires
len-requires c = omega (arith, few_batches (arc_value c.self.inside.schema) c.self.inside.batches c.self.inside.rows c.self.invariant.placed)

pub invariant_of-result : goal.invariant_of-result
invariant_of-result c =
    let placed = c.self.inside.batches in
    let pages = arc_value c.self.inside.stats in
    let page = c.in_ok-page.page in
    let longer : arc_value c.in_ok-map_err.field-0 ≡ pages ++ page ∷ [] = search rules in
    let count : c.len-3.result ≡ length pages = c.len-3.ensures ∙ ap (λ (some : List StatsPage). length some) c.deref-2.ensures in
    let before : c.len-2.result ≡ length pages = c.len-2.ensures ∙ ap (λ (some : List StatsPage). length some) c.deref.ensures in
    let is : IsPageFrom (batches placed) (length pages * 256) page =
    subst (λ (n : ℕ). IsPageFrom (batches placed) (n * 256) page) count
    (subst (λ (table : TableAt). IsPageFrom table.batches (c.len-3.result * 256) page) (sym c.self.view_is) c.in_ok-page.ensures) in
    let more : length pages < length (batches placed) =
    omega (arith, before, c.if-len.false, c.len.ensures, length-map placed (λ (one : PlacedBatch). one.batch)) in
    subst (λ (some : List StatsPage). AreStored (arc_value c.self.inside.schema) placed some c.self.inside.rows) (sym longer)
    (record { placed = c.self.invariant.placed; paged = pages_push (batches placed) pages page c.self.invariant.paged more is })
