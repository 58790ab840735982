use Rattle.std.proofs.Common.{◌%◌, List, length, Some, Vec, Global, subst}
use Rattle.std.specs.Slice.{IsItemAt}
use Rattle.batch_stats.specs.declared.owned_stats.OwnedStats.{OwnedStats}
use Rattle.table_versions.specs.StoredTables.{table_of}
use Rattle.table_versions.proofs.Paging.{columns_wide, lent_at, of_any, paged_stats}
use Rattle.table_versions.proofs.table.TableVersion.paged_stats.Goals as goal

pub returns-clause-wide : goal.returns-clause-wide
returns-clause-wide c = of_any c.get-2.result (columns_wide c.args.self.now (length (table_of c.args.self.now).rows) c.page_of.ensures.kept c.args.index)

pub returns-clause-stats : goal.returns-clause-stats
returns-clause-stats c =
    let page = c.in_ok-page_of.field-0.now in
    let list = c.in_ok-get.field-0 in
    let there = subst (λ (some : List (Vec OwnedStats Global)). IsItemAt some c.args.column (Some list)) c.deref.ensures.value c.in_ok-get.ensures.lookup in
    let found = subst (λ (some : List OwnedStats). IsItemAt some (c.args.index % 256) c.get-2.result) c.deref-2.ensures.value c.get-2.ensures.lookup in
    paged_stats c.args.self.now.batches c.args.index page c.in_ok-page_of.ensures.page c.args.column list.now (lent_at page.columns.items c.args.column list there)
    c.get-2.result found
