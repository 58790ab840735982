use Rattle.table_versions.proofs.Paging.{of_any, paged_side}
use Rattle.table_versions.proofs.table.TableVersion.paged_side.Goals as goal

pub returns-clause-wide : goal.returns-clause-wide
returns-clause-wide c = of_any c.side.result c.in_ok-paged_stats.ensures.wide

pub returns-clause-stats : goal.returns-clause-stats
returns-clause-stats c =
    paged_side c.args.self.now.batches c.args.index c.args.column c.in_ok-paged_stats.field-0.now c.in_ok-paged_stats.ensures.stats
    c.side.result c.side.ensures
