use Rattle.table_versions.proofs.Paging.{of_any, paged_beginnings}
use Rattle.table_versions.proofs.table.TableVersion.beginnings.Goals as goal

pub returns-clause-wide : goal.returns-clause-wide
returns-clause-wide c = of_any c.beginnings.result c.in_ok-paged_stats.ensures.wide

pub returns-clause-beginnings : goal.returns-clause-beginnings
returns-clause-beginnings c =
    paged_beginnings c.args.self.now.batches c.args.index c.args.column c.in_ok-paged_stats.field-0.now c.in_ok-paged_stats.ensures.stats
    c.beginnings.result c.beginnings.ensures
