use Rattle.std.proofs.Common.{subst}
use Rattle.table_versions.specs.KeptTables.{IsKept}
use Rattle.table_versions.specs.StoredTables.{TableAt}
use Rattle.row_sources.proofs.Narrowing.{narrowed_kept}
use Rattle.row_sources.proofs.opened_table.OpenedTable.rows.Goals as goal

pub returns-clause-kept : goal.returns-clause-kept
returns-clause-kept c =
    let s = c.self.inside in
    subst (λ (table : TableAt). IsKept table s.rows) c.self.view_is
    (narrowed_kept s.table s.numbers.items c.rows-kept.result s.rows c.rows-kept.ensures.kept c.self.invariant)

pub returns-clause-rows : goal.returns-clause-rows
returns-clause-rows c = (returns-clause-kept c).counted
