use Rattle.table_versions.proofs.Stores.{gives_tables, refuses_rows}
use Rattle.table_versions.proofs.commit.apply.Goals as goal

pub returns-clause-rows : goal.returns-clause-rows
returns-clause-rows c =
    gives_tables c.args.catalog.now c.args.above c.args.put c.next_catalog.result c.next_catalog.ensures.exact

pub returns-clause-refused : goal.returns-clause-refused
returns-clause-refused c = refuses_rows c.args.catalog.now c.args.above c.args.put c.next_catalog.result c.next_catalog.ensures.refused
