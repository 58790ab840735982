use Rattle.std.proofs.Common.{refl}
use Rattle.table_versions.specs.StoredTables.{tables_of}
use Rattle.flight_info.specs.Tables.{tables_listed}
use Rattle.fetch_stream.proofs.opening.open.Goals as goal

pub returns-in_ok-open_tables-in-Tables-clause-opens : goal.returns-in_ok-open_tables-in-Tables-clause-opens
returns-in_ok-open_tables-in-Tables-clause-opens c =
    let said = c.in_ok-open_tables-in-Tables.ensures in
    rw c.in-Tables.is (tables_listed (tables_of c.args.catalog.now), refl, said)
