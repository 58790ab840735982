use Rattle.std.proofs.Common.{◌≡◌, List, ap, ◌∙◌}
use Rattle.arrays.specs.Batch.{rows_of}
use Rattle.arrays.specs.Column.{ColumnAt}
use Rattle.table_versions.specs.StoredTables.{tables_of}
use Rattle.flight_info.specs.Tables.{tables_listed}
use Rattle.flight_info.proofs.Listed.{batch_with, all_long, rows_are, listed_short}
use Rattle.flight_info.proofs.tables.tables_batch.Goals as goal

pub new-requires : goal.new-requires
new-requires c =
    let all = all_long c.args.catalog.now c.in_ok-catalogs.catalogs c.in_ok-schemas.schemas c.in_ok-names.names c.in_ok-types.types c.len-rows.result c.len-rows.ensures.count
    c.in_ok-catalogs.ensures c.in_ok-schemas.ensures c.in_ok-names.ensures c.in_ok-types.ensures in
    rw c.in_ok-columns.ensures.items all

batch_rows : (c : goal.After-new) → rows_of c.new.result ≡ (tables_listed (tables_of c.args.catalog.now)).rows
batch_rows c =
    ap rows_of (c.new.ensures ∙ ap (λ (columns : List ColumnAt). batch_with columns c.len-rows.result) c.in_ok-columns.ensures.items)
    ∙ rows_are c.args.catalog.now c.in_ok-catalogs.catalogs c.in_ok-schemas.schemas c.in_ok-names.names c.in_ok-types.types c.len-rows.result c.len-rows.ensures.count
    c.in_ok-catalogs.ensures c.in_ok-schemas.ensures c.in_ok-names.ensures c.in_ok-types.ensures

pub returns-clause-rows : goal.returns-clause-rows
returns-clause-rows c = batch_rows c

pub returns-clause-short : goal.returns-clause-short
returns-clause-short c = listed_short c.args.catalog.now (rows_of c.new.result) (batch_rows c) c.len-rows.ensures.named
