use Rattle.std.proofs.Common.{◌≡◌, ◌++◌, map, take, drop}
use Rattle.std.specs.Arc.{arc_value}
use Rattle.table_versions.specs.StoredTables.{TableAt}
use Rattle.table_versions.specs.Database.{with_table}
use Rattle.table_versions.proofs.catalog.place_of.Given as goal

abbrev pub invariant-loop-index : goal.invariant-loop-index
invariant-loop-index l =
    let entries = map arc_value l.tables in
    (table : TableAt) → with_table l.name table entries ≡ take l.index entries ++ with_table l.name table (drop l.index entries)
