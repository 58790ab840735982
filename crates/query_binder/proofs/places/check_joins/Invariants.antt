use Rattle.std.proofs.Common.{◌≡◌, [], take, drop, map}
use Rattle.table_versions.specs.StoredTables.{tables_of}
use Rattle.query_binder.specs.NameRules.{places_fault}
use Rattle.query_binder.specs.PlaceTables.{names_of}
use Rattle.query_binder.proofs.places.check_joins.Given as goal

abbrev pub invariant-loop-number : goal.invariant-loop-number
invariant-loop-number l =
    places_fault (tables_of l.catalog) (names_of l.query.first []) (map (λ join. join.place) l.joins)
    ≡ places_fault (tables_of l.catalog) (names_of l.query.first (take l.number l.joins))
    (map (λ join. join.place) (drop l.number l.joins))
