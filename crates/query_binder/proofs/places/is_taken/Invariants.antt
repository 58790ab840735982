use Rattle.std.proofs.Common.{◌≡◌, drop, map}
use Rattle.std.specs.List.{list_any}
use Rattle.std.specs.Str.{bytes_eq}
use Rattle.sql_query.specs.Sentence.{place_name}
use Rattle.query_binder.specs.PlaceTables.{names_of}
use Rattle.query_binder.proofs.places.is_taken.Given as goal

abbrev pub invariant-loop-join : goal.invariant-loop-join
invariant-loop-join l =
    list_any (bytes_eq l.name) (names_of l.first l.joins)
    ≡ list_any (bytes_eq l.name) (map (λ join. place_name join.place) (drop l.join-index l.joins))
