-- Worked queries over whole tables.
use Rattle.std.specs.Prelude.{List, length}
use Rattle.sql_query.specs.Sentence.{Sentence}
use Rattle.table_versions.specs.Table.{Row}
use Rattle.table_versions.specs.Database.{Database}
use Rattle.typed_plan.specs.JoinedRows.{place_rows}
use Rattle.typed_plan.specs.Meaning.{meaning}

-- the rows of a query over its whole first place
abbrev pub whole_meaning : Sentence → Database → List Row
whole_meaning query database = meaning query database 0 (length (place_rows database query.first))
