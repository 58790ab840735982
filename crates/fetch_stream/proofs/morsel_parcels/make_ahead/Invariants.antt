use Rattle.std.proofs.Common.{ℕ, List, Some}
use Rattle.arrow_types.specs.declared.schema.Schema.{Schema}
use Rattle.table_versions.specs.Table.{Row}
use Rattle.fetch_stream.specs.inside.MadeAhead.{AreAhead}
use Rattle.fetch_stream.proofs.morsel_parcels.make_ahead.Given as goal

abbrev pub invariant-loop-left : goal.invariant-loop-left
invariant-loop-left l = (schema : Schema) (rows : List Row) (given : ℕ) → AreAhead schema rows given l.fn.made.items (Some l.fn.rest) → AreAhead schema rows given l.made.items (Some l.rest)

abbrev pub decreases-loop-left : goal.decreases-loop-left
decreases-loop-left l = l.left
