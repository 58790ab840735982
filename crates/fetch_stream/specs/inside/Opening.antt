-- Inside: what is meant, before it is scanned.
use Rattle.std.specs.Prelude.{◌≡◌, ℕ, false, List, map, None, Option}
use Rattle.arrow_types.specs.Schema.{IsSchema}
use Rattle.table_versions.specs.Table.{Row}
use Rattle.scan_exec.specs.GivenRows.{given_of}
use Rattle.fetch_stream.specs.Streams.{StreamAt}
use Rattle.fetch_stream.specs.Morsels.{before_schema}
use Rattle.fetch_stream.specs.declared.opening.Meaning.{Meaning}
use Rattle.fetch_stream.specs.declared.opening.Meaning.TheVariants.{Planned, Listed}
use Rattle.fetch_stream.specs.declared.opening.PlannedScan.{PlannedScan}

-- the rows that a scan is to give
abbrev pub rows_meant : PlannedScan → List Row
rows_meant scan = map (λ (given : Option ℕ × Row). given.1) (given_of scan.plan scan.from scan.to)

-- the stream of what is meant
abbrev pub stream_meant : Meaning → StreamAt
stream_meant (Planned scan) = before_schema scan.plan.schema (rows_meant scan)
stream_meant (Listed stream) = stream.stream

-- a plan has a schema, and nothing was given of the list of tables
abbrev pub IsMeaning : Meaning → Type 0
IsMeaning (Planned scan) = IsSchema scan.plan.schema
IsMeaning (Listed stream) =
    (stream.stream.begun ≡ false) × (stream.stream.given ≡ 0) × (stream.stream.refused ≡ None)
