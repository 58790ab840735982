-- Inside: parcels of a morsel that are made ahead.
use Rattle.std.specs.Prelude.{◌≡◌, ◌≢◌, ◌≤◌, ◌⊎◌, ℕ, ◌+◌, Bool, true, List, [], ◌∷◌, length, map}
use Rattle.std.specs.Prelude.{drop, Option, Some, None, Result, Ok, Err}
use Rattle.std.specs.List.{range_with_len}
use Rattle.scan_base.specs.declared.fault.Fault.{Fault}
use Rattle.arrow_types.specs.declared.schema.Schema.{Schema}
use Rattle.row_sources.specs.declared.turn.Patience.{Patience}
use Rattle.row_sources.specs.declared.turn.Patience.TheVariants.{Endless}
use Rattle.row_sources.specs.declared.turn.Turn.{Turn}
use Rattle.row_sources.specs.declared.turn.Turn.TheVariants.{Given, Working, End}
use Rattle.table_versions.specs.Table.{Row}
use Rattle.scan_exec.specs.Scan.{ScanAt}
use Rattle.scan_exec.specs.Morsels.{HasMorsels, morsel_rows}
use Rattle.fetch_stream.specs.Streams.{StreamAt, RunningAt, Gives, GivesParcel, MayRefuse}
use Rattle.fetch_stream.specs.Morsels.{MorselsAt}
use Rattle.fetch_stream.specs.declared.ahead_parcel.AheadParcel.{AheadParcel}
use Rattle.fetch_stream.specs.declared.source.Source.TheVariants.{Scanned}
use Rattle.fetch_stream.specs.inside.RowsAhead.{IsSource}

-- the morsels of a scan
abbrev pub morsels_at : ScanAt → ℕ → Bool → MorselsAt
morsels_at scan count begun =
    record {
      schema = scan.schema;
      begun = begun;
      rows = map (morsel_rows scan) (range_with_len 0 count);
    }

-- a scan of rows that falls into so many morsels
pub record FallsInto (scan : ScanAt) (count : ℕ) : Type 0 where
  pub morsels : HasMorsels scan count
  pub source : IsSource (Scanned scan)

-- a stream of these rows, of which so many were given
abbrev pub behind : Schema → List Row → ℕ → StreamAt
behind schema rows given =
    record { schema = schema; begun = true; left = drop given rows; given = given; refused = None }

-- where the rest of a stream stands, if there is memory for one: at its next row, or it was refused
-- there
abbrev pub Stands : StreamAt → Option RunningAt → Type 0
Stands stream None = Unit {0}
Stands stream (Some rest) = (rest.stream ≡ stream)
    ⊎ ((fault : Fault) × (rest.stream.refused ≡ Some fault) × MayRefuse stream fault)

-- Parcels that were made of these rows after the first ones, each after the other, and the rest.
-- With each stands how many rows are given with it, and how many were taken of the scan.
abbrev pub AreAhead : Schema → List Row → ℕ → List AheadParcel → Option RunningAt → Type 0
AreAhead schema rows given [] rest = Stands (behind schema rows given) rest
AreAhead schema rows given (made ∷ more) rest =
    GivesParcel (behind schema rows given) made.parcel (behind schema rows made.given)
    × (made.given ≤ made.taken) × (made.taken ≤ length rows)
    × AreAhead schema rows made.given more rest

-- what a turn of a stream gives, with how many rows were given and taken then
abbrev pub MakesNext : Patience → StreamAt → Result (Turn AheadParcel) Fault → StreamAt → Type 0
MakesNext patience before (Ok (Given made)) after =
    Gives before (Ok (Some made.parcel)) after × (made.given ≡ after.given)
    × (made.given ≤ made.taken) × (made.taken ≤ after.given + length after.left)
MakesNext patience before (Ok Working) after =
    (before.refused ≡ None) × (after ≡ before) × (patience ≢ Endless)
MakesNext patience before (Ok End) after = Gives before (Ok None) after
MakesNext patience before (Err fault) after = Gives before (Err fault) after

-- what parcels that are ahead give in a turn, and the rest after them
abbrev pub GivesMade : Patience → Schema → List Row → ℕ → Result (Turn AheadParcel) Fault →
    List AheadParcel →
    Option RunningAt → Type 0
GivesMade patience schema rows given (Ok (Given made)) more rest =
    GivesParcel (behind schema rows given) made.parcel (behind schema rows made.given)
    × (made.given ≤ made.taken) × (made.taken ≤ length rows)
    × AreAhead schema rows made.given more rest
GivesMade patience schema rows given (Ok Working) more rest =
    AreAhead schema rows given more rest × (patience ≢ Endless)
GivesMade patience schema rows given (Ok End) more rest =
    (drop given rows ≡ []) × AreAhead schema rows given more rest
GivesMade patience schema rows given (Err fault) more rest =
    MayRefuse (behind schema rows given) fault
