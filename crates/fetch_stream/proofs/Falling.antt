-- A stream of a scan that falls into morsels.
use Rattle.std.proofs.Common.{◌≡◌, ◌<◌, ◌+◌, ℕ, Bool, true, false, List, [], ◌++◌, length, None, Option, refl, sym, ap, subst, ◌∙◌, arith}
use Rattle.std.specs.List.{list_any, flat_map, range_with_len}
use Rattle.std.proofs.lemmas.List.{length-map}
use Rattle.std.proofs.lemmas.List.Folds.{flat_map-map}
use Rattle.std.proofs.lemmas.List.FromFn.{length-range_with_len, get_or-map-range_with_len}
use Rattle.scan_base.specs.declared.fault.Fault.{Fault}
use Rattle.table_versions.specs.Table.{Row, is_long_text}
use Rattle.scan_exec.specs.Scan.{ScanAt, left}
use Rattle.scan_exec.specs.Morsels.{HasMorsels, batch_of, comes_of, morsel_of, morsel_rows}
use Rattle.fetch_stream.specs.Streams.{StreamAt}
use Rattle.fetch_stream.specs.Morsels.{behind_schema, morsel_stream, whole_stream}
use Rattle.fetch_stream.specs.declared.cutter.Cutter.{Cutter}
use Rattle.fetch_stream.specs.declared.source.Source.{Source}
use Rattle.fetch_stream.specs.declared.source.Source.TheVariants.{Scanned}
use Rattle.fetch_stream.specs.inside.RowsAhead.{IsSource, left_behind, rows_cut, schema_behind, uncut}
use Rattle.fetch_stream.specs.inside.MadeAhead.{FallsInto, morsels_at}
use Rattle.fetch_stream.proofs.MadeAhead.{short_part}

-- how many there are
pub count_morsels : (scan : ScanAt) (count : ℕ) (begun : Bool) → length (morsels_at scan count begun).rows ≡ count
count_morsels scan count begun = length-map (range_with_len 0 count) (morsel_rows scan) ∙ length-range_with_len 0 count

-- one of them, as a stream
pub morsel_at : (scan : ScanAt) (count number : ℕ) (begun : Bool) → number < count → behind_schema scan.schema (morsel_rows scan number) ≡ morsel_stream (morsels_at scan count begun) number
morsel_at scan count number begun there =
    let here : 0 + number ≡ number = omega arith in
    ap (λ (rows : List Row). behind_schema scan.schema rows) (sym (get_or-map-range_with_len (morsel_rows scan) 0 count number number [] there here))

-- a morsel of a source of rows is one
pub is_part : (scan : ScanAt) (count number unseen : ℕ) → FallsInto scan count → IsSource (Scanned (record (morsel_of scan number) { unseen = unseen }))
is_part scan count number unseen falls = record {
  schema = falls.source.schema;
  typed = falls.source.typed;
  short = short_part (list_any is_long_text) (λ (given : Option ℕ × Row). comes_of (batch_of scan number) given.0) scan.ahead falls.source.short;
  begins = refl;
}

-- a stream of the scan of which no row was given is what its morsels are
pub whole_view : (cutter : Cutter) (scan : ScanAt) (count : ℕ) (begun : Bool) → HasMorsels scan count → uncut cutter ≡ []
    → ◌≡◌ {A = StreamAt} (record { schema = scan.schema; begun = begun; left = uncut cutter ++ left scan; given = rows_cut cutter (Scanned scan); refused = None }) (whole_stream (morsels_at scan count begun))
whole_view cutter scan count begun has none =
    by (uncut cutter) (left scan) (flat_map (λ (rows : List Row). rows) (morsels_at scan count begun).rows) (rows_cut cutter (Scanned scan)) none
    (has.rows ∙ sym (flat_map-map (λ (rows : List Row). rows) (morsel_rows scan) (range_with_len 0 count))) (omega (arith, has.given))
  where
    by : (cut rows all : List Row) (given : ℕ) → cut ≡ [] → rows ≡ all → given ≡ 0
        → ◌≡◌ {A = StreamAt} (record { schema = scan.schema; begun = begun; left = cut ++ rows; given = given; refused = None }) (record { schema = scan.schema; begun = begun; left = all; given = 0; refused = None })
    by cut rows all given none same zero = rw (none, same, zero) refl

-- and so is the stream by other names of its parts
pub whole_of : (cutter : Cutter) (source : Source) (scan : ScanAt) (count : ℕ) (begun : Bool) (refused : Option Fault) → source ≡ Scanned scan → refused ≡ None → uncut cutter ≡ [] → HasMorsels scan count
    → ◌≡◌ {A = StreamAt} (record { schema = schema_behind source; begun = begun; left = uncut cutter ++ left_behind source; given = rows_cut cutter source; refused = refused }) (whole_stream (morsels_at scan count begun))
whole_of cutter source scan count begun refused is none nothing has = rw (is, none) (whole_view cutter scan count begun has nothing)

-- a source that was not refused, by another name
pub source_of : (source : Source) (scan : ScanAt) → source ≡ Scanned scan → IsSource source → IsSource (Scanned scan)
source_of source scan is goes = subst IsSource is goes

-- the stream of a morsel, after the payload of its schema
pub behind_part : (scan : ScanAt) (number : ℕ) (nothing : List Row) (morsel : ScanAt) (stream last : StreamAt) → nothing ≡ [] → morsel ≡ record (morsel_of scan number) { unseen = morsel.unseen }
    → stream ≡ record { schema = morsel.schema; begun = false; left = nothing ++ left morsel; given = 0; refused = None } → last ≡ record stream { begun = true }
    → last ≡ behind_schema scan.schema (morsel_rows scan number)
behind_part scan number nothing morsel stream last none is begins goes =
    let schema : morsel.schema ≡ scan.schema = ap (λ (s : ScanAt). s.schema) is in
    let rows : left morsel ≡ morsel_rows scan number = ap left is in
    goes ∙ ap (λ (s : StreamAt). record s { begun = true }) begins ∙ rw (none, schema, rows) refl
