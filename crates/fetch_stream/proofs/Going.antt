-- What a call of a stream gives, by what the parts of the stream give.
use Rattle.std.proofs.Common.{◌≡◌, ◌≤◌, ◌<◌, ◌+◌, ℕ, Bool, true, false, List, [], ◌∷◌, ◌++◌, length, Option, None, Result, Ok, refl, sym, ap, subst, ◌∙◌, append-nil, arith}
use Rattle.scan_base.specs.declared.fault.Fault.{Fault}
use Rattle.scan_base.specs.Limits.{most_answer_rows, most_message_bytes}
use Rattle.arrow_types.specs.declared.schema.Schema.{Schema}
use Rattle.row_sources.specs.declared.turn.Patience.{Patience}
use Rattle.row_sources.specs.declared.turn.Turn.{Turn}
use Rattle.row_sources.specs.declared.turn.Turn.TheVariants.{Given, Working, End}
use Rattle.table_versions.specs.Table.{Row, Table}
use Rattle.flight_info.specs.Payloads.{Payload, FitMessages}
use Rattle.flight_info.proofs.Fitting.{none_fit, one_fits}
use Rattle.fetch_stream.specs.Fetches.{SayDressed}
use Rattle.fetch_stream.specs.Streams.{StreamAt, Parcel, GivesParcel, GivesTurn, LooksFor, opened}
use Rattle.fetch_stream.specs.declared.cutter.Cutter.{Cutter}
use Rattle.fetch_stream.specs.declared.source.Source.{Source}
use Rattle.fetch_stream.specs.inside.RowsAhead.{IsGoing, schema_behind, rows_cut, unseen_behind}
use Rattle.fetch_stream.specs.inside.Steps.{GivesFirst, GivesRows, Waits, rows_left}
use Rattle.fetch_stream.specs.inside.WrittenPayloads.{SaysRows, SaysSchema}
use Rattle.fetch_stream.proofs.Streaming.{say_first, say_more, together_short}

abbrev pub stream_of : Schema → Bool → List Row → ℕ → StreamAt
stream_of schema begun left count = record { schema = schema; begun = begun; left = left; given = count; refused = None }

-- ---- before the first call

-- a stream of rows, of which none stands before those that are left
pub opens_behind : (schema : Schema) (none left : List Row) (answer : Table) → schema ≡ answer.schema → none ≡ [] → left ≡ answer.rows → stream_of schema false (none ++ left) 0 ≡ opened answer
opens_behind schema none left answer same nothing all = rw (same, nothing, all) refl

-- a stream of a batch of which nothing was cut
pub starts : (schema : Schema) (cut whole left : List Row) (count : ℕ) → cut ≡ whole → count ≡ 0 → stream_of schema false (cut ++ left) count ≡ stream_of schema false (whole ++ left) 0
starts schema cut whole left count same none = rw (same, none) refl

-- a stream of rows alone
pub opens_all : (schema : Schema) (rows : List Row) (answer : Table) → schema ≡ answer.schema → rows ≡ answer.rows → stream_of schema false (rows ++ []) 0 ≡ opened answer
opens_all schema rows answer same all = rw (append-nil rows, same, all) refl

-- ---- one call

-- the schema's payload
pub gives_schema : (schema : Schema) (begun : Bool) (left : List Row) (count : ℕ) (payload : Payload) → begun ≡ false → count ≤ most_answer_rows → SaysSchema payload schema
    → length payload ≤ most_message_bytes → GivesParcel (stream_of schema begun left count) (payload ∷ []) (stream_of schema true left count)
gives_schema schema true left count payload first within s fits = absurd cc
gives_schema schema false left count payload first within s fits = record {
  rows = [];
  said = λ payloads given so.
      subst (λ (p : List Payload). SayDressed (p ++ payload ∷ []) schema (given ++ [])) (sym so.0)
      (subst (λ (r : List Row). SayDressed (payload ∷ []) schema (r ++ [])) (sym so.1) (say_first payload schema s));
  left = refl;
  counted = omega arith;
  within = within;
  some = λ e. absurd cc;
  few = omega arith;
  short = together_short (payload ∷ []) (s.message ∷ []) (s.carries, tt) (omega (arith, s.short));
  fits = one_fits [] payload none_fit fits;
  schema = refl;
  begun = refl;
  refused = refl;
}

-- the parcel of rows
pub gives_rows : (schema new : Schema) (begun : Bool) (left rest rows : List Row) (count more : ℕ) (parcel : Parcel) → begun ≡ true → new ≡ schema → SaysRows parcel schema rows
    → rows ++ rest ≡ left → more ≡ count + length rows → more ≤ most_answer_rows → 0 < length rows → length rows ≤ 65536
    → FitMessages parcel → GivesParcel (stream_of schema begun left count) parcel (stream_of new true rest more)
gives_rows schema new false left rest rows count more parcel on same s join counted within some few fits = absurd cc
gives_rows schema new true left rest rows count more parcel on same s join counted within some few fits = record {
  rows = rows;
  said = λ payloads given so. subst (λ (sch : Schema). SayDressed (payloads ++ parcel) sch (given ++ rows)) (sym same) (say_more payloads parcel schema given rows s some so);
  left = join;
  counted = counted;
  within = within;
  some = λ e. some;
  few = few;
  short = together_short parcel (s.dictionaries ++ s.batch ∷ []) s.carry s.short;
  fits = fits;
  schema = same;
  begun = refl;
  refused = refl;
}

-- the same stream
same_stream : (schema new : Schema) (left rest : List Row) (count more : ℕ) → new ≡ schema → rest ≡ left → more ≡ count → stream_of new true rest more ≡ stream_of schema true left count
same_stream schema new left rest count more same rows counted = rw (same, rows, counted) refl

-- a stream has given no more rows than an answer has
pub cut_few : (cutter : Cutter) (source : Source) → IsGoing cutter source → rows_cut cutter source ≤ most_answer_rows
cut_few cutter source is = omega (arith, is.within)

-- a turn after the first one
pub gives_next : (patience : Patience) (cutter : Cutter) (source : Source) (given : Turn Parcel) (new_cutter : Cutter) (new : Source) (begun : Bool) → begun ≡ true
    → GivesRows patience cutter source (Ok given) new_cutter new
    → GivesTurn patience (stream_of (schema_behind source) begun (rows_left cutter source) (rows_cut cutter source)) (Ok given)
    (stream_of (schema_behind new) true (rows_left new_cutter new) (rows_cut new_cutter new))
gives_next patience cutter source (Given parcel) new_cutter new begun on next =
    gives_rows (schema_behind source) (schema_behind new) begun (rows_left cutter source) (rows_left new_cutter new) next.given (rows_cut cutter source) (rows_cut new_cutter new)
    parcel on next.keeps.schema next.said next.rows next.counted (cut_few new_cutter new next.keeps.going) next.some next.few next.fits
gives_next patience cutter source Working new_cutter new false on waits = absurd cc
gives_next patience cutter source Working new_cutter new true on waits = (
  refl,
  same_stream (schema_behind source) (schema_behind new) (rows_left cutter source) (rows_left new_cutter new) (rows_cut cutter source) (rows_cut new_cutter new)
      waits.0.keeps.schema waits.0.rows waits.0.same,
  waits.1.0,
)
gives_next patience cutter source End new_cutter new false on ends = absurd cc
gives_next patience cutter source End new_cutter new true on ends = (
  refl,
  ends.1,
  same_stream (schema_behind source) (schema_behind new) (rows_left cutter source) (rows_left new_cutter new) (rows_cut cutter source) (rows_cut new_cutter new)
      ends.0.schema (ends.2 ∙ sym ends.1) ends.3,
)

-- the first one
pub gives_first : (patience : Patience) (schema : Schema) (given : Turn Parcel) (left : List Row) (count : ℕ) (begun : Bool) → begun ≡ false → count ≤ most_answer_rows
    → GivesFirst schema (Ok given) → GivesTurn patience (stream_of schema begun left count) (Ok given) (stream_of schema true left count)
gives_first patience schema (Given parcel) left count begun first within s =
    subst (λ (p : Parcel). GivesParcel (stream_of schema begun left count) p (stream_of schema true left count)) (sym s.alone)
    (gives_schema schema begun left count s.payload first within s.said s.fits)
gives_first patience schema Working left count begun first within s = absurd s
gives_first patience schema End left count begun first within s = absurd s

-- what a turn looks at
pub looks_next : (patience : Patience) (cutter : Cutter) (source : Source) (given : Turn Parcel) (new_cutter : Cutter) (new : Source) →
    GivesRows patience cutter source (Ok given) new_cutter new → LooksFor patience (Ok given) (unseen_behind source) (unseen_behind new)
looks_next patience cutter source (Given parcel) new_cutter new next = tt
looks_next patience cutter source Working new_cutter new waits = waits.1.1
looks_next patience cutter source End new_cutter new ends = tt

pub looks_first : (patience : Patience) (schema : Schema) (given : Turn Parcel) (before after : ℕ) → GivesFirst schema (Ok given) → LooksFor patience (Ok given) before after
looks_first patience schema (Given parcel) before after s = tt
looks_first patience schema Working before after s = absurd s
looks_first patience schema End before after s = absurd s

-- what is left of a stream that goes on
pub goes_on : (patience : Patience) (cutter : Cutter) (source : Source) (given : Turn Parcel) (new_cutter : Cutter) (new : Source) →
    GivesRows patience cutter source (Ok given) new_cutter new → IsGoing new_cutter new
goes_on patience cutter source (Given parcel) new_cutter new next = next.keeps.going
goes_on patience cutter source Working new_cutter new waits = waits.0.keeps.going
goes_on patience cutter source End new_cutter new ends = ends.0.going

-- a stream as it is, by its parts
abbrev stream_by : Schema → Bool → List Row → ℕ → Option Fault → StreamAt
stream_by schema begun left count refused = record { schema = schema; begun = begun; left = left; given = count; refused = refused }

-- a stream whose source has made what it needs is the same
pub readied_stream : (cutter : Cutter) (source new : Source) (begun : Bool) (refused : Option Fault) → Waits cutter source cutter new →
    stream_by (schema_behind new) begun (rows_left cutter new) (rows_cut cutter new) refused ≡ stream_by (schema_behind source) begun (rows_left cutter source) (rows_cut cutter source) refused
readied_stream cutter source new begun refused waits =
    ap (λ (schema : Schema). stream_by schema begun (rows_left cutter new) (rows_cut cutter new) refused) waits.keeps.schema
    ∙ ap (λ (left : List Row). stream_by (schema_behind source) begun left (rows_cut cutter new) refused) waits.rows
    ∙ ap (λ (count : ℕ). stream_by (schema_behind source) begun (rows_left cutter source) count refused) waits.same

-- a turn of a stream that nothing refused gives this, whatever names it has
pub gives_so : (patience : Patience) (before one after other : StreamAt) (result : Result (Turn Parcel) Fault) (given : Turn Parcel) → before ≡ one → result ≡ Ok given → after ≡ other
    → one.refused ≡ None → other.refused ≡ None → GivesTurn patience (stream_of one.schema one.begun one.left one.given) (Ok given) (stream_of other.schema other.begun other.left other.given)
    → GivesTurn patience before result after
gives_so patience before one after other result given first is last none still gives =
    let begins : before ≡ stream_of one.schema one.begun one.left one.given = first ∙ ap (λ refused. stream_by one.schema one.begun one.left one.given refused) none in
    let ends : after ≡ stream_of other.schema other.begun other.left other.given = last ∙ ap (λ refused. stream_by other.schema other.begun other.left other.given refused) still in
    subst (λ (s : StreamAt). GivesTurn patience s result after) (sym begins)
    (subst (λ (s : StreamAt). GivesTurn patience (stream_of one.schema one.begun one.left one.given) result s) (sym ends)
    (subst (λ (r : Result (Turn Parcel) Fault). GivesTurn patience (stream_of one.schema one.begun one.left one.given) r (stream_of other.schema other.begun other.left other.given)) (sym is) gives))
