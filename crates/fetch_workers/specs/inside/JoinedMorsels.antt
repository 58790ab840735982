-- Inside: the stream that its morsels make up, where some of them were answered.
use Rattle.std.specs.Prelude.{◌≡◌, ◌≢◌, ◌≤◌, ◌<◌, ◌⊎◌, ℕ, ◌+◌, Bool, true, false, List, [], ◌∷◌}
use Rattle.std.specs.Prelude.{◌++◌, length, drop, Option, Some, None, Result, Ok, Err}
use Rattle.std.specs.List.{flat_map}
use Rattle.scan_base.specs.declared.fault.Fault.{Fault}
use Rattle.scan_base.specs.declared.fault.Fault.TheVariants.{OutOfMemory, ResultTooLarge}
use Rattle.scan_base.specs.Limits.{most_answer_rows}
use Rattle.arrow_types.specs.declared.schema.Schema.{Schema}
use Rattle.row_sources.specs.declared.turn.Patience.{Patience}
use Rattle.row_sources.specs.declared.turn.Patience.TheVariants.{Endless}
use Rattle.row_sources.specs.declared.turn.Turn.{Turn}
use Rattle.row_sources.specs.declared.turn.Turn.TheVariants.{Given, Working, End}
use Rattle.table_versions.specs.Table.{Row}
use Rattle.flight_info.specs.Payloads.{Payload}
use Rattle.fetch_stream.specs.Streams.{StreamAt, Parcel, GivesParcel, MayRefuse}
use Rattle.fetch_stream.specs.Morsels.{MorselsAt, GivesSchema, morsel_stream}

-- what may be answered to each morsel is its stream, and there are as many answers as morsels
pub record AnswersMorsels {A : Type 0} (stream : A → StreamAt) (morsels : MorselsAt)
    (right : ℕ → A → Type 0) (count : ℕ) : Type 0 where
  pub count_is : count ≡ length morsels.rows
  pub each : (number : ℕ) (answer : A) → right number answer →
      stream answer ≡ morsel_stream morsels number

-- what is left of the morsel whose payloads come next, and how many rows of it were given
abbrev pub left_of : Option StreamAt → List Row
left_of None = []
left_of (Some present) = present.left

abbrev pub given_of : Option StreamAt → ℕ
given_of None = 0
given_of (Some present) = present.given

-- the stream after so many morsels that were answered, of which the last one is present, and those
-- before had so many rows
abbrev pub joined_stream : MorselsAt → ℕ → Bool → Option StreamAt → ℕ → Option Fault → StreamAt
joined_stream morsels answered begun present done refused = record {
  schema = morsels.schema;
  begun = begun;
  left = left_of present ++ flat_map (λ (rows : List Row). rows) (drop answered morsels.rows);
  given = done + given_of present;
  refused = refused;
}

-- a morsel that is present was not refused
abbrev pub Goes : Schema → Option StreamAt → Type 0
Goes schema None = Unit {0}
Goes schema (Some present) =
    (present.schema ≡ schema) × (present.begun ≡ true) × (present.refused ≡ None)

-- where a stream stands, if it was not refused; before its first parcel no row was given
pub record IsJoined (morsels : MorselsAt) (begun : Bool) (present : Option StreamAt) (done : ℕ)
    (refused : Option Fault) : Type 0 where
  pub goes : refused ≡ None → Goes morsels.schema present
  pub few : refused ≡ None → done + given_of present ≤ most_answer_rows
  pub first : begun ≡ false → done + given_of present ≡ 0

-- a parcel is the payload of the schema alone
abbrev pub IsFirst : Schema → Parcel → Type 0
IsFirst schema parcel = (only : Payload) × (parcel ≡ only ∷ []) × GivesSchema schema (Ok only)

-- the first parcel says the schema
abbrev pub GivesFirst : Schema → Result (Turn Parcel) Fault → Type 0
GivesFirst schema (Ok (Given parcel)) = IsFirst schema parcel
GivesFirst schema (Ok Working) = ⊥
GivesFirst schema (Ok End) = ⊥
GivesFirst schema (Err fault) = GivesSchema schema (Err fault)

-- what a turn of a morsel gives, where those before it had so many rows
abbrev pub GivesCounted : Patience → StreamAt → ℕ → Result (Turn Parcel) Fault → StreamAt → Type 0
GivesCounted patience before done (Ok (Given parcel)) after =
    GivesParcel before parcel after × (done + after.given ≤ most_answer_rows)
GivesCounted patience before done (Ok Working) after = (after ≡ before) × (patience ≢ Endless)
GivesCounted patience before done (Ok End) after = (before.left ≡ []) × (after ≡ before)
GivesCounted patience before done (Err fault) after =
    (fault ≡ OutOfMemory)
    ⊎ ((fault ≡ ResultTooLarge) × (most_answer_rows < done + (before.given + length before.left)))

-- what a turn of the present morsel gives; after its end none is present
abbrev pub GivesPresent : Patience → MorselsAt → ℕ → Option StreamAt → ℕ →
    Result (Turn Parcel) Fault → Option StreamAt → ℕ → Type 0
GivesPresent patience morsels answered present done (Ok (Given parcel)) next all =
    GivesParcel (joined_stream morsels answered true present done None) parcel
    (joined_stream morsels answered true next all None)
    × Goes morsels.schema next × (all + given_of next ≤ most_answer_rows)
GivesPresent patience morsels answered present done (Ok Working) next all =
    (next ≡ present) × (all ≡ done) × (patience ≢ Endless)
GivesPresent patience morsels answered present done (Ok End) next all =
    (next ≡ None) × (all ≤ most_answer_rows)
    × (joined_stream morsels answered true None all None
    ≡ joined_stream morsels answered true present done None)
GivesPresent patience morsels answered present done (Err fault) next all =
    MayRefuse (joined_stream morsels answered true present done None) fault

-- what a turn of all morsels gives, where a stream stood at one and stands at another
abbrev pub GivesJoined : Patience → MorselsAt → ℕ → Option StreamAt → ℕ →
    Result (Turn Parcel) Fault → ℕ → Option StreamAt → ℕ → Type 0
GivesJoined patience morsels answered present done (Ok (Given parcel)) now next all =
    GivesParcel (joined_stream morsels answered true present done None) parcel
    (joined_stream morsels now true next all None)
    × Goes morsels.schema next × (all + given_of next ≤ most_answer_rows)
GivesJoined patience morsels answered present done (Ok Working) now next all =
    (joined_stream morsels now true next all None
    ≡ joined_stream morsels answered true present done None)
    × Goes morsels.schema next × (all + given_of next ≤ most_answer_rows) × (patience ≢ Endless)
GivesJoined patience morsels answered present done (Ok End) now next all =
    ((joined_stream morsels answered true present done None).left ≡ [])
    × (joined_stream morsels now true next all None
    ≡ joined_stream morsels answered true present done None)
    × Goes morsels.schema next × (all + given_of next ≤ most_answer_rows)
GivesJoined patience morsels answered present done (Err fault) now next all =
    MayRefuse (joined_stream morsels answered true present done None) fault
