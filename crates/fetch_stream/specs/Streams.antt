-- A stream of an answer's payloads: what is still to come, and what its calls give. Each call gives
-- a parcel: the payload of the schema, or those of the dictionaries of some rows, and after them
-- that of these rows.
use Rattle.std.specs.Prelude.{◌≡◌, ◌≢◌, ◌≤◌, ◌<◌, ◌⊎◌, ℕ, ◌+◌, Bool, true, false, List, [], ◌++◌}
use Rattle.std.specs.Prelude.{length, map, Option, Some, None, Result, Ok, Err}
use Rattle.scan_base.specs.declared.fault.Fault.{Fault}
use Rattle.scan_base.specs.declared.fault.Fault.TheVariants.{BadTicket, ResultTooLarge, OutOfMemory}
use Rattle.scan_base.specs.Limits.{most_answer_rows}
use Rattle.scan_base.specs.Lists.{each}
use Rattle.arrow_types.specs.declared.schema.Schema.{Schema}
use Rattle.row_sources.specs.declared.turn.Patience.{Patience}
use Rattle.row_sources.specs.declared.turn.Patience.TheVariants.{Endless, Choice}
use Rattle.row_sources.specs.declared.turn.Turn.{Turn}
use Rattle.row_sources.specs.declared.turn.Turn.TheVariants.{Given, Working, End}
use Rattle.table_versions.specs.Table.{Row, Table}
use Rattle.table_versions.specs.Database.{Database}
use Rattle.endpoint_split.specs.Handle.{HandleAt}
use Rattle.flight_proto.specs.FlightData.{DataSaid, data_of}
use Rattle.dictionary_answers.specs.Lengths.{bodies_length}
use Rattle.flight_info.specs.Payloads.{Payload, message_in, FitMessages}
use Rattle.fetch_stream.specs.Fetches.{HandleMeans, MeansNothing, SayDressed, FetchAt}

-- as many rows as a message of an answer has
abbrev pub most_message_rows : ℕ
most_message_rows = 65536

-- as many bytes as the bodies of a parcel have together
abbrev pub most_body_bytes : ℕ
most_body_bytes = 8388608

-- what is still to come of an answer: its schema, and whether a payload has said it, and its rows;
-- how many rows were given before; and what refused the stream
pub record StreamAt : Type 0 where
  pub schema : Schema
  pub begun : Bool
  pub left : List Row
  pub given : ℕ
  pub refused : Option Fault

-- a stream as it runs: what is still to come, and how many rows its turns have still to look at
pub record RunningAt : Type 0 where
  pub stream : StreamAt
  pub unseen : ℕ

-- payloads that are given together
abbrev pub Parcel : Type 0
Parcel = List Payload

-- all of an answer is still to come
abbrev pub opened : Table → StreamAt
opened answer =
    record { schema = answer.schema; begun = false; left = answer.rows; given = 0; refused = None }

-- The stream of a handle, or why there is none: a handle that means nothing is a bad ticket.
abbrev pub Opens : Database → HandleAt → Result StreamAt Fault → Type 0
Opens database handle (Ok stream) =
    (answer : Table) × HandleMeans database handle answer × (stream ≡ opened answer)
Opens database handle (Err BadTicket) = MeansNothing database handle
Opens database handle (Err OutOfMemory) = Unit {0}
Opens database handle (Err _) = ⊥

-- the payloads that a stream has given say these rows after its schema, each batch of them right
-- after its dictionaries
abbrev pub SaySoFar : StreamAt → List Payload → List Row → Type 0
SaySoFar stream payloads rows = so_far stream.begun
  where
    so_far : Bool → Type 0
    so_far true = SayDressed payloads stream.schema rows
    so_far false = (payloads ≡ []) × (rows ≡ [])

-- each payload carries a message, whose bodies have no more bytes together than they may
abbrev pub HaveShortBodies : List Payload → Type 0
HaveShortBodies payloads = (all : List DataSaid) × (each data_of payloads ≡ Ok all)
    × (bodies_length (map message_in all) ≤ most_body_bytes)

-- The next parcel: the schema's payload, and then one row or more after their dictionaries. With
-- those before it, it says them after theirs. A message has no more rows and bytes than it may
-- have, nor have its body and those of its dictionaries together; and an answer has no more rows.
pub record GivesParcel (before : StreamAt) (parcel : Parcel) (after : StreamAt) : Type 0 where
  pub rows : List Row
  pub said : (payloads : List Payload) (given : List Row) → SaySoFar before payloads given →
      SaySoFar after (payloads ++ parcel) (given ++ rows)
  pub left : rows ++ after.left ≡ before.left
  pub counted : after.given ≡ before.given + length rows
  pub within : after.given ≤ most_answer_rows
  pub some : before.begun ≡ true → 0 < length rows
  pub few : length rows ≤ most_message_rows
  pub short : HaveShortBodies parcel
  pub fits : FitMessages parcel
  pub schema : after.schema ≡ before.schema
  pub begun : after.begun ≡ true
  pub refused : after.refused ≡ None

-- Why a stream may be refused: memory, or, after its schema, more rows than an answer has.
abbrev pub MayRefuse : StreamAt → Fault → Type 0
MayRefuse before fault = (fault ≡ OutOfMemory)
    ⊎ ((fault ≡ ResultTooLarge) × (before.begun ≡ true)
    × (most_answer_rows < before.given + length before.left))

-- What a call gives. What refused a stream is answered from then on.
abbrev pub Gives : StreamAt → Result (Option Parcel) Fault → StreamAt → Type 0
Gives before result after = going before.refused result
  where
    going : Option Fault → Result (Option Parcel) Fault → Type 0
    going (Some fault) result = (result ≡ Err fault) × (after ≡ before)
    going None (Ok (Some parcel)) = GivesParcel before parcel after
    going None (Ok None) = (before.begun ≡ true) × (before.left ≡ []) × (after ≡ before)
    going None (Err fault) = MayRefuse before fault × (after.refused ≡ Some fault)

-- What a turn gives: what a call gives, or nothing yet, of a stream that was not refused, where its
-- patience has an end. Then the same is still to come.
abbrev pub GivesTurn : Patience → StreamAt → Result (Turn Parcel) Fault → StreamAt → Type 0
GivesTurn patience before (Ok (Given parcel)) after = Gives before (Ok (Some parcel)) after
GivesTurn patience before (Ok Working) after =
    (before.refused ≡ None) × (after ≡ before) × (patience ≢ Endless)
GivesTurn patience before (Ok End) after = Gives before (Ok None) after
GivesTurn patience before (Err fault) after = Gives before (Err fault) after

-- A turn that gives nothing yet looked at one row or more, unless it ends at a choice.
abbrev pub LooksFor : Patience → Result (Turn Parcel) Fault → ℕ → ℕ → Type 0
LooksFor patience (Ok Working) before after = patience ≢ Choice → after < before
LooksFor patience result before after = Unit {0}

-- a stream of an answer has given these payloads
pub record HasGiven (answer : Table) (payloads : List Payload) (stream : StreamAt) : Type 0 where
  pub rows : List Row
  pub said : SaySoFar stream payloads rows
  pub counted : stream.given ≡ length rows
  pub within : stream.given ≤ most_answer_rows
  pub all : rows ++ stream.left ≡ answer.rows
  pub schema : stream.schema ≡ answer.schema

-- What a stream of an answer gives, call by call, is the answer: all of it where nothing is left,
-- and a beginning of it where the stream is refused.
pub record StreamsAnswer : Type 0 where
  pub begin : (answer : Table) → HasGiven answer [] (opened answer)
  pub go_on : (answer : Table) (payloads : List Payload) (before after : StreamAt)
      (parcel : Parcel) → HasGiven answer payloads before → GivesParcel before parcel after →
      HasGiven answer (payloads ++ parcel) after
  pub end : (database : Database) (handle : HandleAt) (answer : Table) (payloads : List Payload)
      (stream : StreamAt) → HandleMeans database handle answer → HasGiven answer payloads stream →
      stream.begun ≡ true → stream.left ≡ [] → FetchAt database handle payloads None
  pub refused : (database : Database) (handle : HandleAt) (answer : Table) (payloads : List Payload)
      (stream : StreamAt)
      (fault : Fault) → HandleMeans database handle answer → HasGiven answer payloads stream →
      MayRefuse stream fault → FetchAt database handle payloads (Some fault)
