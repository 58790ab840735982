-- What the payloads of a stream say, call by call.
use Rattle.std.proofs.Common.{◌≡◌, ◌≤◌, ◌<◌, ℕ, ◌+◌, Bool, true, false, List, [], ◌∷◌, ◌++◌, length, take, Option, Some, None, Ok, Err, inl, inr, refl, sym, ap, subst, ◌∙◌, append_assoc, append-nil, length-append, arith}
use Rattle.scan_base.specs.declared.fault.Fault.{Fault}
use Rattle.scan_base.specs.declared.fault.Fault.TheVariants.{OutOfMemory, ResultTooLarge}
use Rattle.scan_base.specs.Limits.{most_answer_rows}
use Rattle.arrow_types.specs.declared.schema.Schema.{Schema}
use Rattle.endpoint_split.specs.Handle.{HandleAt}
use Rattle.table_versions.specs.Table.{Row, Table}
use Rattle.table_versions.specs.Database.{Database}
use Rattle.flight_info.specs.Payloads.{Payload}
use Rattle.fetch_stream.specs.Fetches.{HandleMeans, SayBeginning, SayDressed, FetchAt}
use Rattle.fetch_stream.specs.Streams.{StreamAt, Parcel, SaySoFar, GivesParcel, Gives, MayRefuse, HasGiven, StreamsAnswer, opened}

-- ---- one call

-- what a call gave
pub gave : (before after : StreamAt) (parcel : Parcel) → Gives before (Ok (Some parcel)) after → GivesParcel before parcel after
gave before after parcel gives = by before.schema before.begun before.left before.given before.refused gives
  where
    by : (schema : Schema) (begun : Bool) (left : List Row) (count : ℕ) (refused : Option Fault)
        → Gives (record { schema = schema; begun = begun; left = left; given = count; refused = refused }) (Ok (Some parcel)) after
        → GivesParcel (record { schema = schema; begun = begun; left = left; given = count; refused = refused }) parcel after
    by schema begun left count None gives = gives
    by schema begun left count (Some fault) gives = absurd (let e = gives.0 in cc)

pub ended : (before after : StreamAt) → Gives before (Ok None) after → (before.begun ≡ true) × (before.left ≡ []) × (after ≡ before)
ended before after gives = by before.schema before.begun before.left before.given before.refused gives
  where
    by : (schema : Schema) (begun : Bool) (left : List Row) (count : ℕ) (refused : Option Fault)
        → Gives (record { schema = schema; begun = begun; left = left; given = count; refused = refused }) (Ok None) after
        → (begun ≡ true) × (left ≡ []) × (after ≡ record { schema = schema; begun = begun; left = left; given = count; refused = refused })
    by schema begun left count None gives = gives
    by schema begun left count (Some fault) gives = absurd (let e = gives.0 in cc)

-- why a stream was refused that was not before
pub was_refused : (before after : StreamAt) (fault : Fault) → before.refused ≡ None → Gives before (Err fault) after → MayRefuse before fault
was_refused before after fault none gives = by before.schema before.begun before.left before.given before.refused none gives
  where
    by : (schema : Schema) (begun : Bool) (left : List Row) (count : ℕ) (refused : Option Fault) → refused ≡ None
        → Gives (record { schema = schema; begun = begun; left = left; given = count; refused = refused }) (Err fault) after
        → MayRefuse (record { schema = schema; begun = begun; left = left; given = count; refused = refused }) fault
    by schema begun left count None none gives = gives.0
    by schema begun left count (Some other) none gives = absurd cc

-- whether the schema is still to come, as a number
abbrev to_begin : Bool → ℕ
to_begin true = 0
to_begin false = 1

-- how many calls may still give something
abbrev pub turns : StreamAt → ℕ
turns stream = length stream.left + to_begin stream.begun

pub fewer_turns : (before after : StreamAt) (parcel : Parcel) → GivesParcel before parcel after → turns after < turns before
fewer_turns before after parcel gives =
    let long : length (gives.rows ++ after.left) ≡ length before.left = ap length gives.left in
    let begun : to_begin after.begun ≡ 0 = rw gives.begun refl in
    by before.begun refl (omega (arith, long, length-append gives.rows after.left)) begun
  where
    by : (begun : Bool) → before.begun ≡ begun → length gives.rows + length after.left ≡ length before.left → to_begin after.begun ≡ 0 → turns after < turns before
    by true e long none =
        let some = gives.some e in
        let last : to_begin before.begun ≡ 0 = rw e refl in
        omega (arith, some, long, none, last)
    by false e long none =
        let last : to_begin before.begun ≡ 1 = rw e refl in
        omega (arith, long, none, last)

-- ---- all calls

pub given_none : (answer : Table) → HasGiven answer [] (opened answer)
given_none answer = record { rows = []; said = (refl, refl); counted = refl; within = omega arith; all = refl; schema = refl }

pub given_more : (answer : Table) (payloads : List Payload) (before after : StreamAt) (parcel : Parcel) → HasGiven answer payloads before → GivesParcel before parcel after
    → HasGiven answer (payloads ++ parcel) after
given_more answer payloads before after parcel has gives = record {
  rows = has.rows ++ gives.rows;
  said = gives.said payloads has.rows has.said;
  counted = omega (arith, has.counted, gives.counted, length-append has.rows gives.rows);
  within = gives.within;
  all = append_assoc has.rows gives.rows after.left ∙ ap (λ (rows : List Row). has.rows ++ rows) gives.left ∙ has.all;
  schema = gives.schema ∙ has.schema;
}

-- where a payload said the schema, all of them say it and the rows so far
said_begun : (answer : Table) (payloads : List Payload) (stream : StreamAt) (has : HasGiven answer payloads stream) → stream.begun ≡ true → SayDressed payloads answer.schema has.rows
said_begun answer payloads stream has begun =
    subst (λ (schema : Schema). SayDressed payloads schema has.rows) has.schema (by stream.begun begun has.said)
  where
    by : (begun : Bool) → begun ≡ true → SaySoFar (record { schema = stream.schema; begun = begun; left = stream.left; given = stream.given; refused = stream.refused }) payloads has.rows
        → SayDressed payloads stream.schema has.rows
    by true e said = said
    by false e said = absurd cc

pub given_all : (answer : Table) (payloads : List Payload) (stream : StreamAt) → HasGiven answer payloads stream → stream.begun ≡ true → stream.left ≡ [] → SayDressed payloads answer.schema answer.rows
given_all answer payloads stream has begun none =
    subst (λ (rows : List Row). SayDressed payloads answer.schema rows)
    (sym (append-nil has.rows) ∙ ap (λ (rows : List Row). has.rows ++ rows) (sym none) ∙ has.all) (said_begun answer payloads stream has begun)

-- and an answer of which all was given is no larger than it may be
all_few : (answer : Table) (payloads : List Payload) (stream : StreamAt) → HasGiven answer payloads stream → stream.left ≡ [] → length answer.rows ≤ most_answer_rows
all_few answer payloads stream has none =
    omega (arith, has.counted, has.within, ap length none, ap length has.all, length-append has.rows stream.left)

take_first : {X : Type 0} (xs ys : List X) → take (length xs) (xs ++ ys) ≡ xs
take_first [] ys = refl
take_first (x ∷ xs) ys = ap (λ (rest : List _). x ∷ rest) (take_first xs ys)

-- where a payload said the schema, they say a beginning of the answer
given_part : (answer : Table) (payloads : List Payload) (stream : StreamAt) → HasGiven answer payloads stream → stream.begun ≡ true → SayBeginning payloads answer
given_part answer payloads stream has begun =
    let n = length has.rows in
    let long : length (has.rows ++ stream.left) ≡ length answer.rows = ap length has.all in
    let first : take n answer.rows ≡ has.rows = ap (λ (rows : List Row). take n rows) (sym has.all) ∙ take_first has.rows stream.left in (
      n,
      omega (arith, has.counted, has.within),
      omega (arith, long, length-append has.rows stream.left),
      subst (λ (rows : List Row). SayDressed payloads answer.schema rows) (sym first) (said_begun answer payloads stream has begun),
    )

-- where none did, there is no payload
none_given : (answer : Table) (payloads : List Payload) (stream : StreamAt) (has : HasGiven answer payloads stream) → stream.begun ≡ false → payloads ≡ []
none_given answer payloads stream has begun = by stream.begun begun has.said
  where
    by : (begun : Bool) → begun ≡ false → SaySoFar (record { schema = stream.schema; begun = begun; left = stream.left; given = stream.given; refused = stream.refused }) payloads has.rows
        → payloads ≡ []
    by true e said = absurd cc
    by false e said = said.0

module _ (database : Database) (handle : HandleAt) (answer : Table) (payloads : List Payload) (stream : StreamAt) (means : HandleMeans database handle answer)
    (has : HasGiven answer payloads stream) where
  short_of_memory : FetchAt database handle payloads (Some OutOfMemory)
  short_of_memory = by stream.begun refl
    where
      by : (begun : Bool) → stream.begun ≡ begun → FetchAt database handle payloads (Some OutOfMemory)
      by false e = inl (none_given answer payloads stream has e)
      by true e = inr (answer, means, given_part answer payloads stream has e)

  too_large : stream.begun ≡ true → most_answer_rows < stream.given + length stream.left → FetchAt database handle payloads (Some ResultTooLarge)
  too_large begun large =
      let long : length (has.rows ++ stream.left) ≡ length answer.rows = ap length has.all in
      (answer, means, omega (arith, large, has.counted, long, length-append has.rows stream.left), given_part answer payloads stream has begun)

  all_given : stream.begun ≡ true → stream.left ≡ [] → FetchAt database handle payloads None
  all_given begun none = record {
    answer = answer;
    means = means;
    few = all_few answer payloads stream has none;
    said = given_all answer payloads stream has begun none;
  }

  stopped : (fault : Fault) → MayRefuse stream fault → FetchAt database handle payloads (Some fault)
  stopped fault (inl memory) = rw memory short_of_memory
  stopped fault (inr large) = rw large.0 (too_large large.1 large.2)

pub streams_answer : StreamsAnswer
streams_answer = record {
  begin = given_none;
  go_on = given_more;
  end = all_given;
  refused = λ database handle answer payloads stream fault means has why. stopped database handle answer payloads stream means has fault why;
}
