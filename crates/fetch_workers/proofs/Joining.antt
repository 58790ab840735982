-- The streams of morsels, one after the other, are the stream that they make up.
use Rattle.std.proofs.Common.{◌≡◌, ◌≢◌, ◌≤◌, ◌<◌, ◌+◌, ℕ, Bool, true, false, List, [], ◌++◌, length, drop, Option, Some, None, Result, Ok, Err, inl, inr, refl, sym, ap, subst, ◌∙◌, append_assoc, length-append, arith}
use Rattle.std.specs.List.{flat_map}
use Rattle.std.proofs.lemmas.List.{drop_more, drop_all}
use Rattle.scan_base.specs.declared.fault.Fault.{Fault}
use Rattle.scan_base.specs.declared.fault.Fault.TheVariants.{ResultTooLarge}
use Rattle.scan_base.specs.Limits.{most_answer_rows}
use Rattle.arrow_types.specs.declared.schema.Schema.{Schema}
use Rattle.row_sources.specs.declared.turn.Patience.{Patience}
use Rattle.row_sources.specs.declared.turn.Patience.TheVariants.{Endless}
use Rattle.row_sources.specs.declared.turn.Turn.{Turn}
use Rattle.row_sources.specs.declared.turn.Turn.TheVariants.{Given, Working, End}
use Rattle.table_versions.specs.Table.{Row}
use Rattle.flight_info.specs.Payloads.{Payload}
use Rattle.fetch_stream.specs.Fetches.{SayDressed}
use Rattle.fetch_stream.specs.Streams.{StreamAt, Parcel, GivesTurn, GivesParcel, MayRefuse, SaySoFar}
use Rattle.fetch_stream.specs.Morsels.{MorselsAt, morsel_stream, whole_stream}
use Rattle.fetch_stream.proofs.Answering.{gave, ended, was_refused}
use Rattle.fetch_workers.specs.inside.JoinedMorsels.{GivesCounted, GivesFirst, GivesJoined, GivesPresent, Goes, IsJoined, given_of, joined_stream, left_of}

-- the rows of the morsels that come after
abbrev rest_of : MorselsAt → ℕ → List Row
rest_of morsels answered = flat_map (λ (rows : List Row). rows) (drop answered morsels.rows)

-- ---- a morsel, counted

-- where so many rows were taken
pub counts_parcel : (patience other : Patience) (before after : StreamAt) (parcel : Parcel) (done taken : ℕ) → GivesTurn other before (Ok (Given parcel)) after → after.given ≤ taken → done + taken ≤ most_answer_rows
    → GivesCounted patience before done (Ok (Given parcel)) after
counts_parcel patience other before after parcel done taken gives there few = (gave before after parcel gives, omega (arith, there, few))

-- where there are too many
pub counts_too_many : (patience other : Patience) (before after : StreamAt) (parcel : Parcel) (done taken : ℕ) → GivesTurn other before (Ok (Given parcel)) after → taken ≤ after.given + length after.left → most_answer_rows < done + taken
    → GivesCounted patience before done (Err ResultTooLarge) after
counts_too_many patience other before after parcel done taken gives there many =
    let parcel_gives = gave before after parcel gives in
    inr (refl, omega (arith, there, many, parcel_gives.counted, ap length parcel_gives.left, length-append parcel_gives.rows after.left))

-- where none of the rows is given that were looked at
pub counts_working : (patience other : Patience) (before after : StreamAt) (done : ℕ) → GivesTurn other before (Ok Working) after → (patience ≡ Endless → other ≡ Endless) → GivesCounted patience before done (Ok Working) after
counts_working patience other before after done gives endless = (gives.1, λ e. gives.2 (endless e))

pub counts_end : (patience other : Patience) (before after : StreamAt) (done : ℕ) → GivesTurn other before (Ok End) after → GivesCounted patience before done (Ok End) after
counts_end patience other before after done gives = let end = ended before after gives in (end.1, end.2)

pub counts_refusal : (patience other : Patience) (before after : StreamAt) (done : ℕ) (fault : Fault) → before.refused ≡ None → GivesTurn other before (Err fault) after → GivesCounted patience before done (Err fault) after
counts_refusal patience other before after done fault none gives = by (was_refused before after fault none gives)
  where
    by : MayRefuse before fault → GivesCounted patience before done (Err fault) after
    by (inl memory) = inl memory
    by (inr large) = inr (large.0, omega (arith, large.2))

-- ---- one parcel

-- what payloads say so far, where the stream has begun
said_as : (one other : StreamAt) → one.begun ≡ true → other.begun ≡ true → one.schema ≡ other.schema → (payloads : List Payload) (rows : List Row) → SaySoFar one payloads rows → SaySoFar other payloads rows
said_as one other on off same payloads rows said = by one.schema other.schema one.begun other.begun on off same said
  where
    by : (schema last : Schema) (begun too : Bool) → begun ≡ true → too ≡ true → schema ≡ last
        → SaySoFar (record { schema = schema; begun = begun; left = one.left; given = one.given; refused = one.refused }) payloads rows
        → SaySoFar (record { schema = last; begun = too; left = other.left; given = other.given; refused = other.refused }) payloads rows
    by schema last true true on off same said = subst (λ (s : Schema). SayDressed payloads s rows) same said
    by schema last false too on off same said = absurd cc
    by schema last true false on off same said = absurd cc

-- a parcel of the present morsel is one of the stream, if there are not too many rows
gives_present : (morsels : MorselsAt) (answered done : ℕ) (present after : StreamAt) (parcel : Parcel) → Goes morsels.schema (Some present) → GivesParcel present parcel after
    → done + after.given ≤ most_answer_rows → GivesParcel (joined_stream morsels answered true (Some present) done None) parcel (joined_stream morsels answered true (Some after) done None)
gives_present morsels answered done present after parcel goes gives within =
    let before = joined_stream morsels answered true (Some present) done None in
    let behind = joined_stream morsels answered true (Some after) done None in
    record {
      rows = gives.rows;
      said = λ payloads given so.
          said_as after behind gives.begun refl (gives.schema ∙ goes.0) (payloads ++ parcel) (given ++ gives.rows)
          (gives.said payloads given (said_as before present refl goes.1 (sym goes.0) payloads given so));
      left = sym (append_assoc gives.rows after.left (rest_of morsels answered)) ∙ ap (λ (rows : List Row). rows ++ rest_of morsels answered) gives.left;
      counted = omega (arith, gives.counted);
      within = within;
      some = λ e. gives.some goes.1;
      few = gives.few;
      short = gives.short;
      fits = gives.fits;
      schema = refl;
      begun = refl;
      refused = refl;
    }

-- the present morsel goes on
still_goes : (schema : Schema) (present after : StreamAt) (parcel : Parcel) → Goes schema (Some present) → GivesParcel present parcel after → Goes schema (Some after)
still_goes schema present after parcel goes gives = (gives.schema ∙ goes.0, gives.begun, gives.refused)

-- what refuses a morsel that is counted refuses the stream
refuses_counted : (patience : Patience) (morsels : MorselsAt) (answered done : ℕ) (present : StreamAt) (fault : Fault) → GivesCounted patience present done (Err fault) present → MayRefuse (joined_stream morsels answered true (Some present) done None) fault
refuses_counted patience morsels answered done present fault (inl memory) = inl memory
refuses_counted patience morsels answered done present fault (inr large) =
    inr (large.0, refl, omega (arith, large.1, length-append present.left (rest_of morsels answered)))

-- after the end of the present morsel the stream is the same with none
none_present : (morsels : MorselsAt) (answered done : ℕ) (present : StreamAt) → present.left ≡ []
    → joined_stream morsels answered true None (done + present.given) None ≡ joined_stream morsels answered true (Some present) done None
none_present morsels answered done present none = by present.left present.given none
  where
    by : (left : List Row) (given : ℕ) → left ≡ [] → joined_stream morsels answered true None (done + given) None
        ≡ record { schema = morsels.schema; begun = true; left = left ++ rest_of morsels answered; given = done + given; refused = None }
    by left given none = let sum : done + given + 0 ≡ done + given = omega arith in rw (none, sum) refl

-- ---- the present morsel

module _ (patience : Patience) (morsels : MorselsAt) (answered done : ℕ) where
  -- none is present
  pub present_none : (present next : Option StreamAt) → present ≡ None → next ≡ None → done + given_of present ≤ most_answer_rows → GivesPresent patience morsels answered present done (Ok End) next done
  present_none present next none too few = rw (none, too) (refl, omega (arith, rw none at few), refl)

  -- a parcel of it
  pub present_parcel : (present after : StreamAt) (parcel : Parcel) → Goes morsels.schema (Some present) → GivesCounted patience present done (Ok (Given parcel)) after
      → GivesPresent patience morsels answered (Some present) done (Ok (Given parcel)) (Some after) done
  present_parcel present after parcel goes gives =
      (gives_present morsels answered done present after parcel goes gives.0 gives.1, still_goes morsels.schema present after parcel goes gives.0, gives.1)

  -- it gives nothing yet
  pub present_working : (present after : StreamAt) → GivesCounted patience present done (Ok Working) after
      → GivesPresent patience morsels answered (Some present) done (Ok Working) (Some after) done
  present_working present after gives = (ap (λ (s : StreamAt). Some s) gives.0, refl, gives.1)

  -- its end
  pub present_ended : (present after : StreamAt) (all : ℕ) → done + present.given ≤ most_answer_rows → GivesCounted patience present done (Ok End) after → all ≡ done + after.given
      → GivesPresent patience morsels answered (Some present) done (Ok End) None all
  present_ended present after all few gives is =
      let same : all ≡ done + present.given = is ∙ ap (λ (s : StreamAt). done + s.given) gives.1 in
      rw same (refl, few, none_present morsels answered done present gives.0)

  -- it is refused
  pub present_refused : (present after : StreamAt) (fault : Fault) (next : Option StreamAt) (all : ℕ) → GivesCounted patience present done (Err fault) after → GivesPresent patience morsels answered (Some present) done (Err fault) next all
  present_refused present after fault next all gives = refuses_counted patience morsels answered done present fault gives

-- ---- the next morsel

-- the next morsel is the present one
next_present : (morsels : MorselsAt) (answered done : ℕ) → answered < length morsels.rows
    → joined_stream morsels answered true None done None ≡ joined_stream morsels (answered + 1) true (Some (morsel_stream morsels answered)) done None
next_present morsels answered done there =
    ap (λ (left : List Row). record { schema = morsels.schema; begun = true; left = left; given = done + 0; refused = None }) (ap (flat_map (λ (rows : List Row). rows)) (drop_more morsels.rows answered [] there))

-- where more morsels were answered, all of which gave nothing, the stream is what it was
abbrev pub StoodSo : MorselsAt → ℕ → ℕ → ℕ → Type 0
StoodSo morsels done first now = joined_stream morsels now true None done None ≡ joined_stream morsels first true None done None

-- the next morsel was not refused
fresh_goes : (morsels : MorselsAt) (now : ℕ) (part : StreamAt) → part ≡ morsel_stream morsels now → Goes morsels.schema (Some part)
fresh_goes morsels now part is = subst (λ (s : StreamAt). Goes morsels.schema (Some s)) (sym is) (refl, refl, refl)

module _ (patience : Patience) (morsels : MorselsAt) (done first now : ℕ) (stood : StoodSo morsels done first now) where
  -- after the last morsel nothing is left
  pub later_none : (last : ℕ) (next : Option StreamAt) → last ≡ now → next ≡ None → done ≤ most_answer_rows → length morsels.rows ≤ now → GivesJoined patience morsels first None done (Ok End) last next done
  later_none last next same none few high =
      let empty : (joined_stream morsels now true None done None).left ≡ [] = ap (flat_map (λ (rows : List Row). rows)) (drop_all now morsels.rows high) in
      rw (same, none) (sym (ap (λ (s : StreamAt). s.left) stood) ∙ empty, stood, tt, omega (arith, few))

  -- none is there yet, or enough gave nothing
  pub later_working : (last : ℕ) (next : Option StreamAt) → last ≡ now → next ≡ None → done ≤ most_answer_rows → patience ≢ Endless → GivesJoined patience morsels first None done (Ok Working) last next done
  later_working last next same none few ends = rw (same, none) (stood, tt, omega (arith, few), ends)

  module _ (part : StreamAt) (is : part ≡ morsel_stream morsels now) (there : now < length morsels.rows) where
    -- the stream with the next morsel present
    with_next : joined_stream morsels (now + 1) true (Some part) done None ≡ joined_stream morsels first true None done None
    with_next = ap (λ (s : StreamAt). joined_stream morsels (now + 1) true (Some s) done None) is ∙ sym (next_present morsels now done there) ∙ stood

    -- a parcel of it
    pub later_parcel : (after : StreamAt) (parcel : Parcel) (next : ℕ) → next ≡ now + 1 → GivesCounted patience part done (Ok (Given parcel)) after → GivesJoined patience morsels first None done (Ok (Given parcel)) next (Some after) done
    later_parcel after parcel next more gives =
        let goes : Goes morsels.schema (Some part) = fresh_goes morsels now part is in
        let one : GivesParcel (joined_stream morsels (now + 1) true (Some part) done None) parcel (joined_stream morsels (now + 1) true (Some after) done None) = gives_present morsels (now + 1) done part after parcel goes gives.0 gives.1 in
        let all : GivesParcel (joined_stream morsels first true None done None) parcel (joined_stream morsels (now + 1) true (Some after) done None) =
        subst (λ (s : StreamAt). GivesParcel s parcel (joined_stream morsels (now + 1) true (Some after) done None)) with_next one in
        subst (λ (k : ℕ). GivesJoined patience morsels first None done (Ok (Given parcel)) k (Some after) done) (sym more) (all, still_goes morsels.schema part after parcel goes gives.0, gives.1)

    -- nothing of it yet
    pub later_waits : (after : StreamAt) (next : ℕ) → next ≡ now + 1 → done ≤ most_answer_rows → GivesCounted patience part done (Ok Working) after → GivesJoined patience morsels first None done (Ok Working) next (Some after) done
    later_waits after next more few gives =
        let same : joined_stream morsels (now + 1) true (Some after) done None ≡ joined_stream morsels first true None done None = ap (λ (s : StreamAt). joined_stream morsels (now + 1) true (Some s) done None) gives.0 ∙ with_next in
        let goes : Goes morsels.schema (Some after) = subst (λ (s : StreamAt). Goes morsels.schema (Some s)) (sym gives.0) (fresh_goes morsels now part is) in
        let none : done + after.given ≡ done = ap (λ (s : StreamAt). done + s.given) (gives.0 ∙ is) ∙ omega arith in
        subst (λ (k : ℕ). GivesJoined patience morsels first None done (Ok Working) k (Some after) done) (sym more) (same, goes, omega (arith, few, none), gives.1)

    -- its end, where it gave nothing
    pub later_ended : (after : StreamAt) (next : ℕ) → next ≡ now + 1 → GivesCounted patience part done (Ok End) after → StoodSo morsels done first next
    later_ended after next more gives =
        let nothing : done + part.given ≡ done = ap (λ (s : StreamAt). done + s.given) is ∙ omega arith in
        let one : joined_stream morsels (now + 1) true None (done + part.given) None ≡ joined_stream morsels (now + 1) true (Some part) done None = none_present morsels (now + 1) done part gives.0 in
        let two : joined_stream morsels (now + 1) true None done None ≡ joined_stream morsels (now + 1) true (Some part) done None = subst (λ (k : ℕ). joined_stream morsels (now + 1) true None k None ≡ joined_stream morsels (now + 1) true (Some part) done None) nothing one in
        subst (λ (k : ℕ). StoodSo morsels done first k) (sym more) (two ∙ with_next)

    -- it is refused
    pub later_refused : (after : StreamAt) (fault : Fault) (next : ℕ) (present : Option StreamAt) → GivesCounted patience part done (Err fault) after → GivesJoined patience morsels first None done (Err fault) next present done
    later_refused after fault next present gives =
        subst (λ (s : StreamAt). MayRefuse s fault) with_next (refuses_counted patience morsels (now + 1) done part fault gives)

-- ---- a call

-- what a stream gives, by another name of it
pub joined_as : (patience : Patience) (morsels : MorselsAt) (answered done all now last : ℕ) (one other next : Option StreamAt) (result : Result (Turn Parcel) Fault)
    → joined_stream morsels answered true one done None ≡ joined_stream morsels answered true other all None
    → GivesJoined patience morsels answered one done result now next last → GivesJoined patience morsels answered other all result now next last
joined_as patience morsels answered done all now last one other next (Ok (Given parcel)) same gives =
    (subst (λ (s : StreamAt). GivesParcel s parcel (joined_stream morsels now true next last None)) same gives.0, gives.1, gives.2)
joined_as patience morsels answered done all now last one other next (Ok Working) same gives = (gives.0 ∙ same, gives.1, gives.2, gives.3)
joined_as patience morsels answered done all now last one other next (Ok End) same gives =
    (sym (ap (λ (s : StreamAt). s.left) same) ∙ gives.0, gives.1 ∙ same, gives.2, gives.3)
joined_as patience morsels answered done all now last one other next (Err fault) same gives = subst (λ (s : StreamAt). MayRefuse s fault) same gives

-- what the present morsel gives is what the stream gives
pub joined_present : (patience : Patience) (morsels : MorselsAt) (answered done all : ℕ) (present next : Option StreamAt) (parcel : Parcel) → GivesPresent patience morsels answered present done (Ok (Given parcel)) next all
    → GivesJoined patience morsels answered present done (Ok (Given parcel)) answered next all
joined_present patience morsels answered done all present next parcel gives = gives

-- where it gives nothing yet, neither does the stream
pub joined_working : (patience : Patience) (morsels : MorselsAt) (answered done all : ℕ) (present next : Option StreamAt) → Goes morsels.schema present → done + given_of present ≤ most_answer_rows
    → GivesPresent patience morsels answered present done (Ok Working) next all → GivesJoined patience morsels answered present done (Ok Working) answered next all
joined_working patience morsels answered done all present next goes few gives =
    rw (gives.0, gives.1) (refl, goes, few, gives.2)

-- no morsel was answered, and no parcel given
pub begins : (morsels : MorselsAt) → joined_stream morsels 0 morsels.begun None 0 None ≡ whole_stream morsels
begins morsels = refl

-- the first parcel
pub first_joined : (patience : Patience) (morsels : MorselsAt) (answered done : ℕ) (begun : Bool) (present : Option StreamAt) (given : Turn Parcel) → begun ≡ false → done + given_of present ≡ 0 → GivesFirst morsels.schema (Ok given)
    → GivesTurn patience (joined_stream morsels answered begun present done None) (Ok given) (joined_stream morsels answered true present done None)
first_joined patience morsels answered done begun present Working first zero says = absurd says
first_joined patience morsels answered done begun present End first zero says = absurd says
first_joined patience morsels answered done true present (Given parcel) first zero says = absurd cc
first_joined patience morsels answered done false present (Given parcel) first zero says = by (done + given_of present) zero
  where
    by : (count : ℕ) → count ≡ 0 → GivesParcel (record { schema = morsels.schema; begun = false; left = left_of present ++ rest_of morsels answered; given = count; refused = None }) parcel
        (record { schema = morsels.schema; begun = true; left = left_of present ++ rest_of morsels answered; given = count; refused = None })
    by count none = rw (none, says.1) (says.2 (left_of present ++ rest_of morsels answered))

-- a later one
pub next_joined : (patience : Patience) (morsels : MorselsAt) (answered done now all : ℕ) (begun : Bool) (present next : Option StreamAt) (given : Turn Parcel) → begun ≡ true → GivesJoined patience morsels answered present done (Ok given) now next all
    → GivesTurn patience (joined_stream morsels answered begun present done None) (Ok given) (joined_stream morsels now true next all None)
next_joined patience morsels answered done now all false present next given on gives = absurd cc
next_joined patience morsels answered done now all true present next (Given parcel) on gives = gives.0
next_joined patience morsels answered done now all true present next Working on gives = (refl, gives.0, gives.3)
next_joined patience morsels answered done now all true present next End on gives = (refl, gives.0, gives.1)

-- where a stream stands after a call
pub stands_on : (patience : Patience) (morsels : MorselsAt) (answered done now all : ℕ) (present next : Option StreamAt) (given : Turn Parcel) (refused : Option Fault) → GivesJoined patience morsels answered present done (Ok given) now next all
    → IsJoined morsels true next all refused
stands_on patience morsels answered done now all present next (Given parcel) refused gives = record { goes = λ e. gives.1; few = λ e. gives.2; first = λ e. absurd cc }
stands_on patience morsels answered done now all present next Working refused gives = record { goes = λ e. gives.1; few = λ e. gives.2; first = λ e. absurd cc }
stands_on patience morsels answered done now all present next End refused gives = record { goes = λ e. gives.2; few = λ e. gives.3; first = λ e. absurd cc }
