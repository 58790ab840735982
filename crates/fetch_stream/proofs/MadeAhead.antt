-- Parcels that are made ahead of a stream, and the rest of it.
use Rattle.std.proofs.Common.{◌≡◌, ◌+◌, ℕ, Bool, true, false, List, [], ◌∷◌, ◌++◌, length, map, drop, cond, Option, Some, None, Result, Ok, Err, inl, inr, refl, sym, ap, subst, ◌∙◌, length-append, arith}
use Rattle.std.specs.List.{list_any, filter}
use Rattle.std.proofs.lemmas.List.{drop-drop, drop_at, length-drop}
use Rattle.scan_base.specs.declared.fault.Fault.{Fault}
use Rattle.arrow_types.specs.declared.schema.Schema.{Schema}
use Rattle.row_sources.specs.declared.turn.Patience.{Patience}
use Rattle.row_sources.specs.declared.turn.Turn.{Turn}
use Rattle.row_sources.specs.declared.turn.Turn.TheVariants.{Given, Working, End}
use Rattle.table_versions.specs.Table.{Row}
use Rattle.table_versions.proofs.Storable.{first_false, second_false}
use Rattle.fetch_stream.specs.Streams.{StreamAt, RunningAt, Parcel, Gives, GivesParcel, MayRefuse}
use Rattle.fetch_stream.specs.declared.ahead_parcel.AheadParcel.{AheadParcel}
use Rattle.fetch_stream.specs.inside.MadeAhead.{AreAhead, GivesMade, MakesNext, behind}
use Rattle.fetch_stream.proofs.Answering.{ended}

abbrev at_parts : Schema → Bool → List Row → ℕ → Option Fault → StreamAt
at_parts schema begun left given refused = record { schema = schema; begun = begun; left = left; given = given; refused = refused }

parts_are : (schema other : Schema) (begun : Bool) (left rest : List Row) (given : ℕ) (refused : Option Fault) → schema ≡ other → begun ≡ true → left ≡ rest → refused ≡ None
    → at_parts schema begun left given refused ≡ at_parts other true rest given None
parts_are schema other begun left rest given refused same on all none = rw (same, on, all, none) refl

-- what refused a stream is answered from then on
pub stays_refused : (before after : StreamAt) (result : Result (Option Parcel) Fault) (fault : Fault) → before.refused ≡ Some fault → Gives before result after → (result ≡ Err fault) × (after ≡ before)
stays_refused before after result fault is gives = by before.schema before.begun before.left before.given before.refused is gives
  where
    by : (schema : Schema) (begun : Bool) (left : List Row) (given : ℕ) (refused : Option Fault) → refused ≡ Some fault
        → Gives (at_parts schema begun left given refused) result after
        → (result ≡ Err fault) × (after ≡ at_parts schema begun left given refused)
    by schema begun left given None is gives = absurd cc
    by schema begun left given (Some other) is gives =
        let same : other ≡ fault = cc in
        (gives.0 ∙ rw same refl, gives.1)

-- ---- one parcel more

module _ (schema : Schema) (rows : List Row) (given : ℕ) (parcel : Parcel) (after : StreamAt) (gives : GivesParcel (behind schema rows given) parcel after) where
  -- after the next parcel a stream of these rows stands at the rows after it
  pub next_stands : after ≡ behind schema rows after.given
  next_stands =
      let n = length gives.rows in
      let rest : after.left ≡ drop after.given rows =
      sym (drop_at gives.rows after.left n refl) ∙ ap (λ (l : List Row). drop n l) gives.left ∙ drop-drop n given rows ∙ ap (λ (k : ℕ). drop k rows) (sym gives.counted) in
      parts_are after.schema schema after.begun after.left (drop after.given rows) after.given after.refused gives.schema gives.begun rest gives.refused

  -- and what is given and left of them is all of them
  pub next_whole : after.given + length after.left ≡ length rows
  next_whole = omega (arith, gives.counted, gives.some refl, ap length gives.left, length-append gives.rows after.left, length-drop given rows)

pub one_ahead : (patience : Patience) (schema : Schema) (rows : List Row) (given : ℕ) (next : AheadParcel) (after : RunningAt) → MakesNext patience (behind schema rows given) (Ok (Given next)) after.stream → AreAhead schema rows given (next ∷ []) (Some after)
one_ahead patience schema rows given next after makes =
    let gives : GivesParcel (behind schema rows given) next.parcel after.stream = makes.0 in
    let stands : after.stream ≡ behind schema rows next.given = next_stands schema rows given next.parcel after.stream gives ∙ ap (λ (k : ℕ). behind schema rows k) (sym makes.1) in (
      subst (λ (s : StreamAt). GivesParcel (behind schema rows given) next.parcel s) stands gives,
      makes.2,
      omega (arith, makes.3, next_whole schema rows given next.parcel after.stream gives),
      inl stands,
    )

pub more_ahead : (patience : Patience) (schema : Schema) (rows : List Row) (given : ℕ) (made : List AheadParcel) (before after : RunningAt) (next : AheadParcel) → AreAhead schema rows given made (Some before)
    → MakesNext patience before.stream (Ok (Given next)) after.stream → AreAhead schema rows given (made ++ next ∷ []) (Some after)
more_ahead patience schema rows given [] before after next (inl same) makes =
    one_ahead patience schema rows given next after (subst (λ (s : StreamAt). MakesNext patience s (Ok (Given next)) after.stream) same makes)
more_ahead patience schema rows given [] before after next (inr refused) makes =
    absurd (let e = (stays_refused before.stream after.stream (Ok (Some next.parcel)) refused.0 refused.1 makes.0).0 in cc)
more_ahead patience schema rows given (made ∷ more) before after next all makes =
    (all.0, all.1, all.2, more_ahead patience schema rows made.given more before after next all.3 makes)

-- ---- none more

-- the rest is still to come
same_ahead : (schema : Schema) (rows : List Row) (given : ℕ) (made : List AheadParcel) (before after : RunningAt) → AreAhead schema rows given made (Some before)
    → after.stream ≡ before.stream → AreAhead schema rows given made (Some after)
same_ahead schema rows given [] before after (inl same) e = inl (e ∙ same)
same_ahead schema rows given [] before after (inr refused) e = inr (refused.0, ap (λ (s : StreamAt). s.refused) e ∙ refused.1, refused.2)
same_ahead schema rows given (made ∷ more) before after all e = (all.0, all.1, all.2, same_ahead schema rows made.given more before after all.3 e)

-- the rest gave nothing yet
pub working_ahead : (patience : Patience) (schema : Schema) (rows : List Row) (given : ℕ) (made : List AheadParcel) (before after : RunningAt) → AreAhead schema rows given made (Some before)
    → MakesNext patience before.stream (Ok Working) after.stream → AreAhead schema rows given made (Some after)
working_ahead patience schema rows given made before after all makes = same_ahead schema rows given made before after all makes.1

-- or nothing at all
pub ended_ahead : (schema : Schema) (rows : List Row) (given : ℕ) (made : List AheadParcel) (before after : RunningAt) → AreAhead schema rows given made (Some before)
    → Gives before.stream (Ok None) after.stream → AreAhead schema rows given made (Some after)
ended_ahead schema rows given made before after all gives = same_ahead schema rows given made before after all (ended before.stream after.stream gives).2

-- or was refused
pub refused_ahead : (schema : Schema) (rows : List Row) (given : ℕ) (made : List AheadParcel) (before after : RunningAt) (fault : Fault) → AreAhead schema rows given made (Some before)
    → Gives before.stream (Err fault) after.stream → AreAhead schema rows given made (Some after)
refused_ahead schema rows given [] before after fault (inl same) gives =
    let refuses : MayRefuse (behind schema rows given) fault × (after.stream.refused ≡ Some fault) = subst (λ (s : StreamAt). Gives s (Err fault) after.stream) same gives in
    inr (fault, refuses.1, refuses.0)
refused_ahead schema rows given [] before after fault (inr refused) gives =
    let stays = stays_refused before.stream after.stream (Err fault) refused.0 refused.1 gives in
    inr (refused.0, ap (λ (s : StreamAt). s.refused) stays.1 ∙ refused.1, refused.2)
refused_ahead schema rows given (made ∷ more) before after fault all gives =
    (all.0, all.1, all.2, refused_ahead schema rows made.given more before after fault all.3 gives)

-- ---- what is given

-- or that of the rest
pub gives_rest : (patience : Patience) (schema : Schema) (rows : List Row) (given : ℕ) (before after : RunningAt) (result : Result (Turn AheadParcel) Fault) → AreAhead schema rows given [] (Some before)
    → MakesNext patience before.stream result after.stream → GivesMade patience schema rows given result [] (Some after)
gives_rest patience schema rows given before after (Ok (Given next)) (inl same) makes =
    one_ahead patience schema rows given next after (subst (λ (s : StreamAt). MakesNext patience s (Ok (Given next)) after.stream) same makes)
gives_rest patience schema rows given before after (Ok (Given next)) (inr refused) makes =
    absurd (let e = (stays_refused before.stream after.stream (Ok (Some next.parcel)) refused.0 refused.1 makes.0).0 in cc)
gives_rest patience schema rows given before after (Ok Working) (inl same) makes = (inl (makes.1 ∙ same), makes.2)
gives_rest patience schema rows given before after (Ok Working) (inr refused) makes =
    absurd (let e = refused.1 in let none = makes.0 in cc)
gives_rest patience schema rows given before after (Ok End) (inl same) makes =
    let end = ended before.stream after.stream makes in
    (sym (ap (λ (s : StreamAt). s.left) same) ∙ end.1, inl (end.2 ∙ same))
gives_rest patience schema rows given before after (Ok End) (inr refused) makes =
    absurd (let e = (stays_refused before.stream after.stream (Ok None) refused.0 refused.1 makes).0 in cc)
gives_rest patience schema rows given before after (Err fault) (inl same) makes =
    let refuses : MayRefuse (behind schema rows given) fault × (after.stream.refused ≡ Some fault) = subst (λ (s : StreamAt). Gives s (Err fault) after.stream) same makes in
    refuses.0
gives_rest patience schema rows given before after (Err fault) (inr refused) makes =
    let e = (stays_refused before.stream after.stream (Err fault) refused.0 refused.1 makes).0 in
    let same : fault ≡ refused.0 = cc in
    subst (λ (f : Fault). MayRefuse (behind schema rows given) f) (sym same) refused.2

-- what is the same without its first one is empty
none_dropped : {X : Type 0} (xs : List X) → xs ≡ drop 1 xs → xs ≡ []
none_dropped [] same = refl
none_dropped (x ∷ xs) same = absurd (let long : length (x ∷ xs) ≡ length xs = ap length same in omega (arith, long))

-- none was made, and the rest gives the next one
pub gives_behind : (patience : Patience) (schema : Schema) (rows : List Row) (given : ℕ) (made more : List AheadParcel) (rest : Option RunningAt) (before after : RunningAt) (result : Result (Turn AheadParcel) Fault)
    → made ≡ more → more ≡ drop 1 made → rest ≡ Some before → MakesNext patience before.stream result after.stream → AreAhead schema rows given made rest → GivesMade patience schema rows given result more (Some after)
gives_behind patience schema rows given made more rest before after result same none is makes all =
    let empty : more ≡ [] = none_dropped more (none ∙ ap (λ (l : List AheadParcel). drop 1 l) same) in
    let there : AreAhead schema rows given made (Some before) = subst (λ (r : Option RunningAt). AreAhead schema rows given made r) is all in
    let begins : AreAhead schema rows given [] (Some before) = subst (λ (m : List AheadParcel). AreAhead schema rows given m (Some before)) (same ∙ empty) there in
    subst (λ (m : List AheadParcel). GivesMade patience schema rows given result m (Some after)) (sym empty) (gives_rest patience schema rows given before after result begins makes)

-- ---- morsels of a scan

-- a part of rows has no text that is too long where they have none
pub short_part : (test : Row → Bool) (chosen : Option ℕ × Row → Bool) (ahead : List (Option ℕ × Row)) → list_any test (map (λ (given : Option ℕ × Row). given.1) ahead) ≡ false
    → list_any test (map (λ (given : Option ℕ × Row). given.1) (filter chosen ahead)) ≡ false
short_part test chosen [] short = refl
short_part test chosen (row ∷ ahead) short =
    by (chosen row) (short_part test chosen ahead (second_false (test row.1) (list_any test (map (λ (given : Option ℕ × Row). given.1) ahead)) short))
  where
    by : (b : Bool) → list_any test (map (λ (given : Option ℕ × Row). given.1) (filter chosen ahead)) ≡ false
        → list_any test (map (λ (given : Option ℕ × Row). given.1) (cond b (row ∷ filter chosen ahead) (filter chosen ahead))) ≡ false
    by true rest = rw (first_false (test row.1) (list_any test (map (λ (given : Option ℕ × Row). given.1) ahead)) short) rest
    by false rest = rest
