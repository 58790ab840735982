-- Tokens pass a limit where the sentence that they spell is not within the limits.
use Rattle.std.proofs.Common.{◌≡◌, ℕ, ◌+◌, ◌≤◌, Bool, true, false, ◌&&◌, ◌||◌, if◌then◌else◌, nat_lt, List}
use Rattle.std.proofs.Common.{[], ◌∷◌, ◌++◌, length, refl, ◌∙◌, flat_map, arith}
use Rattle.std.proofs.Common.{append-nil}
use Rattle.std.specs.Prelude.{All}
use Rattle.std.proofs.lemmas.Bool.{ltb-false, le-ltb, or_from}
use Rattle.std.proofs.lemmas.List.Elements.{All-nil, All-cons, All-head, All-tail, All-append}
use Rattle.sql_text.specs.declared.word.Keyword.TheVariants as word
use Rattle.sql_text.specs.declared.symbol.Symbol.TheVariants as symbol
use Rattle.sql_text.specs.declared.token.TokenKind.{TokenKind}
use Rattle.sql_text.specs.Words.{is_name}
use Rattle.grammar.proofs.Flags.{or-left, or-right}
use Rattle.sql_parse.specs.Limits.{TallyAt, counted, is_past, is_long_name, passes_from}
use Rattle.sql_parse.specs.Tokens.{Mark, value_of, is_word, is_symbol}
use Rattle.sql_parse.proofs.NameTokens.{names_at}
use Rattle.sql_parse.proofs.ListTokens.{Step, begun, next, stepped, steps_at, placed, places_at, announces_place}
use Rattle.sql_parse.proofs.ListTokens.{begins_list}

abbrev pub IsShort : List ℕ → Type 0
IsShort name = length name ≤ 64

-- the list that has so many items now, of which it may have so many, and those after it
abbrev pub Fit : ℕ → ℕ → List Step → Type 0
Fit items most [] = items ≤ most
Fit items most (begun more ∷ steps) = (items ≤ most) × Fit 1 more steps
Fit items most (next ∷ steps) = Fit (items + 1) most steps

pub fit_now : (items most : ℕ) (steps : List Step) → Fit items most steps → items ≤ most
fit_now items most [] f = f
fit_now items most (begun more ∷ steps) f = f.0
fit_now items most (next ∷ steps) f = let later = fit_now (items + 1) most steps f in omega (arith, later)

pub record AllFit (tally : TallyAt) (announced : List (Unit {0})) (steps : List Step) : Type 0 where
  pub places : tally.places + length announced ≤ 4
  pub lists : Fit tally.items tally.most steps

-- ---- one token

in_time : (tally : TallyAt) → is_past tally ≡ false → (tally.places ≤ 4) × (tally.items ≤ tally.most)
unfolding is_past
in_time tally h = (
  ltb-false 4 tally.places (or-left (nat_lt 4 tally.places) (nat_lt tally.most tally.items) h),
  ltb-false tally.most tally.items (or-right (nat_lt 4 tally.places) (nat_lt tally.most tally.items) h),
)

not_past : (tally : TallyAt) → tally.places ≤ 4 → tally.items ≤ tally.most → is_past tally ≡ false
unfolding is_past
not_past tally p i =
    or_from (nat_lt 4 tally.places) (nat_lt tally.most tally.items) (le-ltb 4 tally.places p)
    (le-ltb tally.most tally.items i)

short_by : (t : Mark) → is_long_name t.0 t.1.1 ≡ false → All IsShort (names_at t)
unfolding is_long_name
short_by t = go (is_name t.0)
  where
    go : (b : Bool) → (b && nat_lt 64 (length (value_of t))) ≡ false →
        All IsShort (if b then value_of t ∷ [] else [])
    go true h = All-cons IsShort (value_of t) [] (ltb-false 64 (length (value_of t)) h) (All-nil IsShort)
    go false h = All-nil IsShort

not_long : (t : Mark) → All IsShort (names_at t) → is_long_name t.0 t.1.1 ≡ false
unfolding is_long_name
not_long t = go (is_name t.0)
  where
    go : (b : Bool) → All IsShort (if b then value_of t ∷ [] else []) →
        (b && nat_lt 64 (length (value_of t))) ≡ false
    go true a = le-ltb 64 (length (value_of t)) (All-head IsShort (value_of t) [] a)
    go false a = refl

-- the tally, by what the next token announces
abbrev told_by : (place begins members comma : Bool) → TallyAt → TallyAt
told_by place begins members comma tally =
    if place then record tally { places = tally.places + 1 }
    else (if begins then record tally { items = 1; most = 64 }
    else (if members then record tally { items = 1; most = 256 }
    else (if comma then record tally { items = tally.items + 1 }
    else tally)))

before_one : (a b c d : Bool) (tally : TallyAt) (places : List (Unit {0})) (steps : List Step) →
    is_past tally ≡ false → AllFit (told_by a b c d tally) places steps →
    AllFit tally (placed a ++ places) (stepped a b c d ++ steps)
before_one true b c d tally places steps h f =
    let p = f.places in record { places = omega (arith, p); lists = f.lists }
before_one false true c d tally places steps h f =
    record { places = f.places; lists = ((in_time tally h).1, f.lists) }
before_one false false true d tally places steps h f =
    record { places = f.places; lists = ((in_time tally h).1, f.lists) }
before_one false false false true tally places steps h f = record { places = f.places; lists = f.lists }
before_one false false false false tally places steps h f = f

fits_now : (tally : TallyAt) (places : List (Unit {0})) (steps : List Step) → AllFit tally places steps →
    is_past tally ≡ false
fits_now tally places steps f =
    let p = f.places in
    not_past tally (omega (arith, p)) (fit_now tally.items tally.most steps f.lists)

behind_one : (a b c d : Bool) (tally : TallyAt) (places : List (Unit {0})) (steps : List Step) →
    AllFit tally (placed a ++ places) (stepped a b c d ++ steps) → AllFit (told_by a b c d tally) places steps
behind_one true b c d tally places steps f =
    let p = f.places in record { places = omega (arith, p); lists = f.lists }
behind_one false true c d tally places steps f = record { places = f.places; lists = f.lists.1 }
behind_one false false true d tally places steps f = record { places = f.places; lists = f.lists.1 }
behind_one false false false true tally places steps f = record { places = f.places; lists = f.lists }
behind_one false false false false tally places steps f = f

-- ---- all tokens

abbrev pub announces : TokenKind → Bool
announces k = announces_place k || (begins_list k || (is_word word.In k || is_symbol symbol.Comma k))

nothing_last : (a b c d : Bool) → (a || (b || (c || d))) ≡ false → (placed a ≡ []) × (stepped a b c d ≡ [])
nothing_last true b c d h = cc
nothing_last false true c d h = cc
nothing_last false false true d h = cc
nothing_last false false false true h = cc
nothing_last false false false false h = (refl, refl)

pub record Fits (tally : TallyAt) (ts : List Mark) : Type 0 where
  pub names : All IsShort (flat_map names_at ts)
  pub announced : AllFit tally (flat_map places_at ts) (flat_map steps_at ts)

-- where the last token announces nothing, each item and place that is announced is reached
pub all_fit : (tally : TallyAt) (front : List Mark) (last : Mark) → announces last.0 ≡ false →
    passes_from tally (front ++ last ∷ []) ≡ false → Fits tally (front ++ last ∷ [])
unfolding counted
all_fit tally [] last quiet h =
    let ok = or-left (is_long_name last.0 last.1.1 || is_past tally) false h in
    let none = nothing_last (announces_place last.0) (begins_list last.0) (is_word word.In last.0)
    (is_symbol symbol.Comma last.0) quiet in
    let time = in_time tally (or-right (is_long_name last.0 last.1.1) (is_past tally) ok) in
    let no_places : flat_map places_at (last ∷ []) ≡ [] = append-nil (places_at last) ∙ none.0 in
    let no_steps : flat_map steps_at (last ∷ []) ≡ [] = append-nil (steps_at last) ∙ none.1 in
    record {
      names = All-append IsShort (names_at last) []
          (short_by last (or-left (is_long_name last.0 last.1.1) (is_past tally) ok)) (All-nil IsShort);
      announced = rw (no_places, no_steps) (record { places = omega (arith, time.0); lists = time.1 });
    }
all_fit tally (t ∷ front) last quiet h =
    let later = passes_from (counted tally t.0) (front ++ last ∷ []) in
    let long = is_long_name t.0 t.1.1 in
    let ok = or-left (long || is_past tally) later h in
    let ih = all_fit (counted tally t.0) front last quiet (or-right (long || is_past tally) later h) in
    record {
      names = All-append IsShort (names_at t) (flat_map names_at (front ++ last ∷ []))
          (short_by t (or-left long (is_past tally) ok)) ih.names;
      announced = one t (flat_map places_at (front ++ last ∷ [])) (flat_map steps_at (front ++ last ∷ []))
          (or-right long (is_past tally) ok) ih.announced;
    }
  where
    one : (t : Mark) (places : List (Unit {0})) (steps : List Step) → is_past tally ≡ false →
        AllFit (counted tally t.0) places steps → AllFit tally (places_at t ++ places) (steps_at t ++ steps)
    one t places steps p f =
        before_one (announces_place t.0) (begins_list t.0) (is_word word.In t.0) (is_symbol symbol.Comma t.0) tally
        places steps p f

all_front : {X : Type 0} (P : X → Type 0) (xs ys : List X) → All P (xs ++ ys) → All P xs
all_front P [] ys a = All-nil P
all_front P (x ∷ xs) ys a =
    All-cons P x xs (All-head P x (xs ++ ys) a) (all_front P xs ys (All-tail P x (xs ++ ys) a))

all_back : {X : Type 0} (P : X → Type 0) (xs ys : List X) → All P (xs ++ ys) → All P ys
all_back P [] ys a = a
all_back P (x ∷ xs) ys a = all_back P xs ys (All-tail P x (xs ++ ys) a)

pub none_pass : (tally : TallyAt) (ts : List Mark) → Fits tally ts → passes_from tally ts ≡ false
unfolding counted
none_pass tally [] f = refl
none_pass tally (t ∷ ts) f =
    let places = flat_map places_at ts in
    let steps = flat_map steps_at ts in
    or_from (is_long_name t.0 t.1.1 || is_past tally) (passes_from (counted tally t.0) ts)
    (or_from (is_long_name t.0 t.1.1) (is_past tally)
    (not_long t (all_front IsShort (names_at t) (flat_map names_at ts) f.names))
    (fits_now tally (places_at t ++ places) (steps_at t ++ steps) f.announced))
    (none_pass (counted tally t.0) ts (record {
      names = all_back IsShort (names_at t) (flat_map names_at ts) f.names;
      announced = one t places steps f.announced;
    }))
  where
    one : (t : Mark) (places : List (Unit {0})) (steps : List Step) →
        AllFit tally (places_at t ++ places) (steps_at t ++ steps) → AllFit (counted tally t.0) places steps
    one t places steps f =
        behind_one (announces_place t.0) (begins_list t.0) (is_word word.In t.0) (is_symbol symbol.Comma t.0) tally
        places steps f
