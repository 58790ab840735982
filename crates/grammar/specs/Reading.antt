-- Inside: reading by a grammar from the left, with one token to look ahead at.
use Rattle.std.specs.Prelude.{ℕ, zero, suc, Bool, true, false, cond, ◌&&◌, ◌||◌, List, [], ◌∷◌}
use Rattle.std.specs.Prelude.{length, Option, Some, None}
use Rattle.grammar.specs.Rule.{Rule, one, empty, both, either, many, make, opened, again}

pub data Outcome (T : Type 0) (A : Type 0) : Type 0 where
  Read : A → List T → Outcome T A
  -- the tokens from the one on with which nothing goes on
  Stuck : List T → Outcome T A
  -- the next token is an opener, and no more may be opened
  Over : Outcome T A

abbrev pub Reader : Type 0 → Type 0 → Type 0
Reader T A = List T → Outcome T A

abbrev pub and_then : {T A B : Type 0} → Outcome T A → (A → Reader T B) → Outcome T B
and_then (Read v ts) f = f v ts
and_then (Stuck ts) f = Stuck ts
and_then Over f = Over

abbrev pub nullable : {K V P A : Type 0} → Rule K V P A → Bool
nullable (one p f s) = false
nullable (empty x) = true
nullable (both g h) = nullable g && nullable h
nullable (either g h) = nullable g || nullable h
nullable (many g) = true
nullable (make f g) = nullable g
nullable (opened p s g h) = nullable h
nullable (again first) = false

-- the kinds that a sentence of the rule may begin with
abbrev pub starts : {K V P A : Type 0} → Rule K V P A → K → Bool
starts (one p f s) c = p c
starts (empty x) c = false
starts (both g h) c = cond (nullable g) (starts g c || starts h c) (starts g c)
starts (either g h) c = starts g c || starts h c
starts (many g) c = starts g c
starts (make f g) c = starts g c
starts (opened p s g h) c = p c || starts h c
starts (again first) c = first c

-- the next token is of such a kind
unfoldable pub begins : {K V : Type 0} → (K → Bool) → List (K × V) → Bool
begins p [] = false
begins p (t ∷ ts) = p t.0

abbrev pub kept : {T A : Type 0} → Option A → List T → List T → Outcome T A
kept None all ts = Stuck all
kept (Some v) all ts = Read v ts

-- one token of such a kind
unfoldable pub token : {K V : Type 0} → (K → Bool) → Reader (K × V) (K × V)
token p [] = Stuck []
token p (t ∷ ts) = cond (p t.0) (Read t ts) (Stuck (t ∷ ts))

abbrev pub taken : {K V A : Type 0} → (K → Bool) → (K × V → Option A) → Reader (K × V) A
taken p f ts = and_then (token p ts) (λ t us. kept (f t) ts us)

abbrev pub followed : {T A B : Type 0} → Reader T A → Reader T B → Reader T (A × B)
followed r s ts = and_then (r ts) (λ x us. and_then (s us) (λ y vs. Read (x, y) vs))

abbrev pub chosen : {K V A : Type 0} → (K → Bool) → Reader (K × V) A → Reader (K × V) A →
    Reader (K × V) A
chosen p r s ts = cond (begins p ts) (r ts) (s ts)

abbrev pub made : {T A B : Type 0} → (A → B) → Reader T A → Reader T B
made f r ts = and_then (r ts) (λ x us. Read (f x) us)

abbrev pub repeats : {K V A : Type 0} → (K → Bool) → Reader (K × V) A → ℕ → Reader (K × V) (List A)
repeats p r zero ts = Read [] ts
repeats p r (suc n) ts = cond (begins p ts)
    (and_then (r ts) (λ v us. and_then (repeats p r n us) (λ vs ws. Read (v ∷ vs) ws))) (Read [] ts)

abbrev pub repeated : {K V A : Type 0} → (K → Bool) → Reader (K × V) A → Reader (K × V) (List A)
repeated p r ts = repeats p r (length ts) ts

-- the recursive nonterminal, where one may be opened
abbrev pub nested : {T P : Type 0} → Option (Reader T P) → Reader T P
nested None ts = Over
nested (Some r) ts = r ts

-- an opener and what is within it, where one may be opened
abbrev pub entered : {K V P A : Type 0} → Option (Reader (K × V) P) → (K → Bool) →
    Reader (K × V) A → Reader (K × V) A
entered {A = A} None p r ts = Over
entered {A = A} (Some d) p r ts =
    made (λ (x : Unit {0} × A). x.1) (followed (taken p (λ t. Some tt)) r) ts

abbrev pub reads : {K V P A : Type 0} → Option (Reader (K × V) P) → Rule K V P A → Reader (K × V) A
reads D (one p f s) = taken p f
reads D (empty x) = λ ts. Read x ts
reads D (both g h) = followed (reads D g) (reads D h)
reads D (either g h) = chosen (starts g) (reads D g) (reads D h)
reads D (many g) = repeated (starts g) (reads D g)
reads D (make f g) = made f (reads D g)
reads D (opened p s g h) = chosen p (entered D p (reads D g)) (reads D h)
reads D (again first) = nested D

-- the recursive nonterminal, where at most d openers may be open at once
abbrev pub read : {K V P : Type 0} → Rule K V P P → ℕ → Reader (K × V) P
read g zero = reads None g
read g (suc d) = reads (Some (read g d)) g
