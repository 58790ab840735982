-- When a rule can be read with one token to look ahead at.
use Rattle.std.specs.Prelude.{Bool, true, false, ◌&&◌, ◌||◌, not, List, [], ◌∷◌, is_some}
use Rattle.std.specs.List.{list_all}
use Rattle.grammar.specs.Rule.{Rule, one, empty, both, either, many, make, opened, again}
use Rattle.grammar.specs.Reading.{Outcome, Read, Stuck, Over, nullable, starts}

-- what is left after a whole sentence is where it sticks
abbrev pub wholly : {T A : Type 0} → Outcome T A → Outcome T A
wholly (Read v []) = Read v []
wholly (Read v (t ∷ ts)) = Stuck (t ∷ ts)
wholly (Stuck ts) = Stuck ts
wholly Over = Over

-- each sentence of the rule has one of the recursive nonterminal in it
abbrev pub is_deep : {K V P A : Type 0} → Rule K V P A → Bool
is_deep (one p f s) = false
is_deep (empty x) = false
is_deep (both g h) = is_deep g || is_deep h
is_deep (either g h) = is_deep g && is_deep h
is_deep (many g) = false
is_deep (make f g) = is_deep g
is_deep (opened p s g h) = is_deep g && is_deep h
is_deep (again first) = true

-- each token that is named as a sample is one, what is repeated is not empty, and within an opener stands the recursive nonterminal
abbrev pub well_made : {K V P A : Type 0} → Rule K V P A → Bool
well_made (one p f s) = p s.0 && is_some (f s)
well_made (empty x) = true
well_made (both g h) = well_made g && well_made h
well_made (either g h) = well_made g && well_made h
well_made (many g) = well_made g && not (nullable g)
well_made (make f g) = well_made g
well_made (opened p s g h) = (p s.0 && is_deep g) && (well_made g && well_made h)
well_made (again first) = true

-- the recursive nonterminal stands within openers alone
abbrev pub is_guarded : {K V P A : Type 0} → Rule K V P A → Bool
is_guarded (one p f s) = true
is_guarded (empty x) = true
is_guarded (both g h) = is_guarded g && is_guarded h
is_guarded (either g h) = is_guarded g && is_guarded h
is_guarded (many g) = is_guarded g
is_guarded (make f g) = is_guarded g
is_guarded (opened p s g h) = is_guarded h
is_guarded (again first) = false

-- the recursive nonterminal does not stand in it
abbrev pub is_flat : {K V P A : Type 0} → Rule K V P A → Bool
is_flat (one p f s) = true
is_flat (empty x) = true
is_flat (both g h) = is_flat g && is_flat h
is_flat (either g h) = is_flat g && is_flat h
is_flat (many g) = is_flat g
is_flat (make f g) = is_flat g
is_flat (opened p s g h) = false
is_flat (again first) = false

-- no kind, of all that there are, passes both tests
abbrev pub disjoint : {K : Type 0} → List K → (K → Bool) → (K → Bool) → Bool
disjoint kinds p q = list_all (λ k. not (p k && q k)) kinds

abbrev pub covers : {K : Type 0} → List K → (K → Bool) → (K → Bool) → Bool
covers kinds p q = list_all (λ k. not (p k) || q k) kinds

-- One token is enough to choose by, where a sentence of the rule is followed by the kinds f or by the end, a sentence
-- of the recursive nonterminal begins with the kinds s, and it may be followed by the kinds after.
abbrev pub determined : {K V P A : Type 0} → List K → (K → Bool) → (K → Bool) → Rule K V P A → (K → Bool) → Bool
determined kinds s after (one p m t) f = true
determined kinds s after (empty x) f = true
determined kinds s after (both g h) f = determined kinds s after g (λ k. starts h k || (nullable h && f k)) && determined kinds s after h f
determined kinds s after (either g h) f = (determined kinds s after g f && determined kinds s after h f) && (not (nullable g) && disjoint kinds (starts g) (λ k. starts h k || (nullable h && f k)))
determined kinds s after (many g) f = determined kinds s after g (λ k. starts g k || f k) && disjoint kinds (starts g) f
determined kinds s after (make m g) f = determined kinds s after g f
determined kinds s after (opened p t g h) f = (determined kinds s after g f && determined kinds s after h f) && disjoint kinds p (λ k. starts h k || (nullable h && f k))
determined kinds s after (again first) f = covers kinds s first && covers kinds f after
