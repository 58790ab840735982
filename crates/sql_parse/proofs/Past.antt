-- The first token that passes a limit, as it is looked for.
use Rattle.std.proofs.Common.{◌≡◌, ℕ, suc, ◌+◌, ◌<◌, ◌≤◌, Bool, false, ◌||◌, List, [], ◌∷◌, length, take, drop, refl}
use Rattle.std.proofs.Common.{sym, ◌∙◌, ap, subst, arith, get_or}
use Rattle.std.proofs.lemmas.Bool.{or_from}
use Rattle.std.proofs.lemmas.List.{drop_more, take_all}
use Rattle.sql_text.specs.declared.token.Token.{Token}
use Rattle.sql_parse.specs.Limits.{TallyAt, counted, is_past, is_long_name, passes_from, passes}
use Rattle.sql_parse.specs.Tokens.{Mark, marks}

pub marks_length : (xs : List Token) → length (marks xs) ≡ length xs
marks_length [] = refl
marks_length (x ∷ xs) = let h = marks_length xs in omega (arith, h)

-- Of each front that goes beyond the first i tokens, what follows them tells whether one passes a limit.
abbrev pub TellsFronts : TallyAt → ℕ → List Token → Type 0
TellsFronts tally i xs = (n : ℕ) → passes_from tally (take n (marks (drop i xs))) ≡ passes (take (i + n) (marks xs))

pub one_counted : (tally : TallyAt) (xs : List Token) (i : ℕ) (d : Token) (long past : Bool) (more : TallyAt) →
    i < length xs → long ≡ is_long_name (get_or xs i d).kind (get_or xs i d).text.now → long ≡ false →
    past ≡ is_past tally → past ≡ false → more ≡ counted tally (get_or xs i d).kind → TellsFronts tally i xs →
    TellsFronts more (i + 1) xs
one_counted tally xs i d long past more at el fl ep fp en h n =
    let t = get_or xs i d in
    let rest = take n (marks (drop (i + 1) xs)) in
    let told : passes_from tally (take (suc n) (marks (t ∷ drop (i + 1) xs))) ≡ passes (take (i + suc n) (marks xs)) =
    subst (λ (ys : List Token). passes_from tally (take (suc n) (marks ys)) ≡ passes (take (i + suc n) (marks xs)))
    (drop_more xs i d at) (h (suc n)) in
    let step : i + suc n ≡ i + 1 + n = omega arith in
    let none : (is_long_name t.kind t.text.now || is_past tally) ≡ false =
    or_from (is_long_name t.kind t.text.now) (is_past tally) (sym el ∙ fl) (sym ep ∙ fp) in
    subst (λ (z : TallyAt). passes_from z rest ≡ passes (take (i + 1 + n) (marks xs))) (sym en)
    (subst (λ (m : ℕ). passes_from (counted tally t.kind) rest ≡ passes (take m (marks xs))) step
    (ap (λ (b : Bool). b || passes_from (counted tally t.kind) rest) (sym none) ∙ told))

pub none_past : (tally : TallyAt) (xs : List Token) (i : ℕ) → length xs ≤ i → TellsFronts tally i xs →
    passes (marks xs) ≡ false
none_past tally xs i past h =
    let size = marks_length xs in
    let all : length (marks xs) ≤ i + 0 = omega (arith, past, size) in
    sym (subst (λ (z : List Mark). false ≡ passes z) (take_all (i + 0) (marks xs) all) (h 0))
