-- Inside: how the code says what is read: a value and the tokens after it, or how many tokens are
-- left at the one that offends.
use Rattle.std.specs.Prelude.{◌≡◌, ◌≢◌, List, length, Result, Ok, Err}
use Rattle.grammar.specs.Reading.{Outcome, Read, Stuck, Over}
use Rattle.sql_parse.specs.declared.refusal.Refusal.{Refusal}
use Rattle.sql_parse.specs.declared.refusal.Refusal.TheVariants as refusal
use Rattle.sql_parse.specs.Tokens.{Mark}

abbrev pub Answer : Type 0 → Type 0
Answer A = Result (A × List Mark) Refusal

unfoldable pub seen : {A : Type 0} → Outcome Mark A → Answer A
seen (Read v ts) = Ok (v, ts)
seen (Stuck ts) = Err (refusal.Offends (length ts))
seen Over = Err refusal.TooDeep

infixl 10 ◌>>=◌
abbrev pub ◌>>=◌ : {A B : Type 0} → Answer A → (A × List Mark → Answer B) → Answer B
(Ok x) >>= f = f x
(Err e) >>= f = Err e

abbrev pub Gives : {X Y : Type 0} → (X → Y) → Result X Refusal → Result Y Refusal → Type 0
Gives view (Ok x) read = read ≡ Ok (view x)
Gives view (Err e) read = e ≢ refusal.OutOfMemory → read ≡ Err e
