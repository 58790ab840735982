-- The tokens of a text, piece by piece.
use Rattle.std.proofs.Common.{◌≡◌, ◌≢◌, ◌<◌, ◌≤◌, ℕ, zero, suc, ◌+◌, List, [], ◌∷◌, ◌++◌, length, take, drop, Option, Some, None, Result, Ok, Err, refl, sym, ap, ◌∙◌, arith, append_assoc, append-nil}
use Rattle.std.specs.Prelude.{Bool, nat_le, true, false, ◌==◌}
use Rattle.std.proofs.lemmas.Bool.{eqb-true, eqb-false}
use Rattle.std.proofs.lemmas.Bool.Decides.{nat_tests}
use Rattle.std.proofs.lemmas.List.{length-drop}
use Rattle.scan_base.specs.declared.fault.Fault.{Fault}
use Rattle.scan_base.specs.declared.fault.Fault.TheVariants.{BadSql, LimitReached}
use Rattle.scan_base.proofs.ReadingLaws.{behind}
use Rattle.scan_base.specs.Reading.{◌>>=◌, RefusesFirst, demand}
use Rattle.sql_text.specs.declared.front.Front.{Front}
use Rattle.sql_text.specs.Standard.{Lexeme, token_here}
use Rattle.sql_text.specs.Reading.{front_at, tokens_within, tokens_from, tokens_in}
use Rattle.sql_text.proofs.Boundaries.{front_some}

-- room for more pieces changes nothing
tokens_more : (m n start : ℕ) (bytes : List ℕ) → length bytes ≤ m → length bytes ≤ n → tokens_within m start bytes ≡ tokens_within n start bytes
unfolding tokens_within
tokens_more zero zero start [] p q = refl
tokens_more zero (suc n) start [] p q = refl
tokens_more (suc m) zero start [] p q = refl
tokens_more (suc m) (suc n) start [] p q = refl
tokens_more zero n start (b ∷ bytes) p q = absurd (omega arith)
tokens_more (suc m) zero start (b ∷ bytes) p q = absurd (omega arith)
tokens_more (suc m) (suc n) start (b ∷ bytes) p q = go (front_at (b ∷ bytes)) refl (tokens_more m n)
  where
    go : (o : Option Front) → front_at (b ∷ bytes) ≡ o
        → ((start : ℕ) (rest : List ℕ) → length rest ≤ m → length rest ≤ n → tokens_within m start rest ≡ tokens_within n start rest)
        → tokens_within (suc m) start (b ∷ bytes) ≡ tokens_within (suc n) start (b ∷ bytes)
    go None e rest = rw e refl
    go (Some front) e rest =
        let some = front_some (b ∷ bytes) front e in
        let len = length-drop front.len (b ∷ bytes) in
        rw (e, rest (start + front.len) (drop front.len (b ∷ bytes)) (omega arith) (omega arith)) refl

none_there : (front : Front) → front_at [] ≡ Some front → ⊥
unfolding front_at
none_there front e = cc

-- with one piece read, the rest is left
pub tokens_step : (start : ℕ) (bytes : List ℕ) (front : Front) → front_at bytes ≡ Some front
    → tokens_from start bytes ≡ (tokens_from (start + front.len) (drop front.len bytes) >>= λ more. Ok (token_here front.kind start (take front.len bytes) ++ more))
unfolding tokens_from tokens_within
tokens_step start [] front e = absurd (none_there front e)
tokens_step start (b ∷ bytes) front e =
    let some = front_some (b ∷ bytes) front e in
    let len = length-drop front.len (b ∷ bytes) in
    rw (e, tokens_more (length bytes) (length (drop front.len (b ∷ bytes))) (start + front.len) (drop front.len (b ∷ bytes)) (omega arith) (omega arith)) refl

-- where no piece stands, there is the fault
pub tokens_stop : (start : ℕ) (bytes : List ℕ) → bytes ≢ [] → front_at bytes ≡ None → tokens_from start bytes ≡ Err (BadSql start)
unfolding tokens_from tokens_within
tokens_stop start [] some e = absurd (some refl)
tokens_stop start (b ∷ bytes) some e = rw e refl

joined : (done here : List Lexeme) (rest : Result (List Lexeme) Fault) → behind done (rest >>= λ (more : List Lexeme). Ok (here ++ more)) ≡ behind (done ++ here) rest
joined done here (Ok more) = ap Ok (sym (append_assoc done here more))
joined done here (Err fault) = refl

-- a loop that has read one piece more
pub scan_more : (done : List Lexeme) (start : ℕ) (bytes : List ℕ) (front : Front) → front_at bytes ≡ Some front
    → behind done (tokens_from start bytes) ≡ behind (done ++ token_here front.kind start (take front.len bytes)) (tokens_from (start + front.len) (drop front.len bytes))
scan_more done start bytes front e =
    ap (behind done) (tokens_step start bytes front e) ∙ joined done (token_here front.kind start (take front.len bytes)) (tokens_from (start + front.len) (drop front.len bytes))

pub scan_stop : (done : List Lexeme) (start : ℕ) (bytes : List ℕ) → bytes ≢ [] → front_at bytes ≡ None → behind done (tokens_from start bytes) ≡ Err (BadSql start)
scan_stop done start bytes some e = rw (tokens_stop start bytes some e) refl

pub scan_end : (done : List Lexeme) (start : ℕ) (bytes : List ℕ) → bytes ≡ [] → behind done (tokens_from start bytes) ≡ Ok done
unfolding tokens_from tokens_within
scan_end done start bytes e = rw e (ap Ok (append-nil done))

-- the loop, with one piece read
pub loop_more : (done here : List Lexeme) (start next : ℕ) (bytes after : List ℕ) (front : Front) (whole : Result (List Lexeme) Fault)
    → front_at bytes ≡ Some front → after ≡ drop front.len bytes → next ≡ start + front.len → here ≡ token_here front.kind start (take front.len bytes)
    → behind done (tokens_from start bytes) ≡ whole → behind (done ++ here) (tokens_from next after) ≡ whole
loop_more done here start next bytes after front whole e rest_is next_is here_is inv =
    rw (rest_is, next_is, here_is) (sym (scan_more done start bytes front e) ∙ inv)

-- ---- the limit of bytes

pub too_long : (text : List ℕ) → 16384 < length text → tokens_in text ≡ Err LimitReached
unfolding tokens_in
too_long text lt =
    let f : nat_le (length text) 16384 ≡ false = grind (arith, nat_tests) in
    rw f refl

-- a text that is not too long is refused for nothing at first sight
pub no_glance : {X : Type 0} (result : Result X Fault) (text : List ℕ) → length text ≤ 16384 →
    RefusesFirst result (demand (nat_le (length text) 16384) LimitReached)
no_glance result text le =
    let f : nat_le (length text) 16384 ≡ true = grind (arith, nat_tests) in
    rw f tt

pub fits : (text : List ℕ) → length text ≤ 16384 → tokens_in text ≡ tokens_from 0 text
unfolding tokens_in
fits text le =
    let f : nat_le (length text) 16384 ≡ true = grind (arith, nat_tests) in
    rw f refl

-- ---- tests of the code

pub some_left : (bytes : List ℕ) (test : Bool) → test ≡ (length bytes == 0) → test ≡ false → bytes ≢ []
some_left bytes test e f empty = eqb-false (length bytes) 0 (sym e ∙ f) (ap length empty)

pub none_left : (bytes : List ℕ) (test : Bool) → test ≡ (length bytes == 0) → test ≡ true → bytes ≡ []
none_left [] test e f = refl
none_left (b ∷ bytes) test e f =
    let zero_is : length (b ∷ bytes) ≡ 0 = eqb-true (length (b ∷ bytes)) 0 (sym e ∙ f) in
    absurd (omega arith)
