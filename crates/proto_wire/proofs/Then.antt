-- A reading that goes well went well at each of its steps.
use Rattle.std.proofs.Common.{◌≡◌, ◌≢◌, ℕ, Bool, true, false, cond, Result, Ok, Err, refl, ap, ◌⊎◌, inl, inr}
use Rattle.std.specs.Prelude.{◌==◌}
use Rattle.std.proofs.lemmas.Bool.Decides.{eqb_tells}
use Rattle.scan_base.specs.declared.fault.Fault.{Fault}
use Rattle.scan_base.specs.Reading.{◌>>=◌, demand}

-- the value of what went well
abbrev ok_part : {A : Type 0} → A → Result A Fault → A
ok_part x (Ok y) = y
ok_part x (Err fault) = x

pub same_Ok : {A : Type 0} (x y : A) → (let read : Result A Fault = Ok x in read ≡ Ok y) → x ≡ y
same_Ok x y e = ap (ok_part x) e

-- the fault of what went wrong
abbrev err_part : {A : Type 0} → Fault → Result A Fault → Fault
err_part fault (Ok y) = fault
err_part fault (Err found) = found

pub same_Err : {A : Type 0} (fault found : Fault) → (let read : Result A Fault = Err fault in read ≡ Err found) → fault ≡ found
same_Err fault found e = ap (err_part fault) e

-- the same for a value and what follows it
pub same_front : {A B : Type 0} (x y : A) (rest more : B) → (let read : Result (A × B) Fault = Ok (x, rest) in read ≡ Ok (y, more)) → (x ≡ y) × (rest ≡ more)
same_front x y rest more e = let p = same_Ok (x, rest) (y, more) e in (ap (λ p. p.0) p, ap (λ p. p.1) p)

pub then_ok : {A B C : Type 0} (read : Result A Fault) (next : A → Result B Fault) (y : B) → (read >>= next) ≡ Ok y → ((x : A) → read ≡ Ok x → next x ≡ Ok y → C) → C
then_ok (Ok x) next y e goes = goes x refl e
then_ok (Err fault) next y e goes = absurd cc

-- what was demanded holds
pub demanded : (holds : Bool) (fault : Fault) (y : Unit {0}) → demand holds fault ≡ Ok y → holds ≡ true
demanded true fault y e = refl
demanded false fault y e = absurd cc

-- what is there came from a test that held
pub if_ok : {A : Type 0} (holds : Bool) (read : Result A Fault) (fault : Fault) (y : A) → cond holds read (Err fault) ≡ Ok y → (holds ≡ true) × (read ≡ Ok y)
if_ok true read fault y e = (refl, e)
if_ok false read fault y e = absurd cc

-- which way a test went
pub split : {A : Type 0} (a b : ℕ) (x y z : A) → cond (a == b) x y ≡ z → ((a ≡ b) × (x ≡ z)) ⊎ ((a ≢ b) × (y ≡ z))
split a b x y z e =
    elim (eqb_tells a b) [ inl h ↦ inl (h.1, rw h.0 at e) | inr h ↦ inr (h.1, rw h.0 at e) ]
