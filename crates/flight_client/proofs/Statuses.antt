-- Statuses, and the faults that they tell.
use Rattle.std.proofs.Common.{◌≡◌, ◌<◌, ◌≤◌, ◌^◌, ◌+◌, ◌*◌, ◌-◌, ◌⊎◌, ℕ, ◌==◌, List, ◌++◌, cond, true, false, get_or, drop, Result, Ok, Err, refl, sym, ap, subst, ◌∙◌, arith, lit≤, lit<, inl, inr}
use Rattle.std.specs.Prelude.{codes, IfSome}
use Rattle.std.specs.Fmt.{decimal, digits}
use Rattle.std.specs.Str.{bytes_eq}
use Rattle.std.specs.Str.Parse.{digits_value}
use Rattle.std.proofs.lemmas.Slice.Eq.{bytes_eq-Decides}
use Rattle.std.proofs.lemmas.Fmt.{decimal_is_IsNumeral}
use Rattle.scan_base.specs.declared.fault.Fault.{Fault}
use Rattle.scan_base.specs.declared.fault.Fault.TheVariants.{BadFrame, MessageTooLarge, UnknownMethod, BadProto, UnknownCommand, BadFlatbuffer, UnsupportedArrow, BadBatch, TableMissing, TableExists, SchemaMismatch, LimitReached, BadSql, UnknownName, TypeClash, NotInSubset, BadTicket, VersionUnknown, VersionExpired, ResultTooLarge, OutOfMemory, Transport}
use Rattle.scan_base.specs.declared.status_code.StatusCode.{StatusCode}
use Rattle.scan_base.specs.Fault.{grpc_number, code_of, number_of, position_of, fault_text}
use Rattle.flight_client.specs.Status.{HasStatus, StatusSays}
use Rattle.flight_client.specs.Laws.{StatusesTellFaults}
use Rattle.flight_client.specs.inside.NumberedFaults.{fault_numbered}

-- ---- a text tells a fault

-- the text of F13 is its words, and then the position
pub sql_text : (position : ℕ) → fault_text (BadSql position) ≡ codes "F13 BadSql at byte " ++ decimal position
unfolding digits
sql_text position = refl

-- the number after the first byte of a text: one digit and a space, or two digits
abbrev number_in : List ℕ → ℕ
number_in text = cond (get_or text 2 0 == 32) (get_or text 1 0 - 48) ((get_or text 1 0 - 48) * 10 + (get_or text 2 0 - 48))

-- the number after the words of F13
abbrev place_in : List ℕ → ℕ
place_in text = digits_value 10 (drop 19 text)

sql_place : (position : ℕ) → position < 2 ^ 32 → place_in (fault_text (BadSql position)) ≡ position
sql_place position fits = rw sql_text (decimal_is_IsNumeral position (omega arith)).1

-- the fault of its number, and what its text says of it
record IsTold (fault : Fault) : Type 0 where
  some : 1 ≤ number_of fault
  small : number_of fault < 23
  numbered : (position : ℕ) → IfSome (position_of fault) (λ p. position ≡ p) → fault_numbered (number_of fault) position ≡ fault
  number : number_in (fault_text fault) ≡ number_of fault
  place : IfSome (position_of fault) (λ p. place_in (fault_text fault) ≡ p)

told : (fault : Fault) → IfSome (position_of fault) (λ p. p < 2 ^ 32) → IsTold fault
unfolding digits
told BadFrame fits = record { some = lit≤ tt; small = lit< tt; numbered = λ position at. refl; number = refl; place = tt }
told MessageTooLarge fits = record { some = lit≤ tt; small = lit< tt; numbered = λ position at. refl; number = refl; place = tt }
told UnknownMethod fits = record { some = lit≤ tt; small = lit< tt; numbered = λ position at. refl; number = refl; place = tt }
told BadProto fits = record { some = lit≤ tt; small = lit< tt; numbered = λ position at. refl; number = refl; place = tt }
told UnknownCommand fits = record { some = lit≤ tt; small = lit< tt; numbered = λ position at. refl; number = refl; place = tt }
told BadFlatbuffer fits = record { some = lit≤ tt; small = lit< tt; numbered = λ position at. refl; number = refl; place = tt }
told UnsupportedArrow fits = record { some = lit≤ tt; small = lit< tt; numbered = λ position at. refl; number = refl; place = tt }
told BadBatch fits = record { some = lit≤ tt; small = lit< tt; numbered = λ position at. refl; number = refl; place = tt }
told TableMissing fits = record { some = lit≤ tt; small = lit< tt; numbered = λ position at. refl; number = refl; place = tt }
told TableExists fits = record { some = lit≤ tt; small = lit< tt; numbered = λ position at. refl; number = refl; place = tt }
told SchemaMismatch fits = record { some = lit≤ tt; small = lit< tt; numbered = λ position at. refl; number = refl; place = tt }
told LimitReached fits = record { some = lit≤ tt; small = lit< tt; numbered = λ position at. refl; number = refl; place = tt }
told (BadSql p) fits = record { some = lit≤ tt; small = lit< tt; numbered = λ position at. ap BadSql at; number = refl; place = sql_place p fits }
told UnknownName fits = record { some = lit≤ tt; small = lit< tt; numbered = λ position at. refl; number = refl; place = tt }
told TypeClash fits = record { some = lit≤ tt; small = lit< tt; numbered = λ position at. refl; number = refl; place = tt }
told NotInSubset fits = record { some = lit≤ tt; small = lit< tt; numbered = λ position at. refl; number = refl; place = tt }
told BadTicket fits = record { some = lit≤ tt; small = lit< tt; numbered = λ position at. refl; number = refl; place = tt }
told VersionUnknown fits = record { some = lit≤ tt; small = lit< tt; numbered = λ position at. refl; number = refl; place = tt }
told VersionExpired fits = record { some = lit≤ tt; small = lit< tt; numbered = λ position at. refl; number = refl; place = tt }
told ResultTooLarge fits = record { some = lit≤ tt; small = lit< tt; numbered = λ position at. refl; number = refl; place = tt }
told OutOfMemory fits = record { some = lit≤ tt; small = lit< tt; numbered = λ position at. refl; number = refl; place = tt }
told Transport fits = record { some = lit≤ tt; small = lit< tt; numbered = λ position at. refl; number = refl; place = tt }

-- and so it is what its text tells
by_text : (fault : Fault) (code : ℕ) (text : List ℕ) → HasStatus fault code text → fault_numbered (number_in text) (place_in text) ≡ fault
by_text fault code text has =
    let is = told fault has.fits in
    subst (λ (t : List ℕ). fault_numbered (number_in t) (place_in t) ≡ fault) has.text_is (rw is.number (is.numbered (place_in (fault_text fault)) is.place))

tell : (one other : Fault) (code : ℕ) (text : List ℕ) → HasStatus one code text → HasStatus other code text → one ≡ other
tell one other code text a b = sym (by_text one code text a) ∙ by_text other code text b

-- what a code other than 0 stands for
abbrev Stands : ℕ → List ℕ → Fault → Type 0
Stands code text fault = HasStatus fault code text ⊎ ((fault ≡ BadFrame) × ((other : Fault) → ¬ HasStatus other code text))

stands_once : (code : ℕ) (text : List ℕ) (one other : Fault) → Stands code text one → Stands code text other → one ≡ other
stands_once code text one other (inl p) (inl q) = tell one other code text p q
stands_once code text one other (inl p) (inr q) = absurd (q.1 one p)
stands_once code text one other (inr p) (inl q) = absurd (p.1 other q)
stands_once code text one other (inr p) (inr q) = p.0 ∙ sym q.0

ends_once : (code : ℕ) (text : List ℕ) (one other : Result (Unit {0}) Fault) → StatusSays code text one → StatusSays code text other → one ≡ other
ends_once code text (Ok x) (Ok y) a b = refl
ends_once code text (Ok x) (Err f) a b = absurd (b.0 a)
ends_once code text (Err f) (Ok y) a b = absurd (a.0 b)
ends_once code text (Err f) (Err g) a b = ap Err (stands_once code text f g a.1 b.1)

pub statuses_tell_faults : StatusesTellFaults
statuses_tell_faults = (tell, ends_once)

-- ---- the faults of a text, one number after another

-- a fault of another code, or of another text

pub other_code : (fault made : Fault) (number code : ℕ) (text : List ℕ) (coded : StatusCode) → made ≡ fault → coded ≡ code_of made → number ≡ grpc_number coded → (number ≡ code → ⊥)
    → ¬ HasStatus fault code text
other_code fault made number code text coded same codes_it numbers_it differs has =
    differs (numbers_it ∙ ap grpc_number codes_it ∙ ap (λ (f : Fault). grpc_number (code_of f)) same ∙ has.code_is)

pub other_text : (fault made : Fault) (code : ℕ) (text shown : List ℕ) → made ≡ fault → shown ≡ fault_text made → bytes_eq shown text ≡ false → ¬ HasStatus fault code text
other_text fault made code text shown same shows differs has =
    let is : shown ≡ text = shows ∙ ap fault_text same ∙ has.text_is in
    let yes : bytes_eq shown text ≡ true = (bytes_eq-Decides shown text).1 is in cc

-- where no fault of a number has a status, none has
pub none_has : (code : ℕ) (text : List ℕ) (position : ℕ) → ((p : ℕ) → p < 2 ^ 32 → fault_text (BadSql p) ≡ text → position ≡ p)
    → ((k : ℕ) → k < 23 → 1 ≤ k → ¬ HasStatus (fault_numbered k position) code text) → (fault : Fault) → ¬ HasStatus fault code text
none_has code text position placed none fault has =
    let is = told fault has.fits in
    none (number_of fault) is.small is.some (rw (is.numbered position (at fault has.fits has.text_is)) has)
  where
    at : (fault : Fault) → IfSome (position_of fault) (λ p. p < 2 ^ 32) → fault_text fault ≡ text → IfSome (position_of fault) (λ p. position ≡ p)
    at (BadSql p) fits is = placed p fits is
    at BadFrame fits is = tt
    at MessageTooLarge fits is = tt
    at UnknownMethod fits is = tt
    at BadProto fits is = tt
    at UnknownCommand fits is = tt
    at BadFlatbuffer fits is = tt
    at UnsupportedArrow fits is = tt
    at BadBatch fits is = tt
    at TableMissing fits is = tt
    at TableExists fits is = tt
    at SchemaMismatch fits is = tt
    at LimitReached fits is = tt
    at UnknownName fits is = tt
    at TypeClash fits is = tt
    at NotInSubset fits is = tt
    at BadTicket fits is = tt
    at VersionUnknown fits is = tt
    at VersionExpired fits is = tt
    at ResultTooLarge fits is = tt
    at OutOfMemory fits is = tt
    at Transport fits is = tt
