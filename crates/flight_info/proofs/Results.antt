-- What holds of results and options.
use Rattle.std.proofs.Common.{◌≡◌, Result, Ok, Err, Some, IfOk, ap}
use Rattle.scan_base.specs.declared.fault.Fault.{Fault}
use Rattle.scan_base.specs.Reading.{RefusesFirst}

-- values are the same where their options are
pub same_some : {X : Type 0} {a b : X} → Some a ≡ Some b → a ≡ b
same_some e = cc

-- what comes first for one kind of value comes first for another
pub first_for : (X Y : Type 0) {Z : Type 0} (fault : Fault) (read : Result Z Fault) → RefusesFirst {X = X} (Err fault) read → RefusesFirst {X = Y} (Err fault) read
first_for X Y fault (Ok z) first = tt
first_for X Y fault (Err cause) first = let same : fault ≡ cause = cc in ap Err same

-- what follows of a value follows of a result
pub ok_so : {A E : Type 0} (result : Result A E) (one other : A → Type 0) → ((x : A) → one x → other x) → IfOk result one → IfOk result other
ok_so (Ok x) one other step is = step x is
ok_so (Err fault) one other step is = tt
