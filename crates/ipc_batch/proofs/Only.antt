-- Which faults a reading can give.
use Rattle.std.proofs.Common.{Bool, true, false, List, [], ◌∷◌, Option, Some, None, Result, Ok, Err, if◌then◌else◌}
use Rattle.scan_base.specs.declared.fault.Fault.{Fault}
use Rattle.scan_base.specs.Lists.{each}
use Rattle.scan_base.specs.Reading.{◌>>=◌, demand, wanted}

-- a reading gives a value, or a fault of which this holds
abbrev pub Only : {A : Type 0} → (Fault → Type 0) → Result A Fault → Type 0
Only P (Ok x) = Unit {0}
Only P (Err fault) = P fault

-- one reading after another
pub only_then : {A B : Type 0} (P : Fault → Type 0) (read : Result A Fault) (next : A → Result B Fault) → Only P read → ((x : A) → Only P (next x)) → Only P (read >>= next)
only_then P (Ok x) next one all = all x
only_then P (Err fault) next one all = one

pub only_if : {A : Type 0} (P : Fault → Type 0) (holds : Bool) (x : A) (fault : Fault) → P fault → Only P (if holds then Ok x else Err fault)
only_if P true x fault p = tt
only_if P false x fault p = p

pub only_demand : (P : Fault → Type 0) (holds : Bool) (fault : Fault) → P fault → Only P (demand holds fault)
only_demand P true fault p = tt
only_demand P false fault p = p

pub only_wanted : {A : Type 0} (P : Fault → Type 0) (found : Option A) (fault : Fault) → P fault → Only P (wanted found fault)
only_wanted P (Some x) fault p = tt
only_wanted P None fault p = p

pub only_each : {A B : Type 0} (P : Fault → Type 0) (read : A → Result B Fault) (xs : List A) → ((x : A) → Only P (read x)) → Only P (each read xs)
only_each P read [] all = tt
only_each P read (x ∷ xs) all = only_then P (read x) _ (all x) (λ y. only_then P (each read xs) _ (only_each P read xs all) (λ ys. tt))
