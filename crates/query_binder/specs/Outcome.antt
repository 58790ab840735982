-- What a call that binds answers.
use Rattle.std.specs.Prelude.{◌≡◌, ◌≢◌, ℕ, Option, Some, None, Result, Ok, Err}
use Rattle.scan_base.specs.declared.fault.Fault.{Fault}
use Rattle.scan_base.specs.declared.fault.Fault.TheVariants.{OutOfMemory}
use Rattle.scan_base.specs.declared.predicate.Predicate.{Predicate}
use Rattle.scan_base.specs.Predicate.{Pred}
use Rattle.scan_base.specs.View.{pred_of}
use Rattle.sql_query.specs.declared.query.Term.{Term}
use Rattle.typed_plan.specs.Faults.{predicate_fault}
use Rattle.query_binder.specs.NameClasses.{class_of_term}
use Rattle.typed_plan.specs.NumberedPredicates.{predicate_bind}
use Rattle.typed_plan.specs.Scope.{Scope, term_operand}
use Rattle.typed_plan.specs.SettledLiterals.{settled}

-- Ok where there is no fault, and the value is as said; else the first fault, or want of memory
abbrev pub Binds : {X : Type 0} → Option Fault → (X → Type 0) → Result X Fault → Type 0
Binds first IsBound (Ok x) = (first ≡ None) × IsBound x
Binds first IsBound (Err fault) = fault ≢ OutOfMemory → first ≡ Some fault

-- the same of a call that takes no memory
abbrev pub Finds : {X : Type 0} → Option Fault → (X → Type 0) → Result X Fault → Type 0
Finds first IsFound (Ok x) = (first ≡ None) × IsFound x
Finds first IsFound (Err fault) = first ≡ Some fault

-- the first fault of a settled predicate from the left, or it over numbers of columns
abbrev pub BindsSettled : Scope → Pred Term → Result (Predicate ℕ) Fault → Type 0
BindsSettled scope predicate = Binds (predicate_fault (class_of_term scope) predicate)
    (λ bound. pred_of bound ≡ predicate_bind (term_operand scope) predicate)

-- the same of a predicate as it is written, with its literals next to columns
abbrev pub BindsPredicate : Scope → Pred Term → Result (Predicate ℕ) Fault → Type 0
BindsPredicate scope predicate = BindsSettled scope (settled scope predicate)
