-- What a call answers that binds as another does.
use Rattle.std.proofs.Common.{◌≡◌, ◌≢◌, Option, Some, None, Result, Ok, Err, IfOk, sym, ap, ◌∙◌}
use Rattle.scan_base.specs.declared.fault.Fault.{Fault}
use Rattle.scan_base.specs.declared.fault.Fault.TheVariants.{OutOfMemory}
use Rattle.typed_plan.specs.Faults.{◌then◌}
use Rattle.query_binder.specs.Outcome.{Binds}

-- the same faults, and a value of which more is said
pub binds_as : {X : Type 0} (first other : Option Fault) (P Q : X → Type 0) (given : Result X Fault) → first ≡ other →
    ((x : X) → P x → Q x) → Binds first P given → Binds other Q given
binds_as first other P Q (Ok x) same more given = (sym same ∙ given.0, more x given.1)
binds_as first other P Q (Err fault) same more given = λ other_one. sym same ∙ given other_one

-- after a check without a fault
pub binds_then : {X : Type 0} (first second whole : Option Fault) (P Q : X → Type 0) (given : Result X Fault) →
    whole ≡ (first then second) → first ≡ None → ((x : X) → P x → Q x) → Binds second P given → Binds whole Q given
binds_then first second whole P Q given is none more =
    binds_as second whole P Q given (sym (is ∙ ap (λ one. one then second) none)) more

-- a fault of the first check
pub fails_then : (first second whole : Option Fault) (fault : Fault) →
    whole ≡ (first then second) → (fault ≢ OutOfMemory → first ≡ Some fault) → fault ≢ OutOfMemory → whole ≡ Some fault
fails_then first second whole fault is failed apart = is ∙ ap (λ one. one then second) (failed apart)

-- what holds at any rate
pub holds_if_ok : {X : Type 0} (P : Type 0) (given : Result X Fault) → P → IfOk given (λ _. P)
holds_if_ok P (Ok x) holds = holds
holds_if_ok P (Err fault) holds = tt
