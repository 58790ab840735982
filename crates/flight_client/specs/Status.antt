-- What the status of an answer stands for.
use Rattle.std.specs.Prelude.{◌≡◌, ◌≢◌, ◌<◌, ◌^◌, ◌⊎◌, ℕ, List, Result, Ok, Err, IfSome}
use Rattle.scan_base.specs.declared.fault.Fault.{Fault}
use Rattle.scan_base.specs.declared.fault.Fault.TheVariants.{BadFrame}
use Rattle.scan_base.specs.Fault.{grpc_number, code_of, position_of, fault_text}

-- a fault is answered by a status of this code and this text; a position has 32 bits
pub record HasStatus (fault : Fault) (code : ℕ) (text : List ℕ) : Type 0 where
  pub code_is : grpc_number (code_of fault) ≡ code
  pub text_is : fault_text fault ≡ text
  pub fits : IfSome (position_of fault) (λ position. position < 2 ^ 32)

-- Code 0 stands for no fault, and any other for the fault with this code and this text, or for F1
-- where none has both.
abbrev pub StatusSays : ℕ → List ℕ → Result (Unit {0}) Fault → Type 0
StatusSays code text (Ok done) = code ≡ 0
StatusSays code text (Err fault) = (code ≢ 0)
    × (HasStatus fault code text
    ⊎ ((fault ≡ BadFrame) × ((other : Fault) → ¬ HasStatus other code text)))
