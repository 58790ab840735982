-- Inside: what ending a connection by a fault does.
use Rattle.std.specs.Prelude.{◌≡◌, ◌≢◌, ◌⊎◌, ℕ, ◌+◌, List, Option, Result, Err}
use Rattle.std.specs.Io.KnownBytes.{Appends}
use Rattle.scan_base.specs.declared.fault.Fault.{Fault}
use Rattle.scan_base.specs.declared.fault.Fault.TheVariants.{Transport}
use Rattle.grpc_frame.specs.Ends.{AppendsBeginning}
use Rattle.flight_calls.specs.OwedAnswers.{last_status}

-- the transport had failed before, and nothing is done
pub record StaysFailed (fault : Fault) (result : Result (Unit {0}) Fault)
    (old new : Option (List ℕ)) (failures failures' : ℕ) : Type 0 where
  pub transport : fault ≡ Transport
  pub result_is : result ≡ Err Transport
  pub same : new ≡ old
  pub quiet : failures' ≡ failures

-- the fault's status was written
pub record SaysWhy (fault : Fault) (result : Result (Unit {0}) Fault) (old new : Option (List ℕ))
    (failures failures' : ℕ) : Type 0 where
  pub other : fault ≢ Transport
  pub result_is : result ≡ Err fault
  pub wrote : Appends old new (last_status fault)
  pub quiet : failures' ≡ failures

-- a beginning of it was, and the write failed
pub record FailsToSay (fault : Fault) (result : Result (Unit {0}) Fault) (old new : Option (List ℕ))
    (failures failures' : ℕ) : Type 0 where
  pub other : fault ≢ Transport
  pub result_is : result ≡ Err Transport
  pub wrote : AppendsBeginning old new (last_status fault)
  pub counted : failures' ≡ failures + 1

-- what is done of a fault: nothing more where it is the transport's, and else its status is
-- written, or fails to be
abbrev pub RefusesBy : Fault → Result (Unit {0}) Fault → Option (List ℕ) → Option (List ℕ) →
    ℕ → ℕ → Type 0
RefusesBy fault result old new failures failures' =
    StaysFailed fault result old new failures failures'
    ⊎ (SaysWhy fault result old new failures failures'
    ⊎ FailsToSay fault result old new failures failures')
