-- What a sender does with the bytes that it is given.
use Rattle.std.specs.Prelude.{◌≡◌, ℕ, ◌+◌, List, [], ◌++◌, min, Option, Result, MatchResult}
use Rattle.std.specs.Io.KnownBytes.{Appends}
use Rattle.scan_base.specs.declared.fault.Fault.{Fault}
use Rattle.scan_base.specs.declared.fault.Fault.TheVariants.{Transport}
use Rattle.grpc_frame.specs.Ends.{AppendsBeginning}

-- What is on its way to a writer: the name of the reference to the writer; what the writer holds,
-- where that is known; what waits for the next write; and how many writes have failed.
pub record Outgoing : Type 0 where
  pub writer : ℕ
  pub held : Option (List ℕ)
  pub waiting : List ℕ
  pub failures : ℕ

-- one more failure, as far as it can be counted
abbrev pub one_more : ℕ → ℕ
one_more failures = min (failures + 1) 18446744073709551615

-- a call that failed is counted so, and no other
abbrev pub CountsUp : {A E : Type 0} → Result A E → ℕ → ℕ → Type 0
CountsUp result old new = MatchResult result (λ _. new ≡ old) (λ _. new ≡ one_more old)

-- no write failed, and the writer is the same one
pub record IsQuiet (old new : Outgoing) : Type 0 where
  pub writer : new.writer ≡ old.writer
  pub failures : new.failures ≡ old.failures

-- a write failed, which is counted: nothing waits any more, and the writer is the same one
pub record HasFailed (old new : Outgoing) : Type 0 where
  pub writer : new.writer ≡ old.writer
  pub failures : new.failures ≡ one_more old.failures
  pub none : new.waiting ≡ []

-- what waited and these bytes, in order, are written or wait
pub record IsSent (old new : Outgoing) (bytes : List ℕ) : Type 0 where
  pub quiet : IsQuiet old new
  pub written : List ℕ
  pub wrote : Appends old.held new.held written
  pub whole : written ++ new.waiting ≡ old.waiting ++ bytes

-- a write failed: a beginning of what waited and of these bytes is written
pub record IsBroken (old new : Outgoing) (bytes : List ℕ) : Type 0 where
  pub failed : HasFailed old new
  pub begun : AppendsBeginning old.held new.held (old.waiting ++ bytes)

-- a call fails only where a write failed
abbrev pub KeepsCount : {A : Type 0} → Result A Fault → Outgoing → Outgoing → Type 0
KeepsCount result old new =
    MatchResult result (λ _. IsQuiet old new) (λ fault. (fault ≡ Transport) × HasFailed old new)

-- a call sends these bytes, or a write failed
abbrev pub SendsAll : {A : Type 0} → Result A Fault → Outgoing → Outgoing → List ℕ → Type 0
SendsAll result old new bytes = MatchResult result (λ _. IsSent old new bytes)
    (λ fault. (fault ≡ Transport) × IsBroken old new bytes)
