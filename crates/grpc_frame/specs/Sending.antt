-- What sending bytes through an outbox does to its output.
use Rattle.std.specs.Prelude.{◌≡◌, List, ℕ, [], ◌++◌, Option, Result, MatchResult}
use Rattle.std.specs.Io.KnownBytes.{Appends}
use Rattle.grpc_frame.specs.Ends.{AppendsBeginning}

-- What was written and what is gathered now is what was gathered before and these bytes, in order.
pub record Sent (old new : Option (List ℕ)) (before after bytes : List ℕ) : Type 0 where
  pub written : List ℕ
  pub wrote : Appends old new written
  pub whole : written ++ after ≡ before ++ bytes

-- A write failed: a beginning of what was gathered before and of these bytes was written, and
-- nothing is gathered now.
pub record NotSent (old new : Option (List ℕ)) (before after bytes : List ℕ) : Type 0 where
  pub begun : AppendsBeginning old new (before ++ bytes)
  pub none : after ≡ []

-- the bytes were sent, or a write failed
abbrev pub Sends : {A E : Type 0} → Result A E → Option (List ℕ) → Option (List ℕ) → List ℕ →
    List ℕ → List ℕ → Type 0
Sends result old new before after bytes =
    MatchResult result (λ _. Sent old new before after bytes)
    (λ _. NotSent old new before after bytes)
