-- What the network gives.
use Rattle.std.specs.Prelude.{◌≡◌, ℕ, List, [], Option, Some, Result}
use Rattle.grpc_frame.specs.Ends.{Tape}
use Rattle.command_ends.specs.declared.accept_failure.AcceptFailure.{AcceptFailure}

-- the ends of a connection as it is made: the tape of what comes, and what was written, where that
-- is known
pub record Ends : Type 0 where
  pub input : Tape
  pub output : Option (List ℕ)

-- the ends with these, in that order
abbrev pub ends_of : Tape → Option (List ℕ) → Ends
ends_of input output = record { input = input; output = output }

-- nothing was read from them yet, and nothing was written to them
abbrev pub AreNew : Ends → Type 0
AreNew ends = (ends.input.given ≡ []) × (ends.output ≡ Some [])

-- what may come of an accept, from a listener to a listener: a connection of these ends, or why
-- there is none
abbrev pub Accepting : Type 0 → Type 1
Accepting L = L → Result Ends AcceptFailure → L → Type 0
