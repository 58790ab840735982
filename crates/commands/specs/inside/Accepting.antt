-- Inside: accepts until one takes a connection.
use Rattle.std.specs.Prelude.{◌≡◌, ℕ, zero, suc, Ok, Err}
use Rattle.command_ends.specs.Network.{Accepting, Ends}
use Rattle.command_ends.specs.declared.accept_failure.AcceptFailure.TheVariants.{Broken, MayPass}

-- so many accepts failed, one after the other, by what may pass
abbrev pub FailsSo : {L : Type 0} → Accepting L → ℕ → L → L → Type 0
FailsSo accepts zero old new = new ≡ old
FailsSo {L} accepts (suc failed) old new =
    (middle : L) × FailsSo accepts failed old middle × accepts middle (Err MayPass) new

-- after any number of accepts that failed so, one took a connection of these ends
pub record TakesNext {L : Type 0} (accepts : Accepting L) (ends : Ends) (old new : L) : Type 0 where
  pub failed : ℕ
  pub listener : L
  pub passed : FailsSo accepts failed old listener
  pub took : accepts listener (Ok ends) new

-- after any number of accepts that failed so, the listener broke
pub record TakesNone {L : Type 0} (accepts : Accepting L) (old new : L) : Type 0 where
  pub failed : ℕ
  pub listener : L
  pub passed : FailsSo accepts failed old listener
  pub broke : accepts listener (Err Broken) new
