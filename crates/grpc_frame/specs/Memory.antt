-- What ends in memory are.
use Rattle.std.specs.Prelude.{ℕ, zero, suc, Bool, true, false, List, Option, Some, None}

-- A reader: the bytes that it gave, those that are left, the most bytes of a read, how many calls
-- go well before one fails (None: no call fails) and how many have failed.
pub record Source : Type 0 where
  pub given : List ℕ
  pub bytes : List ℕ
  pub most : ℕ
  pub plan : Option ℕ
  pub failures : ℕ

-- A writer: the bytes that are written, and the same.
pub record Sink : Type 0 where
  pub bytes : List ℕ
  pub plan : Option ℕ
  pub failures : ℕ

-- the next call is the one that fails
abbrev pub fails_now : Option ℕ → Bool
fails_now None = false
fails_now (Some zero) = true
fails_now (Some (suc calls)) = false

-- what stands before a failure after the next call
abbrev pub plan_after : Option ℕ → Option ℕ
plan_after None = None
plan_after (Some zero) = None
plan_after (Some (suc calls)) = Some calls
