-- Inside: numbers without a bound, which contracts alone see.
use Rattle.std.specs.Prelude.{ℕ, ◌+◌, Option, Some, None}

-- one more than what was before, if anything was
abbrev pub one_more : {X : Type 0} → (X → ℕ) → Option X → ℕ
one_more count None = 0
one_more count (Some before) = count before + 1
