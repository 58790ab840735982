-- The ends of truth values.
use Rattle.std.proofs.Common.{◌≡◌, ◌-◌, ℕ, Bool, true, false, not, Some, refl}
use Rattle.scan_base.specs.declared.value.Value.{Value}
use Rattle.scan_base.specs.declared.value.Value.TheVariants.{Null, Bool as Flag, Int, Text}
use mathlib.Core.Bool.{beq}
use Rattle.batch_stats.specs.Stats.{with_value}
use Rattle.batch_stats.specs.inside.Slots.{ends_with}
use Rattle.batch_stats.proofs.Passes.{pass_stand}
use Rattle.batch_stats.proofs.Standing.{Stands}

-- one value and the other
pub both_found : (flag : Bool) → with_value (Some (Flag flag, Flag flag)) (Flag (not flag)) ≡ Some (Flag false, Flag true)
both_found true = refl
both_found false = refl

-- one value again
pub found_again : (flag : Bool) → with_value (Some (Flag flag, Flag flag)) (Flag flag) ≡ Some (Flag flag, Flag flag)
found_again true = refl
found_again false = refl

-- no value changes both
all_between : (v : Value) → Stands (Some (Flag false, Flag true)) v
all_between Null = (refl, refl)
all_between (Flag true) = (refl, refl)
all_between (Flag false) = (refl, refl)
all_between (Int x) = (refl, refl)
all_between (Text x) = (refl, refl)

pub both_kept : (slot : ℕ → Value) (from to : ℕ) → ends_with (Some (Flag false, Flag true)) slot from to ≡ Some (Flag false, Flag true)
both_kept slot from to = pass_stand (Some (Flag false, Flag true)) slot from (to - from) (λ place low high. all_between (slot place))

-- what a test of two says
pub other_of : (a b : Bool) → not (beq a b) ≡ true → a ≡ not b
other_of true true e = absurd (let no : ⊥ = cc in no)
other_of true false e = refl
other_of false true e = refl
other_of false false e = absurd (let no : ⊥ = cc in no)

pub same_of : (a b : Bool) → not (beq a b) ≡ false → a ≡ b
same_of true true e = refl
same_of true false e = absurd (let no : ⊥ = cc in no)
same_of false true e = absurd (let no : ⊥ = cc in no)
same_of false false e = refl
