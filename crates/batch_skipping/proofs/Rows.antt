-- Worked rows: the definitions, tried on small batches that were worked out by hand.
use Rattle.std.proofs.Common.{◌≡◌, ℕ, pos, Bool, true, false, List, [], ◌∷◌, codes, refl}
use Rattle.scan_base.specs.declared.comparison.Comparison.TheVariants.{Equal, NotEqual, Less, Greater, GreaterOrEqual}
use Rattle.scan_base.specs.declared.predicate.Operand.{Operand}
use Rattle.scan_base.specs.declared.predicate.Operand.TheVariants.{Column, Literal}
use Rattle.scan_base.specs.declared.truth.Truth.TheVariants.{False, Unknown}
use Rattle.scan_base.specs.declared.value.Value.{Value}
use Rattle.scan_base.specs.declared.value.Value.TheVariants.{Null, Int, Text}
use Rattle.scan_base.specs.Predicate.{Pred, disjunction, negation, comparing, between, membership, null_test, constant}
use Rattle.batch_stats.specs.Stats.{StatsAt, stats_of}
use Rattle.batch_skipping.specs.PredicateTruths.{can, can_compare}
use Rattle.batch_skipping.specs.PossibleTruths.{only, over, over_both}

-- whether a predicate can be true in a batch whose one column has these values
abbrev is_opened : List Value → Pred ℕ → Bool
is_opened values predicate = (can (λ column. stats_of values) predicate).can_true

abbrev number : ℕ → Operand ℕ
number n = Literal (Int (pos n))

-- batches of one column
abbrev low : List Value
low = Int (pos 1) ∷ Int (pos 2) ∷ []

abbrev high : List Value
high = Int (pos 10) ∷ Int (pos 11) ∷ []

abbrev wide : List Value
wide = Int (pos 2) ∷ Int (pos 10) ∷ []

abbrev null_then_four : List Value
null_then_four = Null ∷ Int (pos 4) ∷ []

abbrev one_then_null : List Value
one_then_null = Int (pos 1) ∷ Null ∷ []

-- a > 5
abbrev above_five : Pred ℕ
above_five = comparing Greater (Column 0) (number 5)

above_five-low : is_opened low above_five ≡ false
unfolding can_compare
above_five-low = refl

above_five-high : is_opened high above_five ≡ true
unfolding can_compare
above_five-high = refl

-- a < 5
abbrev below_five : Pred ℕ
below_five = comparing Less (Column 0) (number 5)

below_five-low : is_opened low below_five ≡ true
unfolding can_compare
below_five-low = refl

below_five-high : is_opened high below_five ≡ false
unfolding can_compare
below_five-high = refl

-- a IS NULL
abbrev is_missing : Pred ℕ
is_missing = null_test false (Column 0)

is_missing-low : is_opened low is_missing ≡ false
unfolding over
is_missing-low = refl

is_missing-null : is_opened null_then_four is_missing ≡ true
unfolding over
is_missing-null = refl

-- a > 5 OR a IS NULL
either-low : is_opened low (disjunction above_five is_missing) ≡ false
unfolding can_compare over over_both
either-low = refl

either-high : is_opened high (disjunction above_five is_missing) ≡ true
unfolding can_compare over over_both
either-high = refl

-- a BETWEEN 3 AND 9: values on both sides of the range are enough
abbrev three_to_nine : Pred ℕ
three_to_nine = between false (Column 0) (number 3) (number 9)

three_to_nine-low : is_opened low three_to_nine ≡ false
unfolding can_compare over over_both
three_to_nine-low = refl

three_to_nine-high : is_opened high three_to_nine ≡ false
unfolding can_compare over over_both
three_to_nine-high = refl

three_to_nine-wide : is_opened wide three_to_nine ≡ true
unfolding can_compare over over_both
three_to_nine-wide = refl

-- a IN (3, 4) and a NOT IN (3, 4)
three_or_four-wide : is_opened wide (membership false (Column 0) (number 3 ∷ number 4 ∷ [])) ≡ true
unfolding can_compare over over_both
three_or_four-wide = refl

three_or_four-high : is_opened high (membership false (Column 0) (number 3 ∷ number 4 ∷ [])) ≡ false
unfolding can_compare over over_both
three_or_four-high = refl

neither-high : is_opened high (membership true (Column 0) (number 3 ∷ number 4 ∷ [])) ≡ true
unfolding can_compare over over_both
neither-high = refl

-- k = 1, NULL: NOT (k < 1000) can be false and unknown alone
not_small-null : is_opened one_then_null (negation (comparing Less (Column 0) (number 1000))) ≡ false
unfolding can_compare over
not_small-null = refl

-- k = 1, NULL: k = 1 cannot be false, and k <> 1 cannot be true
one-null : can (λ (column : ℕ). stats_of one_then_null) (comparing Equal (Column 0) (number 1))
    ≡ record { can_true = true; can_false = false; can_unknown = true }
unfolding can_compare
one-null = refl

not_one-null : is_opened one_then_null (comparing NotEqual (Column 0) (number 1)) ≡ false
unfolding can_compare over
not_one-null = refl

-- 1 = 2, as it is written and as a truth, in any batch
abbrev one_is_two : Pred ℕ
one_is_two = comparing Equal (number 1) (number 2)

one_is_two-any : (stats : ℕ → StatsAt) → can stats one_is_two ≡ only False
unfolding can_compare
one_is_two-any stats = refl

false-any : (stats : ℕ → StatsAt) → can stats (constant False) ≡ only False
false-any stats = refl

-- a side with nulls alone, and a text next to numbers
nulls_alone : can (λ (column : ℕ). stats_of (Null ∷ [])) above_five ≡ only Unknown
unfolding can_compare
nulls_alone = refl

text_beside_numbers : can (λ (column : ℕ). stats_of low) (comparing Equal (Column 0) (Literal (Text (codes "1")))) ≡ only Unknown
unfolding can_compare
text_beside_numbers = refl

-- d >= DATE '1994-01-01', which is bound as the day 8766, over two batches of dates
abbrev from_1994 : Pred ℕ
from_1994 = comparing GreaterOrEqual (Column 0) (Literal (Int (pos 8766)))

dates_before : is_opened (Int (pos 8000) ∷ Int (pos 8700) ∷ []) from_1994 ≡ false
unfolding can_compare over
dates_before = refl

dates_from : is_opened (Int (pos 8766) ∷ Int (pos 9000) ∷ []) from_1994 ≡ true
unfolding can_compare over
dates_from = refl

-- s = 'b' over texts 'a'
texts : is_opened (Text (codes "a") ∷ Text (codes "a") ∷ []) (comparing Equal (Column 0) (Literal (Text (codes "b")))) ≡ false
unfolding can_compare
texts = refl
