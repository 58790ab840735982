-- Numbers and truth values of two columns, compared 64 at a time.
use Rattle.std.proofs.Common.{◌≡◌, ℤ, Bool, true, false, not, ◌&&◌, ◌||◌, if◌then◌else◌, cond, int_lt, refl, sym, ap, ◌∙◌}
use Rattle.std.specs.Ordering.{bool_cmp, int_cmp, int_eq, is_eq, is_ne, is_lt, is_gt, is_le, is_ge}
use Rattle.std.specs.declared.cmp.Ordering.TheVariants.{Less, Equal, Greater}
use Rattle.scan_base.specs.declared.comparison.Comparison.{Comparison}
use Rattle.scan_base.specs.declared.truth.Truth.TheVariants.{Unknown}
use Rattle.scan_base.specs.declared.value.Value.TheVariants.{Null, Int, Bool as Flag}
use Rattle.scan_base.specs.Comparison.{compared, satisfies}
use Rattle.scan_base.specs.Truth.{truth_from}
use Rattle.kernels.specs.Words.{by_bits}
use Rattle.kernels.proofs.Bits.{xor}
use Rattle.kernels.proofs.Orders.{apart, at_least_by, at_most_by, equal_range, le_not_lt, other_range}
use Rattle.kernels.proofs.TypeEnds.{equal_within}

pub less_by : (a b : ℤ) → int_lt a b ≡ is_lt (int_cmp a b)
less_by a b = by (int_lt a b) (int_lt b a)
  where
    by : (l g : Bool) → l ≡ is_lt (cond l Less (cond g Greater Equal))
    by true g = refl
    by false true = refl
    by false false = refl

pub greater_by : (a b : ℤ) → int_lt b a ≡ is_gt (int_cmp a b)
greater_by a b = by (int_lt a b) (int_lt b a) refl refl
  where
    by : (l g : Bool) → int_lt a b ≡ l → int_lt b a ≡ g → g ≡ is_gt (cond l Less (cond g Greater Equal))
    by true true p q = absurd (apart a b p q)
    by true false p q = refl
    by false true p q = refl
    by false false p q = refl

pub not_above : (a b : ℤ) → not (int_lt b a) ≡ is_le (int_cmp a b)
not_above a b = sym (le_not_lt a b) ∙ at_most_by a b

pub not_below : (a b : ℤ) → not (int_lt a b) ≡ is_ge (int_cmp a b)
not_below a b = sym (le_not_lt b a) ∙ at_least_by b a

pub equal_by : (a b : ℤ) → int_eq a b ≡ is_eq (int_cmp a b)
equal_by a b = equal_within a b ∙ equal_range a b

pub other_by : (a b : ℤ) → not (int_eq a b) ≡ is_ne (int_cmp a b)
other_by a b = ap not (equal_within a b) ∙ other_range a b

when_known : (passes : Bool) → by_bits passes true ≡ truth_from passes
when_known true = refl
when_known false = refl

when_not : (passes : Bool) → by_bits passes false ≡ Unknown
when_not true = refl
when_not false = refl

-- the row of a word, by those of the two columns
pub pair_row : (comparison : Comparison) (passes left right : Bool) (x y : ℤ) → passes ≡ satisfies comparison (int_cmp x y) →
    by_bits passes (left && right) ≡ compared comparison (if left then Int x else Null) (if right then Int y else Null)
pair_row comparison passes true true x y is = when_known passes ∙ ap truth_from is
pair_row comparison passes true false x y is = when_not passes
pair_row comparison passes false true x y is = when_not passes
pair_row comparison passes false false x y is = when_not passes

pub flag_row : (comparison : Comparison) (passes left right x y : Bool) → passes ≡ satisfies comparison (bool_cmp x y) →
    by_bits passes (left && right) ≡ compared comparison (if left then Flag x else Null) (if right then Flag y else Null)
flag_row comparison passes true true x y is = when_known passes ∙ ap truth_from is
flag_row comparison passes true false x y is = when_not passes
flag_row comparison passes false true x y is = when_not passes
flag_row comparison passes false false x y is = when_not passes

-- truth values by their bits, where FALSE is below TRUE
pub flag_equal : (x y : Bool) → not (xor x y) ≡ is_eq (bool_cmp x y)
unfolding xor
flag_equal true true = refl
flag_equal true false = refl
flag_equal false true = refl
flag_equal false false = refl

pub flag_other : (x y : Bool) → xor x y ≡ is_ne (bool_cmp x y)
unfolding xor
flag_other true true = refl
flag_other true false = refl
flag_other false true = refl
flag_other false false = refl

pub flag_less : (x y : Bool) → (not x && y) ≡ is_lt (bool_cmp x y)
flag_less true true = refl
flag_less true false = refl
flag_less false true = refl
flag_less false false = refl

pub flag_at_most : (x y : Bool) → (not x || y) ≡ is_le (bool_cmp x y)
flag_at_most true true = refl
flag_at_most true false = refl
flag_at_most false true = refl
flag_at_most false false = refl

pub flag_greater : (x y : Bool) → (x && not y) ≡ is_gt (bool_cmp x y)
flag_greater true true = refl
flag_greater true false = refl
flag_greater false true = refl
flag_greater false false = refl

pub flag_at_least : (x y : Bool) → (x || not y) ≡ is_ge (bool_cmp x y)
flag_at_least true true = refl
flag_at_least true false = refl
flag_at_least false true = refl
flag_at_least false false = refl
