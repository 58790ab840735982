-- Comparisons with their sides exchanged.
use Rattle.std.proofs.Common.{◌≡◌, ap, sym, ◌∙◌, refl}
use Rattle.std.specs.Ordering.{ordering_reverse, nat_cmp, int_cmp, bool_cmp}
use Rattle.std.specs.Cmp.{bool_cmp_total}
use Rattle.std.specs.Cmp.Lexicographic.{slice_cmp}
use Rattle.std.specs.declared.cmp.Ordering.{Ordering}
use Rattle.std.specs.declared.cmp.Ordering.TheVariants as order
use Rattle.std.proofs.lemmas.Cmp.{int_cmp_total, nat_list_cmp_total}
use Rattle.scan_base.specs.declared.comparison.Comparison.{Comparison}
use Rattle.scan_base.specs.declared.comparison.Comparison.TheVariants.{Equal, NotEqual, Less, LessOrEqual, Greater, GreaterOrEqual}
use Rattle.scan_base.specs.declared.value.Value.{Value}
use Rattle.scan_base.specs.declared.value.Value.TheVariants.{Null, Bool, Int, Text}
use Rattle.scan_base.specs.Comparison.{compared, satisfies}
use Rattle.scan_base.specs.Truth.{truth_from}

-- two comparisons that judge an order and its reverse alike
pub sides : (c d : Comparison) → ((o : Ordering) → satisfies d o ≡ satisfies c (ordering_reverse o)) → (one other : Value) → compared d one other ≡ compared c other one
sides c d same (Bool a) (Bool b) = ap truth_from (same (bool_cmp a b) ∙ ap (satisfies c) (sym (bool_cmp_total.antisymm b a)))
sides c d same (Int a) (Int b) = ap truth_from (same (int_cmp a b) ∙ ap (satisfies c) (sym (int_cmp_total.antisymm b a)))
sides c d same (Text a) (Text b) = ap truth_from (same (slice_cmp nat_cmp a b) ∙ ap (satisfies c) (sym (nat_list_cmp_total.antisymm b a)))
sides c d same Null Null = refl
sides c d same Null (Bool b) = refl
sides c d same Null (Int b) = refl
sides c d same Null (Text b) = refl
sides c d same (Bool a) Null = refl
sides c d same (Bool a) (Int b) = refl
sides c d same (Bool a) (Text b) = refl
sides c d same (Int a) Null = refl
sides c d same (Int a) (Bool b) = refl
sides c d same (Int a) (Text b) = refl
sides c d same (Text a) Null = refl
sides c d same (Text a) (Bool b) = refl
sides c d same (Text a) (Int b) = refl

pub equal_sides : (o : Ordering) → satisfies Equal o ≡ satisfies Equal (ordering_reverse o)
equal_sides order.Less = refl
equal_sides order.Equal = refl
equal_sides order.Greater = refl

pub not_equal_sides : (o : Ordering) → satisfies NotEqual o ≡ satisfies NotEqual (ordering_reverse o)
not_equal_sides order.Less = refl
not_equal_sides order.Equal = refl
not_equal_sides order.Greater = refl

pub less_sides : (o : Ordering) → satisfies Greater o ≡ satisfies Less (ordering_reverse o)
less_sides order.Less = refl
less_sides order.Equal = refl
less_sides order.Greater = refl

pub at_most_sides : (o : Ordering) → satisfies GreaterOrEqual o ≡ satisfies LessOrEqual (ordering_reverse o)
at_most_sides order.Less = refl
at_most_sides order.Equal = refl
at_most_sides order.Greater = refl

pub greater_sides : (o : Ordering) → satisfies Less o ≡ satisfies Greater (ordering_reverse o)
greater_sides order.Less = refl
greater_sides order.Equal = refl
greater_sides order.Greater = refl

pub at_least_sides : (o : Ordering) → satisfies LessOrEqual o ≡ satisfies GreaterOrEqual (ordering_reverse o)
at_least_sides order.Less = refl
at_least_sides order.Equal = refl
at_least_sides order.Greater = refl
