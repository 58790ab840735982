-- Ends with one value more, and values that change no end.
use Rattle.std.proofs.Common.{◌≡◌, Bool, true, false, Option, Some, None, nat_cmp, int_cmp, inl, inr, refl, ap}
use Rattle.std.proofs.lemmas.Bool.{cases_Bool, both_ways, false_from_ne_true}
use Rattle.std.proofs.lemmas.Cmp.{nat_list_cmp_total, int_cmp_total, tied_itself}
use Rattle.std.specs.Cmp.{IsTotalOrder, bool_cmp_total}
use Rattle.std.specs.Cmp.Lexicographic.{slice_cmp}
use Rattle.std.specs.Ordering.{bool_cmp, is_lt}
use Rattle.std.specs.declared.cmp.Ordering.{Ordering}
use Rattle.std.specs.declared.cmp.Ordering.TheVariants as ordering
use Rattle.scan_base.specs.declared.comparison.Comparison.TheVariants.{Less}
use Rattle.scan_base.specs.declared.value.Value.{Value}
use Rattle.scan_base.specs.declared.value.Value.TheVariants.{Null, Bool as Flag, Int, Text}
use Rattle.scan_base.specs.Truth.{keeps, truth_from}
use Rattle.batch_stats.specs.Stats.{greater, lesser, stand, with_value}

-- ---- the order of values

less_from : (o : Ordering) → keeps (truth_from (is_lt o)) ≡ true → o ≡ ordering.Less
less_from ordering.Less e = refl
less_from ordering.Equal e = cc
less_from ordering.Greater e = cc

module _ {K : Type 0} (R : K → K → Ordering) (o : IsTotalOrder R) where
  abbrev below : K → K → Bool
  below x y = keeps (truth_from (is_lt (R x y)))

  itself_not : (x : K) → below x x ≡ false
  itself_not x = ap (λ r. keeps (truth_from (is_lt r))) (tied_itself o x)

  below_through : (x y z : K) → below x y ≡ true → below y z ≡ true → below x z ≡ true
  below_through x y z p q = ap (λ r. keeps (truth_from (is_lt r))) (o.trans x y z (less_from (R x y) p) (less_from (R y z) q))

-- no value is below itself
pub not_below_itself : (v : Value) → stand Less v v ≡ false
not_below_itself Null = refl
not_below_itself (Flag x) = itself_not bool_cmp bool_cmp_total x
not_below_itself (Int x) = itself_not int_cmp int_cmp_total x
not_below_itself (Text x) = itself_not (slice_cmp nat_cmp) nat_list_cmp_total x

-- what is below a value is below those above it
pub less_through : (v w a : Value) → stand Less v w ≡ true → stand Less w a ≡ true → stand Less v a ≡ true
less_through (Flag x) (Flag y) (Flag z) p q = below_through bool_cmp bool_cmp_total x y z p q
less_through (Int x) (Int y) (Int z) p q = below_through int_cmp int_cmp_total x y z p q
less_through (Text x) (Text y) (Text z) p q = below_through (slice_cmp nat_cmp) nat_list_cmp_total x y z p q
less_through v w a p q = absurd (let no : ⊥ = cc in no)

-- no value is below a null
pub not_below_null : (v : Value) → stand Less v Null ≡ false
not_below_null Null = refl
not_below_null (Flag x) = refl
not_below_null (Int x) = refl
not_below_null (Text x) = refl

-- ---- both ends with one value more

pub with_both : (a b v : Value) → with_value (Some (a, b)) v ≡ Some (lesser a v, greater b v)
with_both a b Null = rw (not_below_null b) refl
with_both a b (Flag x) = refl
with_both a b (Int x) = refl
with_both a b (Text x) = refl

-- ---- values that change no end

-- the value is null where there are no ends, and else not below the least and not above the greatest
abbrev pub Stands : Option (Value × Value) → Value → Type 0
Stands None v = v ≡ Null
Stands (Some ends) v = (stand Less v ends.0 ≡ false) × (stand Less ends.1 v ≡ false)

pub null_stands : (ends : Option (Value × Value)) → Stands ends Null
null_stands None = refl
null_stands (Some ends) = (refl, not_below_null ends.1)

pub stands_kept : (ends : Option (Value × Value)) (v : Value) → Stands ends v → with_value ends v ≡ ends
stands_kept None v is = rw is refl
stands_kept (Some ends) v is = rw (with_both ends.0 ends.1 v, is.0, is.1) refl

not_below_lesser : (a w v : Value) → stand Less v a ≡ false → stand Less v (lesser a w) ≡ false
not_below_lesser a w v is = elim (cases_Bool (stand Less w a)) [
  | inl lt ↦ rw lt (false_from_ne_true (stand Less v w) (λ h. both_ways (stand Less v a) is (less_through v w a h lt)))
  | inr ge ↦ rw ge is
]

not_below_greater : (b w v : Value) → stand Less b v ≡ false → stand Less (greater b w) v ≡ false
not_below_greater b w v is = elim (cases_Bool (stand Less b w)) [
  | inl lt ↦ rw lt (false_from_ne_true (stand Less w v) (λ h. both_ways (stand Less b v) is (less_through b w v lt h)))
  | inr ge ↦ rw ge is
]

both_stand : (a b w v : Value) → Stands (Some (a, b)) v → Stands (with_value (Some (a, b)) w) v
both_stand a b w v is = rw (with_both a b w) (not_below_lesser a w v is.0, not_below_greater b w v is.1)

-- a value that changed no end changes none later
pub stands_more : (ends : Option (Value × Value)) (w v : Value) → Stands ends v → Stands (with_value ends w) v
stands_more None w v is = rw is (null_stands (with_value None w))
stands_more (Some ends) w v is = both_stand ends.0 ends.1 w v is

not_below_own : (a v : Value) → stand Less v (lesser a v) ≡ false
not_below_own a v = elim (cases_Bool (stand Less v a)) [
  | inl lt ↦ rw lt (not_below_itself v)
  | inr ge ↦ rw (ge, ge) refl
]

not_above_own : (b v : Value) → stand Less (greater b v) v ≡ false
not_above_own b v = elim (cases_Bool (stand Less b v)) [
  | inl lt ↦ rw lt (not_below_itself v)
  | inr ge ↦ rw (ge, ge) refl
]

-- nor does one that was just added
pub stands_new : (ends : Option (Value × Value)) (v : Value) → Stands (with_value ends v) v
stands_new None Null = refl
stands_new None (Flag x) = (not_below_itself (Flag x), not_below_itself (Flag x))
stands_new None (Int x) = (not_below_itself (Int x), not_below_itself (Int x))
stands_new None (Text x) = (not_below_itself (Text x), not_below_itself (Text x))
stands_new (Some ends) v = rw (with_both ends.0 ends.1 v) (not_below_own ends.0 v, not_above_own ends.1 v)
