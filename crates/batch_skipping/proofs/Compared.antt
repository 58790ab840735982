-- The possible truths of a comparison, of values between the ends of both sides.
use Rattle.std.proofs.Common.{◌≡◌, ℕ, ℤ, Bool, true, false, ◌||◌, if◌then◌else◌, List, Option, Some, None, is_some, nat_cmp, int_cmp, refl, ap, ◌∙◌}
use Rattle.std.proofs.lemmas.Bool.{or_left, or_right}
use Rattle.std.proofs.lemmas.Cmp.{nat_list_cmp_total, int_cmp_total}
use Rattle.std.specs.Cmp.{IsTotalOrder, bool_cmp_total}
use Rattle.std.specs.Cmp.Lexicographic.{slice_cmp}
use Rattle.std.specs.Ordering.{bool_cmp, ordering_reverse, is_gt, is_le}
use Rattle.std.specs.declared.cmp.Ordering.{Ordering}
use Rattle.std.specs.declared.cmp.Ordering.TheVariants as ordering
use Rattle.scan_base.specs.declared.comparison.Comparison.{Comparison}
use Rattle.scan_base.specs.declared.comparison.Comparison.TheVariants.{Equal, NotEqual, Less, LessOrEqual, Greater, GreaterOrEqual}
use Rattle.scan_base.specs.declared.truth.Truth.TheVariants.{Unknown}
use Rattle.scan_base.specs.declared.value.Value.{Value}
use Rattle.scan_base.specs.declared.value.Value.TheVariants.{Null, Bool as Flag, Int, Text}
use Rattle.scan_base.specs.Comparison.{order_of, compared, judged, satisfies}
use Rattle.scan_base.specs.Truth.{keeps, truth_from, truth_not}
use Rattle.batch_skipping.specs.declared.possible_truths.PossibleTruths.{PossibleTruths}
use Rattle.batch_skipping.specs.PossibleTruths.{has, only}
use Rattle.batch_stats.specs.Stats.{StatsAt, stand, has_nulls}
use Rattle.batch_skipping.specs.PredicateTruths.{equal_between, less_between, between_sides, of_sides, can_compare}
use Rattle.batch_skipping.specs.Laws.{IsBetween, IsWithin}
use Rattle.batch_skipping.proofs.Orders.{equal_true, equal_false, less_true, less_false}
use Rattle.batch_skipping.proofs.Sets.{has_over}

keeps_from : (b : Bool) → keeps (truth_from b) ≡ b
keeps_from true = refl
keeps_from false = refl

-- ---- ends of one class

-- the ends are values of a class, and x is between them
record Holds {K : Type 0} (R : K → K → Ordering) (wrap : K → Value) (ends : Value × Value) (x : K) : Type 0 where
  low : K
  high : K
  low_is : ends.0 ≡ wrap low
  high_is : ends.1 ≡ wrap high
  above : is_gt (R low x) ≡ false
  below : is_gt (R x high) ≡ false

-- values of a class have its order
pub record HasOrder {K : Type 0} (R : K → K → Ordering) (wrap : K → Value) : Type 0 where
  pub total : IsTotalOrder R
  pub order : (a b : K) → order_of (wrap a) (wrap b) ≡ Some (R a b)

pub flag_order : HasOrder bool_cmp Flag
flag_order = record { total = bool_cmp_total; order = λ a b. refl }

pub number_order : HasOrder int_cmp Int
number_order = record { total = int_cmp_total; order = λ a b. refl }

pub text_order : HasOrder (slice_cmp nat_cmp) Text
text_order = record { total = nat_list_cmp_total; order = λ a b. refl }

-- a test of ends that allows what a comparison of values between them may be
abbrev Allows : Comparison → (Value × Value → Value × Value → Bool × Bool) → Type 1
Allows comparison test =
    (K : Type 0) (R : K → K → Ordering) (wrap : K → Value) → HasOrder R wrap → (a b : Value × Value) (x y : K) → Holds R wrap a x → Holds R wrap b y →
    (satisfies comparison (R x y) ≡ true → (test a b).0 ≡ true) × (satisfies comparison (R x y) ≡ false → (test a b).1 ≡ true)

-- how two values of a class stand
pub stands : {K : Type 0} (R : K → K → Ordering) (wrap : K → Value) → HasOrder R wrap → (comparison : Comparison) (v w : Value) (x y : K) →
    v ≡ wrap x → w ≡ wrap y → stand comparison v w ≡ satisfies comparison (R x y)
stands R wrap has comparison v w x y e f =
    ap (λ (u : Value). stand comparison u w) e ∙ ap (λ (u : Value). stand comparison (wrap x) u) f
    ∙ ap (λ (o : Option Ordering). keeps (judged comparison o)) (has.order x y) ∙ keeps_from (satisfies comparison (R x y))

equal_allows : Allows Equal equal_between
equal_allows K R wrap has a b x y h k =
    let s : (c : Comparison) (v w : Value) (p q : K) → v ≡ wrap p → w ≡ wrap q → stand c v w ≡ satisfies c (R p q) = stands R wrap has in (
      λ e. rw (s LessOrEqual a.0 b.1 h.low k.high h.low_is k.high_is, s LessOrEqual b.0 a.1 k.low h.high k.low_is h.high_is)
          (equal_true R has.total h.low h.high k.low k.high x y h.above h.below k.above k.below e),
      λ e. rw (s Equal a.0 a.1 h.low h.high h.low_is h.high_is, s Equal b.0 b.1 k.low k.high k.low_is k.high_is, s Equal a.0 b.0 h.low k.low h.low_is k.low_is)
          (equal_false R has.total h.low h.high k.low k.high x y h.above h.below k.above k.below e),
    )

less_allows : Allows Less less_between
less_allows K R wrap has a b x y h k = (
  λ e. stands R wrap has Less a.0 b.1 h.low k.high h.low_is k.high_is
      ∙ less_true R has.total h.low h.high k.low k.high x y h.above h.below k.above k.below e,
  λ e. stands R wrap has GreaterOrEqual a.1 b.0 h.high k.low h.high_is k.low_is
      ∙ less_false R has.total h.low h.high k.low k.high x y h.above h.below k.above k.below e,
)

-- ---- values between ends are of the class of the ends

up_to_gt : (o : Ordering) → keeps (truth_from (is_le o)) ≡ true → is_gt o ≡ false
up_to_gt ordering.Less e = refl
up_to_gt ordering.Equal e = refl
up_to_gt ordering.Greater e = cc

-- what is not above a flag, and what it is not above
low_flag : (v : Value) (x : Bool) → stand LessOrEqual v (Flag x) ≡ true → (k : Bool) × (v ≡ Flag k) × (is_gt (bool_cmp k x) ≡ false)
low_flag Null x e = cc
low_flag (Flag k) x e = (k, refl, up_to_gt (bool_cmp k x) e)
low_flag (Int k) x e = cc
low_flag (Text k) x e = cc

high_flag : (v : Value) (x : Bool) → stand LessOrEqual (Flag x) v ≡ true → (k : Bool) × (v ≡ Flag k) × (is_gt (bool_cmp x k) ≡ false)
high_flag Null x e = cc
high_flag (Flag k) x e = (k, refl, up_to_gt (bool_cmp x k) e)
high_flag (Int k) x e = cc
high_flag (Text k) x e = cc

low_number : (v : Value) (x : ℤ) → stand LessOrEqual v (Int x) ≡ true → (k : ℤ) × (v ≡ Int k) × (is_gt (int_cmp k x) ≡ false)
low_number Null x e = cc
low_number (Flag k) x e = cc
low_number (Int k) x e = (k, refl, up_to_gt (int_cmp k x) e)
low_number (Text k) x e = cc

high_number : (v : Value) (x : ℤ) → stand LessOrEqual (Int x) v ≡ true → (k : ℤ) × (v ≡ Int k) × (is_gt (int_cmp x k) ≡ false)
high_number Null x e = cc
high_number (Flag k) x e = cc
high_number (Int k) x e = (k, refl, up_to_gt (int_cmp x k) e)
high_number (Text k) x e = cc

low_text : (v : Value) (x : List ℕ) → stand LessOrEqual v (Text x) ≡ true → (k : List ℕ) × (v ≡ Text k) × (is_gt (slice_cmp nat_cmp k x) ≡ false)
low_text Null x e = cc
low_text (Flag k) x e = cc
low_text (Int k) x e = cc
low_text (Text k) x e = (k, refl, up_to_gt (slice_cmp nat_cmp k x) e)

high_text : (v : Value) (x : List ℕ) → stand LessOrEqual (Text x) v ≡ true → (k : List ℕ) × (v ≡ Text k) × (is_gt (slice_cmp nat_cmp x k) ≡ false)
high_text Null x e = cc
high_text (Flag k) x e = cc
high_text (Int k) x e = cc
high_text (Text k) x e = (k, refl, up_to_gt (slice_cmp nat_cmp x k) e)

hold_flag : (ends : Value × Value) (x : Bool) → IsBetween (Some ends) (Flag x) → Holds bool_cmp Flag ends x
hold_flag ends x h =
    let low = low_flag ends.0 x h.0 in
    let high = high_flag ends.1 x h.1 in
    record { low = low.0; high = high.0; low_is = low.1; high_is = high.1; above = low.2; below = high.2 }

hold_number : (ends : Value × Value) (x : ℤ) → IsBetween (Some ends) (Int x) → Holds int_cmp Int ends x
hold_number ends x h =
    let low = low_number ends.0 x h.0 in
    let high = high_number ends.1 x h.1 in
    record { low = low.0; high = high.0; low_is = low.1; high_is = high.1; above = low.2; below = high.2 }

hold_text : (ends : Value × Value) (x : List ℕ) → IsBetween (Some ends) (Text x) → Holds (slice_cmp nat_cmp) Text ends x
hold_text ends x h =
    let low = low_text ends.0 x h.0 in
    let high = high_text ends.1 x h.1 in
    record { low = low.0; high = high.0; low_is = low.1; high_is = high.1; above = low.2; below = high.2 }

-- no null stands between ends
no_null : (v : Value) → stand LessOrEqual v Null ≡ true → ⊥
no_null Null e = cc
no_null (Flag k) e = cc
no_null (Int k) e = cc
no_null (Text k) e = cc

-- ---- the law of a test

module _ (comparison : Comparison) (test : Value × Value → Value × Value → Bool × Bool) (allows : Allows comparison test) where
  -- the set by a test
  abbrev tested : Bool → Value × Value → Value × Value → PossibleTruths
  tested nulls a b = record { can_true = (test a b).0; can_false = (test a b).1; can_unknown = nulls }

  by_truth : (nulls : Bool) (a b : Value × Value) (t : Bool) → (t ≡ true → (test a b).0 ≡ true) → (t ≡ false → (test a b).1 ≡ true) →
      has (tested nulls a b) (truth_from t) ≡ true
  by_truth nulls a b true if_true if_false = if_true refl
  by_truth nulls a b false if_true if_false = if_false refl

  one_class : {K : Type 0} (R : K → K → Ordering) (wrap : K → Value) → HasOrder R wrap → (nulls : Bool) (a b : Value × Value) (x y : K) →
      Holds R wrap a x → Holds R wrap b y → has (between_sides test nulls (Some a) (Some b)) (compared comparison (wrap x) (wrap y)) ≡ true
  one_class {K} R wrap has_order nulls a b x y h k =
      let there : order_of a.0 b.0 ≡ Some (R h.low k.low) =
      ap (λ (v : Value). order_of v b.0) h.low_is ∙ ap (order_of (wrap h.low)) k.low_is ∙ has_order.order h.low k.low in
      let both = allows K R wrap has_order a b x y h k in
      rw (there, has_order.order x y) (by_truth nulls a b (satisfies comparison (R x y)) both.0 both.1)

  -- sides of two classes
  two_classes : (nulls : Bool) (a b : Value × Value) (v w : Value) → a.0 ≡ v → b.0 ≡ w → order_of v w ≡ None →
      has (between_sides test nulls (Some a) (Some b)) Unknown ≡ true
  two_classes nulls a b v w e f none =
      let apart : order_of a.0 b.0 ≡ None = ap (λ (u : Value). order_of u b.0) e ∙ ap (order_of v) f ∙ none in
      rw apart refl

  -- a side with a null
  with_null : (a b : Option (Value × Value)) → has (between_sides test true a b) Unknown ≡ true
  with_null None b = refl
  with_null (Some a) None = refl
  with_null (Some a) (Some b) = by (is_some (order_of a.0 b.0))
    where
      by : (c : Bool) → has (if c then tested true a b else only Unknown) Unknown ≡ true
      by true = refl
      by false = refl

  values : (nulls : Bool) (a b : Value × Value) (v w : Value) → IsBetween (Some a) v → IsBetween (Some b) w →
      has (between_sides test nulls (Some a) (Some b)) (compared comparison v w) ≡ true
  values nulls a b (Flag x) (Flag y) h k = one_class bool_cmp Flag flag_order nulls a b x y (hold_flag a x h) (hold_flag b y k)
  values nulls a b (Int x) (Int y) h k = one_class int_cmp Int number_order nulls a b x y (hold_number a x h) (hold_number b y k)
  values nulls a b (Text x) (Text y) h k = one_class (slice_cmp nat_cmp) Text text_order nulls a b x y (hold_text a x h) (hold_text b y k)
  values nulls a b (Flag x) (Int y) h k = let p = hold_flag a x h in let q = hold_number b y k in two_classes nulls a b (Flag p.low) (Int q.low) p.low_is q.low_is refl
  values nulls a b (Flag x) (Text y) h k = let p = hold_flag a x h in let q = hold_text b y k in two_classes nulls a b (Flag p.low) (Text q.low) p.low_is q.low_is refl
  values nulls a b (Int x) (Flag y) h k = let p = hold_number a x h in let q = hold_flag b y k in two_classes nulls a b (Int p.low) (Flag q.low) p.low_is q.low_is refl
  values nulls a b (Int x) (Text y) h k = let p = hold_number a x h in let q = hold_text b y k in two_classes nulls a b (Int p.low) (Text q.low) p.low_is q.low_is refl
  values nulls a b (Text x) (Flag y) h k = let p = hold_text a x h in let q = hold_flag b y k in two_classes nulls a b (Text p.low) (Flag q.low) p.low_is q.low_is refl
  values nulls a b (Text x) (Int y) h k = let p = hold_text a x h in let q = hold_number b y k in two_classes nulls a b (Text p.low) (Int q.low) p.low_is q.low_is refl
  values nulls a b Null w h k = absurd (no_null a.0 h.0)
  values nulls a b (Flag x) Null h k = absurd (no_null b.0 k.0)
  values nulls a b (Int x) Null h k = absurd (no_null b.0 k.0)
  values nulls a b (Text x) Null h k = absurd (no_null b.0 k.0)

  with_values : (nulls : Bool) (a b : Option (Value × Value)) (v w : Value) → IsBetween a v → IsBetween b w →
      has (between_sides test nulls a b) (compared comparison v w) ≡ true
  with_values nulls None b v w h k = absurd h
  with_values nulls (Some a) None v w h k = absurd k
  with_values nulls (Some a) (Some b) v w h k = values nulls a b v w h k

  left_null : (a b : StatsAt) → has_nulls a ≡ true → has (of_sides test a b) Unknown ≡ true
  left_null a b e = rw (or_left (has_nulls a) (has_nulls b) e) (with_null a.ends b.ends)

  right_null : (a b : StatsAt) → has_nulls b ≡ true → has (of_sides test a b) Unknown ≡ true
  right_null a b e = rw (or_right (has_nulls a) (has_nulls b) e) (with_null a.ends b.ends)

  sides : (a b : StatsAt) (v w : Value) → IsWithin a v → IsWithin b w → has (of_sides test a b) (compared comparison v w) ≡ true
  sides a b Null w h k = left_null a b h
  sides a b (Flag x) Null h k = right_null a b k
  sides a b (Int x) Null h k = right_null a b k
  sides a b (Text x) Null h k = right_null a b k
  sides a b (Flag x) (Flag y) h k = with_values (has_nulls a || has_nulls b) a.ends b.ends (Flag x) (Flag y) h k
  sides a b (Flag x) (Int y) h k = with_values (has_nulls a || has_nulls b) a.ends b.ends (Flag x) (Int y) h k
  sides a b (Flag x) (Text y) h k = with_values (has_nulls a || has_nulls b) a.ends b.ends (Flag x) (Text y) h k
  sides a b (Int x) (Flag y) h k = with_values (has_nulls a || has_nulls b) a.ends b.ends (Int x) (Flag y) h k
  sides a b (Int x) (Int y) h k = with_values (has_nulls a || has_nulls b) a.ends b.ends (Int x) (Int y) h k
  sides a b (Int x) (Text y) h k = with_values (has_nulls a || has_nulls b) a.ends b.ends (Int x) (Text y) h k
  sides a b (Text x) (Flag y) h k = with_values (has_nulls a || has_nulls b) a.ends b.ends (Text x) (Flag y) h k
  sides a b (Text x) (Int y) h k = with_values (has_nulls a || has_nulls b) a.ends b.ends (Text x) (Int y) h k
  sides a b (Text x) (Text y) h k = with_values (has_nulls a || has_nulls b) a.ends b.ends (Text x) (Text y) h k

-- ---- all six comparisons

not_equal : (o : Option Ordering) → judged NotEqual o ≡ truth_not (judged Equal o)
not_equal None = refl
not_equal (Some ordering.Less) = refl
not_equal (Some ordering.Equal) = refl
not_equal (Some ordering.Greater) = refl

not_greater : (o : Option Ordering) → judged LessOrEqual o ≡ truth_not (judged Greater o)
not_greater None = refl
not_greater (Some ordering.Less) = refl
not_greater (Some ordering.Equal) = refl
not_greater (Some ordering.Greater) = refl

not_less : (o : Option Ordering) → judged GreaterOrEqual o ≡ truth_not (judged Less o)
not_less None = refl
not_less (Some ordering.Less) = refl
not_less (Some ordering.Equal) = refl
not_less (Some ordering.Greater) = refl

reversed : (o : Ordering) → judged Greater (Some (ordering_reverse o)) ≡ judged Less (Some o)
reversed ordering.Less = refl
reversed ordering.Equal = refl
reversed ordering.Greater = refl

-- a comparison the other way round
turned : (v w : Value) → compared Greater v w ≡ compared Less w v
turned (Flag x) (Flag y) = rw (bool_cmp_total.antisymm x y) (reversed (bool_cmp y x))
turned (Int x) (Int y) = rw (int_cmp_total.antisymm x y) (reversed (int_cmp y x))
turned (Text x) (Text y) = rw (nat_list_cmp_total.antisymm x y) (reversed (slice_cmp nat_cmp y x))
turned Null Null = refl
turned Null (Flag y) = refl
turned Null (Int y) = refl
turned Null (Text y) = refl
turned (Flag x) Null = refl
turned (Flag x) (Int y) = refl
turned (Flag x) (Text y) = refl
turned (Int x) Null = refl
turned (Int x) (Flag y) = refl
turned (Int x) (Text y) = refl
turned (Text x) Null = refl
turned (Text x) (Flag y) = refl
turned (Text x) (Int y) = refl

-- the truth of a comparison is a possible one
pub compare_law : (comparison : Comparison) (a b : StatsAt) (v w : Value) → IsWithin a v → IsWithin b w →
    has (can_compare comparison a b) (compared comparison v w) ≡ true
unfolding can_compare
compare_law Equal a b v w h k = sides Equal equal_between equal_allows a b v w h k
compare_law NotEqual a b v w h k =
    rw (not_equal (order_of v w)) (has_over truth_not (of_sides equal_between a b) (compared Equal v w) (sides Equal equal_between equal_allows a b v w h k))
compare_law Less a b v w h k = sides Less less_between less_allows a b v w h k
compare_law Greater a b v w h k = rw (turned v w) (sides Less less_between less_allows b a w v k h)
compare_law LessOrEqual a b v w h k =
    let e : compared LessOrEqual v w ≡ truth_not (compared Less w v) = not_greater (order_of v w) ∙ ap truth_not (turned v w) in
    rw e (has_over truth_not (of_sides less_between b a) (compared Less w v) (sides Less less_between less_allows b a w v k h))
compare_law GreaterOrEqual a b v w h k =
    rw (not_less (order_of v w)) (has_over truth_not (of_sides less_between a b) (compared Less v w) (sides Less less_between less_allows a b v w h k))
