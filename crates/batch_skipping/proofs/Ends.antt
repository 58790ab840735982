-- Values stand between the ends of their own statistics.
use Rattle.std.proofs.Common.{◌≡◌, ◌⊎◌, ◌<◌, ℕ, suc, ◌+◌, ℤ, Bool, true, false, cond, List, [], ◌∷◌, length, filter, fold, Option, Some, None, nat_cmp, nat_lt, int_cmp, inl, inr, refl, sym, ap, ◌∙◌, subst, arith}
use Rattle.std.specs.List.{list_all, AllByRecursion}
use Rattle.std.proofs.lemmas.Bool.{and_from, and_parts, cases_Bool, lt-ltb}
use Rattle.std.proofs.lemmas.Cmp.{tied_itself, upto}
use Rattle.std.proofs.lemmas.List.Elements.{All-from_recursion, recursion_from_All}
use Rattle.std.specs.Cmp.Lexicographic.{slice_cmp}
use Rattle.std.specs.Ordering.{bool_cmp, ordering_reverse, is_lt, is_gt, is_le}
use Rattle.std.specs.declared.cmp.Ordering.{Ordering}
use Rattle.std.specs.declared.cmp.Ordering.TheVariants as ordering
use Rattle.scan_base.specs.declared.comparison.Comparison.TheVariants.{Less, LessOrEqual}
use Rattle.scan_base.specs.declared.value.Value.{Value}
use Rattle.scan_base.specs.declared.value.Value.TheVariants.{Null, Bool as Flag, Int, Text}
use Rattle.scan_base.specs.Value.{is_null}
use Rattle.arrow_types.specs.declared.data_type.DataType.{DataType}
use Rattle.arrow_types.specs.declared.data_type.DataType.TheVariants.{Number, Utf8, Bool as Flags, Dictionary}
use Rattle.arrays.specs.TypedLayouts.{IsValueOf}
use Rattle.batch_skipping.specs.Laws.{IsBetween, IsWithin, OwnValuesAreWithin}
use Rattle.batch_stats.specs.Stats.{StatsAt, ends_of, lesser, greater, stand, stats_of, with_value}
use Rattle.batch_skipping.proofs.Compared.{HasOrder, flag_order, number_order, text_order, stands}

le_from : (o : Ordering) → is_gt o ≡ false → is_le o ≡ true
le_from ordering.Less e = refl
le_from ordering.Equal e = refl
le_from ordering.Greater e = cc

below_gt : (o : Ordering) → is_lt o ≡ true → is_gt o ≡ false
below_gt ordering.Less e = refl
below_gt ordering.Equal e = cc
below_gt ordering.Greater e = cc

back_gt : (o r : Ordering) → o ≡ ordering_reverse r → is_lt o ≡ false → is_gt r ≡ false
back_gt o ordering.Less e f = refl
back_gt o ordering.Equal e f = refl
back_gt o ordering.Greater e f = let no : true ≡ false = sym (ap is_lt e) ∙ f in cc

-- a class, how its values join ends, and what a value is
record IsClass {K : Type 0} (R : K → K → Ordering) (wrap : K → Value) (passes : Value → Bool) : Type 0 where
  order : HasOrder R wrap
  first : (w : K) → with_value None (wrap w) ≡ Some (wrap w, wrap w)
  more : (ends : Value × Value) (w : K) → with_value (Some ends) (wrap w) ≡ Some (lesser ends.0 (wrap w), greater ends.1 (wrap w))
  within : (stats : StatsAt) (w : K) → IsBetween stats.ends (wrap w) → IsWithin stats (wrap w)
  view : (v : Value) → passes v ≡ true → (v ≡ Null) ⊎ ((w : K) × (v ≡ wrap w))

module _ {K : Type 0} (R : K → K → Ordering) (wrap : K → Value) (passes : Value → Bool) (class : IsClass R wrap passes) where
  itself : (w : K) → is_gt (R w w) ≡ false
  itself w = ap is_gt (tied_itself class.order.total w)

  -- what is kept of two, and that neither is below it
  low_of : (l w : K) → (k : K) × (lesser (wrap l) (wrap w) ≡ wrap k) × (is_gt (R k l) ≡ false) × (is_gt (R k w) ≡ false)
  low_of l w =
      let test : stand Less (wrap w) (wrap l) ≡ is_lt (R w l) = stands R wrap class.order Less (wrap w) (wrap l) w l refl refl in
      elim (cases_Bool (is_lt (R w l))) [
        | inl lt ↦ (w, rw (test ∙ lt) refl, below_gt (R w l) lt, itself w)
        | inr ge ↦ (l, rw (test ∙ ge) refl, itself l, back_gt (R w l) (R l w) (class.order.total.antisymm w l) ge)
      ]

  high_of : (g w : K) → (k : K) × (greater (wrap g) (wrap w) ≡ wrap k) × (is_gt (R g k) ≡ false) × (is_gt (R w k) ≡ false)
  high_of g w =
      let test : stand Less (wrap g) (wrap w) ≡ is_lt (R g w) = stands R wrap class.order Less (wrap g) (wrap w) g w refl refl in
      elim (cases_Bool (is_lt (R g w))) [
        | inl lt ↦ (w, rw (test ∙ lt) refl, below_gt (R g w) lt, itself w)
        | inr ge ↦ (g, rw (test ∙ ge) refl, itself g, back_gt (R g w) (R w g) (class.order.total.antisymm g w) ge)
      ]

  -- a value that is null, or between two others
  abbrev Stands : K → K → Value → Type 0
  Stands l g v = (v ≡ Null) ⊎ ((w : K) × (v ≡ wrap w) × (is_gt (R l w) ≡ false) × (is_gt (R w g) ≡ false))

  -- the ends of more values: not above the old ones and not below, and each value is null or stands between them
  record Folded (l g : K) (values : List Value) : Type 0 where
    low : K
    high : K
    are : fold with_value (Some (wrap l, wrap g)) values ≡ Some (wrap low, wrap high)
    down : is_gt (R low l) ≡ false
    up : is_gt (R g high) ≡ false
    each : AllByRecursion (Stands low high) values

  folded : (l g : K) (values : List Value) → list_all passes values ≡ true → Folded l g values
  folded l g [] h = record { low = l; high = g; are = refl; down = itself l; up = itself g; each = tt }
  folded l g (v ∷ values) h =
      let parts = and_parts (passes v) (list_all passes values) h in
      elim (class.view v parts.0) [
        | inl null ↦
            let rest = folded l g values parts.1 in
            record { low = rest.low; high = rest.high; are = ap (λ u. fold with_value (with_value (Some (wrap l, wrap g)) u) values) null ∙ rest.are; down = rest.down; up = rest.up; each = (inl null, rest.each) }
        | inr some ↦
            let w = some.0 in
            let low = low_of l w in
            let high = high_of g w in
            let rest = folded low.0 high.0 values parts.1 in
            let step : with_value (Some (wrap l, wrap g)) v ≡ Some (wrap low.0, wrap high.0) =
            ap (with_value (Some (wrap l, wrap g))) some.1 ∙ class.more (wrap l, wrap g) w
            ∙ ap (λ u. Some (u, greater (wrap g) (wrap w))) low.1 ∙ ap (λ u. Some (wrap low.0, u)) high.1 in
            record {
              low = rest.low;
              high = rest.high;
              are = ap (λ e. fold with_value e values) step ∙ rest.are;
              down = upto class.order.total rest.low low.0 l rest.down low.2;
              up = upto class.order.total g high.0 rest.high high.2 rest.up;
              each = (inr (w, some.1, upto class.order.total rest.low low.0 w rest.down low.3, upto class.order.total w high.0 rest.high high.3 rest.up), rest.each);
            }
      ]

  -- ---- from no value on

  abbrev Seen : Option (Value × Value) → Value → Type 0
  Seen ends v = (v ≡ Null) ⊎ ((w : K) × (v ≡ wrap w) × IsBetween ends (wrap w))

  not_above : (x y : K) → is_gt (R x y) ≡ false → stand LessOrEqual (wrap x) (wrap y) ≡ true
  not_above x y e = stands R wrap class.order LessOrEqual (wrap x) (wrap y) x y refl refl ∙ le_from (R x y) e

  seen_one : (l g : K) (v : Value) → Stands l g v → Seen (Some (wrap l, wrap g)) v
  seen_one l g v (inl null) = inl null
  seen_one l g v (inr some) = inr (some.0, some.1, (not_above l some.0 some.2, not_above some.0 g some.3))

  seen_all : (l g : K) (values : List Value) → AllByRecursion (Stands l g) values → AllByRecursion (Seen (Some (wrap l, wrap g))) values
  seen_all l g [] h = tt
  seen_all l g (v ∷ values) h = (seen_one l g v h.0, seen_all l g values h.1)

  moved : (some other : Option (Value × Value)) → some ≡ other → (values : List Value) → AllByRecursion (Seen some) values → AllByRecursion (Seen other) values
  moved some other e values h = subst (λ ends. AllByRecursion (Seen ends) values) e h

  ended : (values : List Value) → list_all passes values ≡ true → AllByRecursion (Seen (ends_of values)) values
  ended [] h = tt
  ended (v ∷ values) h =
      let parts = and_parts (passes v) (list_all passes values) h in
      elim (class.view v parts.0) [
        | inl null ↦
            let step : ends_of (v ∷ values) ≡ ends_of values = ap (λ u. fold with_value (with_value None u) values) null in
            moved (ends_of values) (ends_of (v ∷ values)) (sym step) (v ∷ values) (inl null, ended values parts.1)
        | inr some ↦
            let w = some.0 in
            let rest = folded w w values parts.1 in
            let step : ends_of (v ∷ values) ≡ Some (wrap rest.low, wrap rest.high) =
            ap (λ u. fold with_value (with_value None u) values) some.1 ∙ ap (λ e. fold with_value e values) (class.first w) ∙ rest.are in
            moved (Some (wrap rest.low, wrap rest.high)) (ends_of (v ∷ values)) (sym step) (v ∷ values)
            (seen_one rest.low rest.high v (inr (w, some.1, rest.down, rest.up)), seen_all rest.low rest.high values rest.each)
      ]

  -- ---- with the nulls

  -- each null of a list is counted
  some_null : (values all : List Value) → length (filter is_null values) < length (filter is_null all) + 1 → 0 < length (filter is_null values) → nat_lt 0 (length (filter is_null all)) ≡ true
  some_null values all few some = lt-ltb 0 (length (filter is_null all)) (omega (arith, few, some))

  fewer : (v : Value) (values : List Value) → length (filter is_null values) < length (filter is_null (v ∷ values)) + 1
  fewer v values = by (is_null v)
    where
      by : (b : Bool) → length (filter is_null values) < length (cond b (v ∷ filter is_null values) (filter is_null values)) + 1
      by true = omega arith
      by false = omega arith

  within_all : (all values : List Value) → length (filter is_null values) < length (filter is_null all) + 1 → AllByRecursion (Seen (ends_of all)) values →
      AllByRecursion (IsWithin (stats_of all)) values
  within_all all [] few h = tt
  within_all all (v ∷ values) few h =
      let less = fewer v values in
      (one v h.0 refl, within_all all values (omega (arith, few, less)) h.1)
    where
      one : (u : Value) → Seen (ends_of all) u → u ≡ v → IsWithin (stats_of all) u
      one u (inl null) e =
          let counted : length (filter is_null (v ∷ values)) ≡ suc (length (filter is_null values)) =
          ap (λ w. length (cond (is_null w) (w ∷ filter is_null values) (filter is_null values))) (sym e ∙ null) in
          subst (IsWithin (stats_of all)) (sym null) (some_null (v ∷ values) all few (omega (arith, counted)))
      one u (inr some) e = subst (IsWithin (stats_of all)) (sym some.1) (class.within (stats_of all) some.0 some.2)

  own_within : (values : List Value) → list_all passes values ≡ true → AllByRecursion (IsWithin (stats_of values)) values
  own_within values h = within_all values values (omega arith) (ended values h)

-- the classes of values, and whether a value is null or of one
data Kind : Type 0 where
  flags : Kind
  numbers : Kind
  texts : Kind

abbrev is_of : Kind → Value → Bool
is_of kind Null = true
is_of flags (Flag value) = true
is_of numbers (Int value) = true
is_of texts (Text value) = true
is_of kind value = false

flag_view : (v : Value) → is_of flags v ≡ true → (v ≡ Null) ⊎ ((w : Bool) × (v ≡ Flag w))
flag_view Null e = inl refl
flag_view (Flag w) e = inr (w, refl)
flag_view (Int w) e = cc
flag_view (Text w) e = cc

number_view : (v : Value) → is_of numbers v ≡ true → (v ≡ Null) ⊎ ((w : ℤ) × (v ≡ Int w))
number_view Null e = inl refl
number_view (Flag w) e = cc
number_view (Int w) e = inr (w, refl)
number_view (Text w) e = cc

text_view : (v : Value) → is_of texts v ≡ true → (v ≡ Null) ⊎ ((w : List ℕ) × (v ≡ Text w))
text_view Null e = inl refl
text_view (Flag w) e = cc
text_view (Int w) e = cc
text_view (Text w) e = inr (w, refl)

flag_class : IsClass bool_cmp Flag (is_of flags)
flag_class = record { order = flag_order; first = λ w. refl; more = λ ends w. refl; within = λ stats w h. h; view = flag_view }

number_class : IsClass int_cmp Int (is_of numbers)
number_class = record { order = number_order; first = λ w. refl; more = λ ends w. refl; within = λ stats w h. h; view = number_view }

text_class : IsClass (slice_cmp nat_cmp) Text (is_of texts)
text_class = record { order = text_order; first = λ w. refl; more = λ ends w. refl; within = λ stats w h. h; view = text_view }

of_class : (kind : Kind) (values : List Value) → list_all (is_of kind) values ≡ true → AllByRecursion (IsWithin (stats_of values)) values
of_class flags values h = own_within bool_cmp Flag (is_of flags) flag_class values h
of_class numbers values h = own_within int_cmp Int (is_of numbers) number_class values h
of_class texts values h = own_within (slice_cmp nat_cmp) Text (is_of texts) text_class values h

-- ---- the values of a type are of one class

abbrev kind_of : DataType → Kind
kind_of (Number number) = numbers
kind_of Utf8 = texts
kind_of Flags = flags
kind_of (Dictionary encoding) = texts

of_kind : (data_type : DataType) (value : Value) → IsValueOf data_type value → is_of (kind_of data_type) value ≡ true
of_kind data_type Null is = refl
of_kind (Number number) (Int n) is = refl
of_kind Flags (Flag flag) is = refl
of_kind Utf8 (Text bytes) is = refl
of_kind (Dictionary encoding) (Text bytes) is = refl
of_kind (Number number) (Flag flag) is = absurd is
of_kind (Number number) (Text bytes) is = absurd is
of_kind Flags (Int number) is = absurd is
of_kind Flags (Text bytes) is = absurd is
of_kind Utf8 (Flag flag) is = absurd is
of_kind Utf8 (Int number) is = absurd is
of_kind (Dictionary encoding) (Flag flag) is = absurd is
of_kind (Dictionary encoding) (Int number) is = absurd is

all_of_kind : (data_type : DataType) (values : List Value) → AllByRecursion (IsValueOf data_type) values → list_all (is_of (kind_of data_type)) values ≡ true
all_of_kind data_type [] h = refl
all_of_kind data_type (value ∷ values) h =
    and_from (is_of (kind_of data_type) value) (list_all (is_of (kind_of data_type)) values) (of_kind data_type value h.0) (all_of_kind data_type values h.1)

pub own_values_are_within : OwnValuesAreWithin
own_values_are_within data_type values typed =
    All-from_recursion (IsWithin (stats_of values)) values
    (of_class (kind_of data_type) values (all_of_kind data_type values (recursion_from_All (IsValueOf data_type) values typed)))
