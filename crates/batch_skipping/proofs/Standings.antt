-- The possible truths of comparisons of texts with one text.
use Rattle.std.proofs.Common.{◌≡◌, ℕ, Bool, true, false, not, ◌&&◌, ◌||◌, List, Some, nat_cmp, nat_lt, refl, sym, ap, ◌∙◌}
use Rattle.std.proofs.lemmas.Cmp.{alike_right, nat_list_cmp_total, tied_itself}
use Rattle.std.specs.Cmp.Lexicographic.{slice_cmp}
use Rattle.std.specs.Ordering.{is_eq, is_ge, is_gt, is_le, is_lt, is_ne, ordering_reverse}
use Rattle.std.specs.declared.cmp.Ordering.{Ordering}
use Rattle.std.specs.declared.cmp.Ordering.TheVariants as ordering
use Rattle.scan_base.specs.Comparison.{satisfies}
use Rattle.scan_base.specs.declared.comparison.Comparison.{Comparison}
use Rattle.scan_base.specs.declared.comparison.Comparison.TheVariants.{Equal, Less, LessOrEqual, GreaterOrEqual}
use Rattle.scan_base.specs.declared.value.Value.{Value}
use Rattle.scan_base.specs.declared.value.Value.TheVariants.{Text}
use Rattle.batch_skipping.specs.declared.possible_truths.PossibleTruths.{PossibleTruths}
use Rattle.batch_skipping.specs.declared.text_standing.TextStanding.{TextStanding}
use Rattle.batch_skipping.specs.PredicateTruths.{between_sides, equal_between, less_between, of_sides}
use Rattle.batch_skipping.specs.inside.TextStanding.{StandSo}
use Rattle.batch_stats.specs.Stats.{StatsAt, stand, has_nulls}
use Rattle.batch_skipping.proofs.Compared.{stands, text_order}

-- ---- orders the other way round

le_back : (o : Ordering) → is_le (ordering_reverse o) ≡ is_ge o
le_back ordering.Less = refl
le_back ordering.Equal = refl
le_back ordering.Greater = refl

ge_back : (o : Ordering) → is_ge (ordering_reverse o) ≡ is_le o
ge_back ordering.Less = refl
ge_back ordering.Equal = refl
ge_back ordering.Greater = refl

lt_back : (o : Ordering) → is_lt (ordering_reverse o) ≡ is_gt o
lt_back ordering.Less = refl
lt_back ordering.Equal = refl
lt_back ordering.Greater = refl

eq_back : (o : Ordering) → is_eq (ordering_reverse o) ≡ is_eq o
eq_back ordering.Less = refl
eq_back ordering.Equal = refl
eq_back ordering.Greater = refl

-- ---- how texts stand

text_stands : (comparison : Comparison) (x y : List ℕ) → stand comparison (Text x) (Text y) ≡ satisfies comparison (slice_cmp nat_cmp x y)
text_stands comparison x y = stands (slice_cmp nat_cmp) Text text_order comparison (Text x) (Text y) x y refl refl

-- all are one text where both ends are the other text
one_text : (o p : Ordering) (same : Bool) → (o ≡ ordering.Equal → same ≡ is_eq p) → not (same && (true && is_eq o)) ≡ (is_ne o || is_ne p)
one_text ordering.Less p true h = refl
one_text ordering.Less p false h = refl
one_text ordering.Greater p true h = refl
one_text ordering.Greater p false h = refl
one_text ordering.Equal ordering.Less same h = ap (λ b. not (b && true)) (h refl)
one_text ordering.Equal ordering.Equal same h = ap (λ b. not (b && true)) (h refl)
one_text ordering.Equal ordering.Greater same h = ap (λ b. not (b && true)) (h refl)

both_turned : (a b : Bool) → (a && b) ≡ (b && a)
both_turned true true = refl
both_turned true false = refl
both_turned false true = refl
both_turned false false = refl

module _ (least greatest text : List ℕ) where
  abbrev low : Ordering
  low = slice_cmp nat_cmp least text

  abbrev high : Ordering
  high = slice_cmp nat_cmp greatest text

  abbrev ends : Value × Value
  ends = (Text least, Text greatest)

  abbrev alone : Value × Value
  alone = (Text text, Text text)

  same_ends : low ≡ ordering.Equal → is_eq (slice_cmp nat_cmp least greatest) ≡ is_eq high
  same_ends e =
      ap is_eq (nat_list_cmp_total.antisymm least greatest) ∙ eq_back (slice_cmp nat_cmp greatest least)
      ∙ ap is_eq (alike_right nat_list_cmp_total least text greatest e)

  may_equal : (equal_between ends alone).0 ≡ (is_le low && is_ge high)
  may_equal =
      ap (λ b. b && stand LessOrEqual (Text text) (Text greatest)) (text_stands LessOrEqual least text)
      ∙ ap (λ b. is_le low && b)
      (text_stands LessOrEqual text greatest ∙ ap is_le (nat_list_cmp_total.antisymm text greatest) ∙ le_back high)

  may_differ : (equal_between ends alone).1 ≡ (is_ne low || is_ne high)
  may_differ =
      ap (λ b. not (b && (stand Equal (Text text) (Text text) && stand Equal (Text least) (Text text)))) (text_stands Equal least greatest)
      ∙ ap (λ b. not (is_eq (slice_cmp nat_cmp least greatest) && (b && stand Equal (Text least) (Text text))))
      (text_stands Equal text text ∙ ap is_eq (tied_itself nat_list_cmp_total text))
      ∙ ap (λ b. not (is_eq (slice_cmp nat_cmp least greatest) && (true && b))) (text_stands Equal least text)
      ∙ one_text low high (is_eq (slice_cmp nat_cmp least greatest)) same_ends

  -- the same with the one text in front
  may_equal_turned : (equal_between alone ends).0 ≡ (is_le low && is_ge high)
  may_equal_turned =
      ap (λ b. b && stand LessOrEqual (Text least) (Text text))
      (text_stands LessOrEqual text greatest ∙ ap is_le (nat_list_cmp_total.antisymm text greatest) ∙ le_back high)
      ∙ ap (λ b. is_ge high && b) (text_stands LessOrEqual least text) ∙ both_turned (is_ge high) (is_le low)

  may_differ_turned : (equal_between alone ends).1 ≡ (is_ne low || is_ne high)
  may_differ_turned =
      ap (λ b. not (b && (stand Equal (Text least) (Text greatest) && stand Equal (Text text) (Text least))))
      (text_stands Equal text text ∙ ap is_eq (tied_itself nat_list_cmp_total text))
      ∙ ap (λ b. not (true && (b && stand Equal (Text text) (Text least)))) (text_stands Equal least greatest)
      ∙ ap (λ b. not (true && (is_eq (slice_cmp nat_cmp least greatest) && b)))
      (text_stands Equal text least ∙ ap is_eq (nat_list_cmp_total.antisymm text least) ∙ eq_back low)
      ∙ one_text low high (is_eq (slice_cmp nat_cmp least greatest)) same_ends

  may_be_greater : (less_between alone ends).0 ≡ is_gt high
  may_be_greater = text_stands Less text greatest ∙ ap is_lt (nat_list_cmp_total.antisymm text greatest) ∙ lt_back high

  may_be_reached : (less_between alone ends).1 ≡ is_le low
  may_be_reached = text_stands GreaterOrEqual text least ∙ ap is_ge (nat_list_cmp_total.antisymm text least) ∙ ge_back low

-- ---- the possible truths

abbrev pub possibly : Bool → Bool → Bool → PossibleTruths
possibly can_true can_false can_unknown = record { can_true = can_true; can_false = can_false; can_unknown = can_unknown }

or_false : (b : Bool) → (b || false) ≡ b
or_false true = refl
or_false false = refl

pub same_three : (a b c x y z : Bool) → a ≡ x → b ≡ y → c ≡ z → possibly a b c ≡ possibly x y z
same_three a b c x y z e f g = ap (λ p. possibly p b c) e ∙ ap (λ p. possibly x p c) f ∙ ap (λ p. possibly x y p) g

module _ (standing : TextStanding) (a b : StatsAt) (so : StandSo standing a b) where
  -- a test of the texts and the one text
  left : (test : Value × Value → Value × Value → Bool × Bool) (can_true can_false : Bool) →
      (test (Text so.least, Text so.greatest) (Text so.text, Text so.text)).0 ≡ can_true →
      (test (Text so.least, Text so.greatest) (Text so.text, Text so.text)).1 ≡ can_false →
      possibly can_true can_false (nat_lt 0 standing.nulls) ≡ of_sides test a b
  left test can_true can_false e f =
      let between : Value × Value = (Text so.least, Text so.greatest) in
      let one : Value × Value = (Text so.text, Text so.text) in
      sym (ap (λ (other : StatsAt). of_sides test a other) so.alone
      ∙ ap (λ some. between_sides test (has_nulls a || false) some (Some one)) so.ends
      ∙ same_three (test between one).0 (test between one).1 (has_nulls a || false) can_true can_false (nat_lt 0 standing.nulls) e f
      (or_false (has_nulls a) ∙ ap (nat_lt 0) so.nulls))

  -- and one of the one text and the texts
  right : (test : Value × Value → Value × Value → Bool × Bool) (can_true can_false : Bool) →
      (test (Text so.text, Text so.text) (Text so.least, Text so.greatest)).0 ≡ can_true →
      (test (Text so.text, Text so.text) (Text so.least, Text so.greatest)).1 ≡ can_false →
      possibly can_true can_false (nat_lt 0 standing.nulls) ≡ of_sides test b a
  right test can_true can_false e f =
      let between : Value × Value = (Text so.least, Text so.greatest) in
      let one : Value × Value = (Text so.text, Text so.text) in
      sym (ap (λ (other : StatsAt). of_sides test other a) so.alone
      ∙ ap (λ some. between_sides test (has_nulls a) (Some one) some) so.ends
      ∙ same_three (test one between).0 (test one between).1 (has_nulls a) can_true can_false (nat_lt 0 standing.nulls) e f
      (ap (nat_lt 0) so.nulls))

  pub equal_so : possibly (is_le standing.least && is_ge standing.greatest) (is_ne standing.least || is_ne standing.greatest) (nat_lt 0 standing.nulls) ≡ of_sides equal_between a b
  equal_so =
      left equal_between (is_le standing.least && is_ge standing.greatest) (is_ne standing.least || is_ne standing.greatest)
      (may_equal so.least so.greatest so.text
      ∙ ap (λ o. is_le o && is_ge (slice_cmp nat_cmp so.greatest so.text)) (sym so.low) ∙ ap (λ o. is_le standing.least && is_ge o) (sym so.high))
      (may_differ so.least so.greatest so.text
      ∙ ap (λ o. is_ne o || is_ne (slice_cmp nat_cmp so.greatest so.text)) (sym so.low) ∙ ap (λ o. is_ne standing.least || is_ne o) (sym so.high))

  pub greater_so : possibly (is_gt standing.greatest) (is_le standing.least) (nat_lt 0 standing.nulls) ≡ of_sides less_between b a
  greater_so =
      right less_between (is_gt standing.greatest) (is_le standing.least)
      (may_be_greater so.least so.greatest so.text ∙ ap is_gt (sym so.high)) (may_be_reached so.least so.greatest so.text ∙ ap is_le (sym so.low))

  equal_back : possibly (is_le standing.least && is_ge standing.greatest) (is_ne standing.least || is_ne standing.greatest) (nat_lt 0 standing.nulls) ≡ of_sides equal_between b a
  equal_back =
      right equal_between (is_le standing.least && is_ge standing.greatest) (is_ne standing.least || is_ne standing.greatest)
      (may_equal_turned so.least so.greatest so.text
      ∙ ap (λ o. is_le o && is_ge (slice_cmp nat_cmp so.greatest so.text)) (sym so.low) ∙ ap (λ o. is_le standing.least && is_ge o) (sym so.high))
      (may_differ_turned so.least so.greatest so.text
      ∙ ap (λ o. is_ne o || is_ne (slice_cmp nat_cmp so.greatest so.text)) (sym so.low) ∙ ap (λ o. is_ne standing.least || is_ne o) (sym so.high))

  -- `=` is the same the other way round
  pub equal_turned : of_sides equal_between a b ≡ of_sides equal_between b a
  equal_turned = sym equal_so ∙ equal_back
