-- Tallies of pieces that are added to those of groups.
use Rattle.std.proofs.Common.{◌≡◌, ◌≢◌, ◌≤◌, ◌<◌, ℕ, ℤ, zero, suc, ◌+◌, pos, Bool, All, FitsSigned, ◌+ℤ◌, ◌&&◌, true, false, not, List, [], ◌∷◌, length, get_or, slice_set, refl, sym, ap, ◌∙◌, subst, arith, rules, below_more, ◌⊎◌, inl, inr, get_or-set_other, get_or-set_same}
use Rattle.std.specs.Int.{w64, int_wrapping_add}
use Rattle.std.specs.Bool.{FalseIff}
use Rattle.std.proofs.lemmas.Bool.{and_parts}
use Rattle.std.proofs.lemmas.Int.{ints, int_wrap_fits, wrapping_add_is}
use Rattle.std.proofs.Math.ListN.{length-set}
use Rattle.std.proofs.lemmas.List.{ext_get_or, get_or-map, length-map, map-set}
use Rattle.std.proofs.lemmas.List.Elements.{All-get_or}
use Rattle.std.proofs.lemmas.List.Sums.{get_or-le-sum_by, sum_by-cons, sum_by-set}
use Rattle.scan_base.specs.Predicate.{cell_in}
use Rattle.arrays.specs.Batch.{row_of}
use Rattle.arrays.specs.Column.{ColumnAt}
use Rattle.typed_plan.specs.declared.plan.Aggregate.{Aggregate}
use Rattle.typed_plan.specs.declared.plan.Aggregate.TheVariants.{Sum}
use Rattle.group_slots.specs.declared.partial_sums.PartialSum.{PartialSum}
use Rattle.group_slots.specs.declared.slots.IntegerSlots.{IntegerSlots}
use Rattle.group_slots.specs.declared.tally.Tally.{Tally}
use Rattle.group_slots.specs.Tallies.{no_rows, added, both, summed}
use Rattle.group_slots.specs.Counting.{AreWithin, IsSmall, counted_in, stepped}
use Rattle.group_slots.specs.Pieces.{AreBoth, piece_tally, tallies_of}
use Rattle.group_slots.specs.Slots.{number_or_null, slot_cell, slot_is_valid, slot_number}
use Rattle.group_slots.proofs.Both.{added_both, both_assoc, both_none}
use Rattle.group_slots.proofs.Stepping.{stepped_long, IsStepped, either, step}
use Rattle.group_slots.proofs.Slotted.{small_after, summed_cell}

counted_more : (tally : Tally) (tallies : List Tally) → counted_in (tally ∷ tallies) ≡ tally.count + counted_in tallies
counted_more tally tallies = sum_by-cons (λ (tally : Tally). tally.count) tally tallies

-- ---- pieces of no rows

-- each is of no rows
pub blank_each : (pieces : List PartialSum) → All (λ (piece : PartialSum). piece_tally piece ≡ no_rows) pieces → (g : ℕ) → g < length pieces → get_or (tallies_of pieces) g no_rows ≡ no_rows
blank_each pieces blank g low =
    let none : PartialSum = record { count = 0; sum = pos 0 } in
    get_or-map piece_tally pieces g none no_rows low ∙ All-get_or (λ (piece : PartialSum). piece_tally piece ≡ no_rows) pieces g none low blank

blank_few : (pieces : List PartialSum) → All (λ (piece : PartialSum). piece_tally piece ≡ no_rows) pieces → counted_in (tallies_of pieces) ≤ 0
blank_few [] blank = omega arith
blank_few (piece ∷ pieces) blank =
    let first : piece_tally piece ≡ no_rows = blank 0 piece (omega arith) in
    let rest : counted_in (tallies_of pieces) ≤ 0 = blank_few pieces (λ k d low. blank (suc k) d (omega (arith, low))) in
    omega (arith, rest, counted_more (piece_tally piece) (tallies_of pieces), ap (λ (tally : Tally). tally.count) first)

none_small : IsSmall no_rows
none_small = record { low = omega (arith, ints); high = omega (arith, ints) }

-- pieces of no rows count none
pub blank_within : (pieces : List PartialSum) → All (λ (piece : PartialSum). piece_tally piece ≡ no_rows) pieces → AreWithin 0 (tallies_of pieces)
blank_within pieces blank = record {
  few = blank_few pieces blank;
  small = λ g low. subst IsSmall (sym (blank_each pieces blank g (omega (arith, low, length-map pieces piece_tally)))) none_small;
}

-- ---- a row more

-- no piece counts more than all do
pub piece_few : (pieces : List PartialSum) (group : ℕ) (d : PartialSum) → group < length pieces → (get_or pieces group d).count ≤ counted_in (tallies_of pieces)
piece_few pieces group d there =
    let one = get_or-le-sum_by (λ (tally : Tally). tally.count) (tallies_of pieces) group no_rows (omega (arith, there, length-map pieces piece_tally)) in
    omega (arith, one, ap (λ (tally : Tally). tally.count) (get_or-map piece_tally pieces group d no_rows there))

-- a row more is added to its piece
fill : (column : ℕ) (columns : List ColumnAt) (groups rows : List ℕ) (before : List Tally) (k : ℕ) (pieces : List PartialSum) (d piece : PartialSum) (slots : IntegerSlots) (valid : Bool) (number : ℤ) →
    IsStepped (Sum column) columns groups rows 0 before k (tallies_of pieces) → get_or groups k 0 < length pieces → FitsSigned w64 number →
    valid ≡ slot_is_valid slots (get_or rows k 0) → number ≡ slot_number slots (get_or rows k 0) →
    cell_in (row_of columns (get_or rows k 0)) column ≡ slot_cell slots (get_or rows k 0) →
    piece_tally piece ≡ summed (piece_tally (get_or pieces (get_or groups k 0) d)) (number_or_null valid number) →
    piece.count ≤ (get_or pieces (get_or groups k 0) d).count + 1 →
    IsStepped (Sum column) columns groups rows 0 before (k + 1) (tallies_of (slice_set pieces (get_or groups k 0) piece))
fill column columns groups rows before k pieces d piece slots valid number so there fits is_valid is_number is made few =
    let group = get_or groups k 0 in
    let row = get_or rows k 0 in
    let tallies = tallies_of pieces in
    let old = get_or tallies group no_rows in
    let inside : group < length tallies = omega (arith, there, length-map pieces piece_tally) in
    let same : old ≡ piece_tally (get_or pieces group d) = get_or-map piece_tally pieces group d no_rows there in
    let now : piece_tally piece ≡ summed old (number_or_null valid number) = made ∙ ap (λ (tally : Tally). summed tally (number_or_null valid number)) (sym same) in
    let fewer : piece.count ≤ old.count + 1 = omega (arith, few, ap (λ (tally : Tally). tally.count) same) in
    rw map-set
    (step (Sum column) columns groups rows 0 before k tallies (piece_tally piece) so inside
    (summed_cell old (piece_tally piece) slots row (cell_in (row_of columns row) column) valid number now is_valid is_number is)
    fewer (small_after old (piece_tally piece) valid number fits (so.small.small group inside) now))

-- ---- the pieces of all rows

-- rows that are added to tallies add what they add to none
stepped_both : (item : Aggregate) (columns : List ColumnAt) (groups rows : List ℕ) (tallies blank : List Tally) (count : ℕ) →
    length blank ≡ length tallies → All (λ group. group < length tallies) groups → count ≤ length groups →
    ((g : ℕ) → g < length tallies → get_or blank g no_rows ≡ no_rows) → (g : ℕ) → g < length tallies →
    get_or (stepped item columns groups rows tallies count) g no_rows
    ≡ both (get_or tallies g no_rows) (get_or (stepped item columns groups rows blank count) g no_rows)
stepped_both item columns groups rows tallies blank zero long there low none g below =
    sym (ap (both (get_or tallies g no_rows)) (none g below) ∙ both_none (get_or tallies g no_rows))
stepped_both item columns groups rows tallies blank (suc count) long there low none g below =
    by (stepped_both item columns groups rows tallies blank count long there (omega (arith, low)) none) (either g (get_or groups count 0))
  where
    before : List Tally
    before = stepped item columns groups rows tallies count

    fresh : List Tally
    fresh = stepped item columns groups rows blank count

    group : ℕ
    group = get_or groups count 0

    here : group < length tallies
    here = All-get_or (λ group. group < length tallies) groups count 0 (omega (arith, low)) there

    inside : group < length before
    inside = omega (arith, here, stepped_long item columns groups rows tallies count)

    inside_too : group < length fresh
    inside_too = omega (arith, here, stepped_long item columns groups rows blank count, long)

    by : ((g : ℕ) → g < length tallies → get_or before g no_rows ≡ both (get_or tallies g no_rows) (get_or fresh g no_rows)) → (g ≡ group) ⊎ (g ≢ group) →
        get_or (stepped item columns groups rows tallies (suc count)) g no_rows
        ≡ both (get_or tallies g no_rows) (get_or (stepped item columns groups rows blank (suc count)) g no_rows)
    by so (inl same) =
        let row = row_of columns (get_or rows count 0) in
        let start = get_or tallies group no_rows in
        let mine = get_or fresh group no_rows in
        subst (λ (place : ℕ). get_or (stepped item columns groups rows tallies (suc count)) place no_rows
        ≡ both (get_or tallies place no_rows) (get_or (stepped item columns groups rows blank (suc count)) place no_rows)) (sym same)
        (get_or-set_same before group (added item (get_or before group no_rows) row) no_rows inside
        ∙ ap (λ (tally : Tally). added item tally row) (so group here)
        ∙ added_both item (both start mine) row
        ∙ both_assoc start mine (added item no_rows row)
        ∙ ap (both start) (sym (added_both item mine row))
        ∙ ap (both start) (sym (get_or-set_same fresh group (added item (get_or fresh group no_rows) row) no_rows inside_too)))
    by so (inr other) =
        get_or-set_other before group g (added item (get_or before group no_rows) (row_of columns (get_or rows count 0))) no_rows other
        ∙ so g below
        ∙ ap (both (get_or tallies g no_rows)) (sym (get_or-set_other fresh group g (added item (get_or fresh group no_rows) (row_of columns (get_or rows count 0))) no_rows other))

-- tallies with those of rows are the tallies after the rows
pub sums_joined : (item : Aggregate) (columns : List ColumnAt) (groups rows : List ℕ) (tallies blank others after : List Tally) (count : ℕ) →
    length blank ≡ length tallies → All (λ group. group < length tallies) groups → count ≤ length groups →
    ((g : ℕ) → g < length tallies → get_or blank g no_rows ≡ no_rows) →
    others ≡ stepped item columns groups rows blank count → AreBoth tallies others after → after ≡ stepped item columns groups rows tallies count
sums_joined item columns groups rows tallies blank others after count long there low none filled are =
    ext_get_or no_rows after (stepped item columns groups rows tallies count)
    (are.long ∙ sym (stepped_long item columns groups rows tallies count))
    (λ g below.
    let inside : g < length tallies = omega (arith, below, are.long) in
    are.each g inside
    ∙ ap (λ (list : List Tally). both (get_or tallies g no_rows) (get_or list g no_rows)) filled
    ∙ sym (stepped_both item columns groups rows tallies blank count long there low none g inside))

counted_both : (before others after : List Tally) → length others ≡ length before → AreBoth before others after → counted_in after ≡ counted_in before + counted_in others
counted_both [] [] [] long are = refl
counted_both [] [] (z ∷ zs) long are = absurd (omega (arith, are.long))
counted_both [] (y ∷ ys) after long are = absurd (omega (arith, long))
counted_both (x ∷ xs) [] after long are = absurd (omega (arith, long))
counted_both (x ∷ xs) (y ∷ ys) [] long are = absurd (omega (arith, are.long))
counted_both (x ∷ xs) (y ∷ ys) (z ∷ zs) long are =
    let first : z ≡ both x y = are.each 0 (omega arith) in
    let rest = counted_both xs ys zs (omega (arith, long)) (record { long = omega (arith, are.long); each = λ g low. are.each (suc g) (omega (arith, low)) }) in
    omega (arith, rest, counted_more x xs, counted_more y ys, counted_more z zs, ap (λ (tally : Tally). tally.count) first)

small_both : (a b : Tally) → IsSmall a → IsSmall b → IsSmall (both a b)
small_both a b small other = record {
  low = omega (arith, ints, small.low, other.low);
  high = omega (arith, ints, small.high, other.high);
}

-- tallies with others are within as many more
pub both_within : (most more : ℕ) (before others after : List Tally) → length others ≡ length before → AreWithin most before → AreWithin more others →
    AreBoth before others after → AreWithin (most + more) after
both_within most more before others after long within other are = record {
  few = omega (arith, counted_both before others after long are, within.few, other.few);
  small = λ g low.
      let inside : g < length before = omega (arith, low, are.long) in
      subst IsSmall (sym (are.each g inside)) (small_both _ _ (within.small g inside) (other.small g (omega (arith, inside, long))));
}

-- ---- pieces that are joined, one by one

-- the others are added before a place, and from there on the tallies are as they were
pub record AreDone (before others : List Tally) (place : ℕ) (after : List Tally) : Type 0 where
  pub long : length after ≡ length before
  pub done : (group : ℕ) → group < place → get_or after group no_rows ≡ both (get_or before group no_rows) (get_or others group no_rows)
  pub left : (group : ℕ) → place ≤ group → get_or after group no_rows ≡ get_or before group no_rows

-- one more
pub done_more : (before others : List Tally) (place : ℕ) (after : List Tally) (new : Tally) → AreDone before others place after → place < length before →
    new ≡ both (get_or after place no_rows) (get_or others place no_rows) → AreDone before others (place + 1) (slice_set after place new)
done_more before others place after new so there is =
    let inside : place < length after = omega (arith, there, so.long) in
    record {
      long = length-set after place new ∙ so.long;
      done = below_more (λ group. get_or (slice_set after place new) group no_rows ≡ both (get_or before group no_rows) (get_or others group no_rows)) place
          (λ group low. get_or-set_other after place group new no_rows (λ (q : group ≡ place). omega arith) ∙ so.done group low)
          (get_or-set_same after place new no_rows inside ∙ is ∙ ap (λ (tally : Tally). both tally (get_or others place no_rows)) (so.left place (omega arith)));
      left = λ group high. get_or-set_other after place group new no_rows (λ (q : group ≡ place). omega arith) ∙ so.left group (omega arith);
    }

-- a tally and the other at its place count no more than all do
pub few_done : (before others after : List Tally) (place most : ℕ) → AreDone before others place after → place < length before → length others ≡ length before →
    counted_in before + counted_in others ≤ most → (get_or after place no_rows).count + (get_or others place no_rows).count ≤ most
few_done before others after place most so there long few =
    let mine = get_or-le-sum_by (λ (tally : Tally). tally.count) before place no_rows there in
    let other = get_or-le-sum_by (λ (tally : Tally). tally.count) others place no_rows (omega (arith, there, long)) in
    omega (arith, few, mine, other, ap (λ (tally : Tally). tally.count) (so.left place (omega arith)))

-- ---- sums that 64 bits may hold

-- the sum, where 64 bits hold it
pub sum_held : (a b sum : ℤ) (over : Bool) → FitsSigned w64 a → FitsSigned w64 b → sum ≡ int_wrapping_add w64 a b → FalseIff over (FitsSigned w64 (a +ℤ b)) →
    not over ≡ true → sum ≡ a +ℤ b
sum_held a b sum true fits_a fits_b is held holds = cc
sum_held a b sum false fits_a fits_b is held holds = is ∙ wrapping_add_is w64 a b fits_a fits_b ∙ int_wrap_fits w64 (a +ℤ b) (search rules)

-- what the pieces count, and the tallies that they are where 64 bits held each sum
pub record AreFilled (item : Aggregate) (columns : List ColumnAt) (groups rows : List ℕ) (before : List PartialSum) (k : ℕ) (pieces : List PartialSum) (holds : Bool) : Type 0 where
  pub few : counted_in (tallies_of pieces) ≤ k
  pub long : length pieces ≡ length before
  pub stepped : holds ≡ true → IsStepped item columns groups rows 0 (tallies_of before) k (tallies_of pieces)

-- a row more
pub fill_more : (column : ℕ) (columns : List ColumnAt) (groups rows : List ℕ) (before : List PartialSum) (k : ℕ) (pieces : List PartialSum) (d piece : PartialSum) (slots : IntegerSlots)
    (valid : Bool) (number : ℤ) (holds fit : Bool) →
    AreFilled (Sum column) columns groups rows before k pieces holds → get_or groups k 0 < length pieces → FitsSigned w64 number →
    valid ≡ slot_is_valid slots (get_or rows k 0) → number ≡ slot_number slots (get_or rows k 0) →
    cell_in (row_of columns (get_or rows k 0)) column ≡ slot_cell slots (get_or rows k 0) →
    (fit ≡ true → piece_tally piece ≡ summed (piece_tally (get_or pieces (get_or groups k 0) d)) (number_or_null valid number)) →
    piece.count ≤ (get_or pieces (get_or groups k 0) d).count + 1 →
    AreFilled (Sum column) columns groups rows before (k + 1) (slice_set pieces (get_or groups k 0) piece) (holds && fit)
fill_more column columns groups rows before k pieces d piece slots valid number holds fit so there fits is_valid is_number is made few =
    let group = get_or groups k 0 in
    let tallies = tallies_of pieces in
    let inside : group < length tallies = omega (arith, there, length-map pieces piece_tally) in
    let same = ap (λ (tally : Tally). tally.count) (get_or-map piece_tally pieces group d no_rows there) in
    let moved = sum_by-set (λ (tally : Tally). tally.count) tallies group (piece_tally piece) no_rows inside in
    record {
      few = rw map-set (omega (arith, moved, same, few, so.few));
      long = length-set pieces group piece ∙ so.long;
      stepped = λ both.
          let parts = and_parts holds fit both in
          fill column columns groups rows (tallies_of before) k pieces d piece slots valid number (so.stepped parts.0) there fits is_valid is_number is (made parts.1) few;
    }
