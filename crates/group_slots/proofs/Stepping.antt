-- Tallies as the rows go by.
use Rattle.std.proofs.Common.{◌≡◌, ◌≢◌, ◌≤◌, ◌<◌, ℕ, zero, suc, ◌+◌, Bool, true, false, add-one, add_assoc, inl, inr, List, length, get_or, slice_set, refl, ap, ◌∙◌, arith, get_or-set_other, get_or-set_same, subst, ◌⊎◌}
use Rattle.std.proofs.Math.ListN.{length-set}
use Rattle.std.proofs.lemmas.List.{set-get_or}
use Rattle.std.proofs.lemmas.List.Sums.{get_or-le-sum_by, sum_by-set}
use Rattle.std.specs.Prelude.{nat_eq}
use borrow.Author.Tests.{eqb-true, eqb-false}
use Rattle.arrays.specs.Column.{ColumnAt}
use Rattle.arrays.specs.Batch.{row_of}
use Rattle.typed_plan.specs.declared.plan.Aggregate.{Aggregate}
use Rattle.typed_plan.specs.declared.plan.Aggregate.TheVariants.{Key}
use Rattle.group_slots.specs.declared.tally.Tally.{Tally}
use Rattle.group_slots.specs.Tallies.{no_rows, added}
use Rattle.group_slots.specs.Counting.{AreWithin, IsSmall, stepped}

-- the invariant of the loop over rows
pub record IsStepped (item : Aggregate) (columns : List ColumnAt) (groups rows : List ℕ) (fed : ℕ) (before : List Tally) (k : ℕ) (tallies : List Tally) : Type 0 where
  pub is : tallies ≡ stepped item columns groups rows before k
  pub small : AreWithin (fed + k) tallies
  pub long : length tallies ≡ length before

pub either : (a b : ℕ) → (a ≡ b) ⊎ (a ≢ b)
either a b = by (nat_eq a b) refl
  where
    by : (t : Bool) → nat_eq a b ≡ t → (a ≡ b) ⊎ (a ≢ b)
    by true e = inl (eqb-true a b e)
    by false e = inr (eqb-false a b e)

-- a changed tally that counts some more leaves the tallies within as many more
pub set_within : (most more : ℕ) (tallies : List Tally) (group : ℕ) (new : Tally) → AreWithin most tallies → group < length tallies →
    new.count ≤ (get_or tallies group no_rows).count + more → IsSmall new → AreWithin (most + more) (slice_set tallies group new)
set_within most more tallies group new within there few small = record {
  few = let moved = sum_by-set (λ (tally : Tally). tally.count) tallies group new no_rows there in omega (arith, moved, within.few, few);
  small = λ g low. at g low (either g group);
}
  where
    at : (g : ℕ) → g < length (slice_set tallies group new) → (g ≡ group) ⊎ (g ≢ group) → IsSmall (get_or (slice_set tallies group new) g no_rows)
    at g low (inl same) = rw (same, get_or-set_same) small
    at g low (inr other) = rw get_or-set_other (within.small g (omega (arith, length-set {A = Tally})))

-- no tally counts more than all do
pub one_within : (most : ℕ) (tallies : List Tally) (group : ℕ) (d : Tally) → AreWithin most tallies → group < length tallies → (get_or tallies group d).count ≤ most
one_within most tallies group d within there =
    let one = get_or-le-sum_by (λ (tally : Tally). tally.count) tallies group d there in
    omega (arith, one, within.few)

-- there are as many
pub stepped_long : (item : Aggregate) (columns : List ColumnAt) (groups rows : List ℕ) (tallies : List Tally) (count : ℕ) →
    length (stepped item columns groups rows tallies count) ≡ length tallies
stepped_long item columns groups rows tallies zero = refl
stepped_long item columns groups rows tallies (suc count) =
    length-set _ _ _ ∙ stepped_long item columns groups rows tallies count

-- of a key nothing is kept
pub stepped_key : (place : ℕ) (columns : List ColumnAt) (groups rows : List ℕ) (tallies : List Tally) (count : ℕ) →
    stepped (Key place) columns groups rows tallies count ≡ tallies
stepped_key place columns groups rows tallies zero = refl
stepped_key place columns groups rows tallies (suc count) =
    ap (λ ts. slice_set ts (get_or groups count 0) (get_or ts (get_or groups count 0) no_rows)) (stepped_key place columns groups rows tallies count)
    ∙ set-get_or tallies (get_or groups count 0) no_rows

-- one row more
pub step : (item : Aggregate) (columns : List ColumnAt) (groups rows : List ℕ) (fed : ℕ) (before : List Tally) (k : ℕ) (tallies : List Tally) (new : Tally) →
    IsStepped item columns groups rows fed before k tallies → get_or groups k 0 < length tallies →
    new ≡ added item (get_or tallies (get_or groups k 0) no_rows) (row_of columns (get_or rows k 0)) →
    new.count ≤ (get_or tallies (get_or groups k 0) no_rows).count + 1 → IsSmall new →
    IsStepped item columns groups rows fed before (k + 1) (slice_set tallies (get_or groups k 0) new)
step item columns groups rows fed before k tallies new so there made few small =
    let group = get_or groups k 0 in
    record {
      is = rw (add-one, made) (ap (λ ts. slice_set ts group (added item (get_or ts group no_rows) (row_of columns (get_or rows k 0)))) so.is);
      small = subst (λ n. AreWithin n (slice_set tallies group new)) (add_assoc fed k 1) (set_within (fed + k) 1 tallies group new so.small there few small);
      long = length-set tallies group new ∙ so.long;
    }
