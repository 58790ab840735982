-- Tallies of the items, one item after another.
use Rattle.std.proofs.Common.{◌≡◌, ◌≢◌, ◌<◌, ℕ, ◌+◌, List, [], length, get_or, slice_set, sym, ap, ◌∙◌, subst, arith, below_more, get_or-set_other, get_or-set_same}
use Rattle.arrays.specs.Column.{ColumnAt}
use Rattle.typed_plan.specs.declared.plan.Aggregate.{Aggregate}
use Rattle.typed_plan.specs.declared.plan.Aggregate.TheVariants.{Key}
use Rattle.group_slots.specs.declared.tally.Tally.{Tally}
use Rattle.group_slots.specs.Counting.{AreWithin}
use Rattle.group_slots.specs.Adding.{IsAdded, AreAdded, IsKept}
use Rattle.group_slots.proofs.Stepping.{stepped_long}

-- one item more
pub step : (items : List Aggregate) (columns : List ColumnAt) (rows groups : List ℕ) (found fed : ℕ) (before after : List (List Tally)) (place : ℕ) (new : List Tally) →
    AreAdded items columns rows groups found fed before after place → place < length after →
    IsAdded (get_or items place (Key 0)) columns rows groups found (get_or after place []) new →
    AreWithin (fed + length rows) new →
    AreAdded items columns rows groups found fed before (slice_set after place new) (place + 1)
step items columns rows groups found fed before after place new so there added within =
    let now = slice_set after place new in
    let here : get_or now place [] ≡ new = get_or-set_same after place new [] there in
    let other : (item : ℕ) → item ≢ place → get_or now item [] ≡ get_or after item [] = λ item differs. get_or-set_other after place item new [] differs in
    record {
      added = below_more (λ item. IsAdded (get_or items item (Key 0)) columns rows groups found (get_or before item []) (get_or now item [])) place
          (λ item low. subst (IsAdded (get_or items item (Key 0)) columns rows groups found (get_or before item [])) (sym (other item (λ (q : item ≡ place). omega arith))) (so.added item low))
          (subst (IsAdded (get_or items place (Key 0)) columns rows groups found (get_or before place [])) (sym here)
          (subst (λ old. IsAdded (get_or items place (Key 0)) columns rows groups found old new) (so.left place (omega arith)) added));
      small = below_more (λ item. AreWithin (fed + length rows) (get_or now item [])) place
          (λ item low. subst (AreWithin (fed + length rows)) (sym (other item (λ (q : item ≡ place). omega arith))) (so.small item low))
          (subst (AreWithin (fed + length rows)) (sym here) within);
      left = λ item high. other item (λ (q : item ≡ place). omega arith) ∙ so.left item (omega arith);
    }

-- the tallies of the next item are as they were
pub item_left : (items : List Aggregate) (old fed place : ℕ) (before after : List (List Tally)) → get_or after place [] ≡ get_or before place [] →
    IsKept items old fed before → place < length items → (length (get_or after place []) ≡ old) × AreWithin fed (get_or after place [])
item_left items old fed place before after same kept low =
    (ap length same ∙ kept.long place low, subst (AreWithin fed) (sym same) (kept.small place low))

-- where all items are done, there is a tally of each item for each group
pub kept_after : (items : List Aggregate) (columns : List ColumnAt) (rows groups : List ℕ) (found fed : ℕ) (before after : List (List Tally)) →
    AreAdded items columns rows groups found fed before after (length items) → length after ≡ length items →
    IsKept items found (fed + length rows) after
kept_after items columns rows groups found fed before after so many = record {
  many = many;
  long = λ item low. let added = so.added item low in
      ap length added.stepped ∙ stepped_long (get_or items item (Key 0)) columns groups rows added.padded (length rows) ∙ added.long;
  small = so.small;
}
