-- Tallies of the items, each with those of others.
use Rattle.std.proofs.Common.{◌≡◌, ◌≢◌, ◌≤◌, ◌<◌, ℕ, ◌+◌, add-one, List, [], length, take, get_or, slice_set, sym, ap, ◌∙◌, subst, arith, below_more, get_or-set_other, get_or-set_same}
use Rattle.std.proofs.Math.ListN.{length-set}
use Rattle.std.proofs.lemmas.List.{get_or-map, length-map}
use Rattle.std.proofs.lemmas.List.Sums.{sum_by_more, sum_by_more_le}
use Rattle.typed_plan.specs.declared.plan.Aggregate.{Aggregate}
use Rattle.group_slots.specs.declared.item_tallies.ItemTallies.{ItemTallies}
use Rattle.group_slots.specs.declared.tally.Tally.{Tally}
use Rattle.group_slots.specs.Tallies.{no_rows, both}
use Rattle.group_slots.specs.Adding.{IsKept, lists_of}
use Rattle.group_slots.specs.Counting.{AreWithin, IsSmall, counted_in}
use Rattle.group_slots.specs.HeldTallies.{tallies_in}
use Rattle.group_slots.proofs.AddingAll.{item_left}
use Rattle.group_slots.proofs.Stepping.{one_within, set_within}
use Rattle.grouping.specs.inside.Merging.{AllJoined, AreTalliesJoined, joined_tallies}
use Rattle.grouping.proofs.JoinedTallies.{joined_long}

-- ---- the tallies of one item

-- the invariant of the loop over other groups
pub record IsJoining (groups : List ℕ) (others before : List Tally) (k : ℕ) (tallies : List Tally) : Type 0 where
  pub is : tallies ≡ joined_tallies groups others before k
  pub small : AreWithin (counted_in before + counted_in (take k others)) tallies
  pub long : length tallies ≡ length before

-- the counts of two tallies are few in all
pub few_both : (groups : List ℕ) (others before : List Tally) (k : ℕ) (tallies : List Tally) (group most : ℕ) (d e : Tally) → IsJoining groups others before k tallies →
    group < length tallies → k < length others → counted_in before + counted_in others ≤ most → (get_or tallies group d).count + (get_or others k e).count ≤ most
few_both groups others before k tallies group most d e so there low few =
    let one = one_within (counted_in before + counted_in (take k others)) tallies group d so.small there in
    let more = sum_by_more_le (λ (tally : Tally). tally.count) others k e low in
    omega (arith, one, more, few)

-- one group more
pub step : (groups : List ℕ) (others before : List Tally) (k : ℕ) (tallies : List Tally) (new : Tally) → IsJoining groups others before k tallies →
    k < length others → get_or groups k 0 < length tallies → new ≡ both (get_or tallies (get_or groups k 0) no_rows) (get_or others k no_rows) → IsSmall new →
    IsJoining groups others before (k + 1) (slice_set tallies (get_or groups k 0) new)
step groups others before k tallies new so low there made small =
    let group = get_or groups k 0 in
    let old = get_or tallies group no_rows in
    let more = (get_or others k no_rows).count in
    let counts : new.count ≤ old.count + more = omega (arith, ap (λ (tally : Tally). tally.count) made) in
    let all : (counted_in before + counted_in (take k others)) + more ≡ counted_in before + counted_in (take (k + 1) others) =
    omega (arith, sum_by_more (λ (tally : Tally). tally.count) others k no_rows low) in
    record {
      is = rw (add-one, made) (ap (λ (tallies : List Tally). slice_set tallies group (both (get_or tallies group no_rows) (get_or others k no_rows))) so.is);
      small = subst (λ (most : ℕ). AreWithin most (slice_set tallies group new)) all
          (set_within (counted_in before + counted_in (take k others)) more tallies group new so.small there counts small);
      long = length-set tallies group new ∙ so.long;
    }

-- ---- the tallies of all items

pub within_more : (few most : ℕ) (tallies : List Tally) → few ≤ most → AreWithin few tallies → AreWithin most tallies
within_more few most tallies low within = record { few = omega (arith, low, within.few); small = within.small }

-- tallies are within what they count
pub within_own : (most : ℕ) (tallies : List Tally) → AreWithin most tallies → AreWithin (counted_in tallies) tallies
within_own most tallies within = record { few = omega arith; small = within.small }

-- the tallies of an item, and the others of it
pub record IsItem (old fed many more place : ℕ) (tallies others : List ItemTallies) (own other : List Tally) : Type 0 where
  pub same : get_or (lists_of tallies) place [] ≡ own
  pub long : length own ≡ old
  pub small : AreWithin fed own
  pub same_others : get_or (lists_of others) place [] ≡ other
  pub long_others : length other ≡ many
  pub small_others : AreWithin more other

pub item_at : (items : List Aggregate) (place old fed many more : ℕ) (d e : ItemTallies) (start tallies others : List ItemTallies) → place < length items →
    get_or (lists_of tallies) place [] ≡ get_or (lists_of start) place [] → length tallies ≡ length start →
    IsKept items old fed (lists_of start) → IsKept items many more (lists_of others) →
    IsItem old fed many more place tallies others (tallies_in (get_or tallies place d)) (tallies_in (get_or others place e))
item_at items place old fed many more d e start tallies others low left same kept other =
    let there : place < length tallies = let all = kept.many in omega (arith, all, low, same, length-map start tallies_in) in
    let there_too : place < length others = let all = other.many in omega (arith, all, low, length-map others tallies_in) in
    let is = get_or-map tallies_in tallies place d [] there in
    let is_other = get_or-map tallies_in others place e [] there_too in
    let at = item_left items old fed place (lists_of start) (lists_of tallies) left kept low in
    record {
      same = is;
      long = ap length (sym is) ∙ at.0;
      small = subst (AreWithin fed) is at.1;
      same_others = is_other;
      long_others = ap length (sym is_other) ∙ other.long place low;
      small_others = subst (AreWithin more) is_other (other.small place low);
    }

-- one item more
pub more : (groups : List ℕ) (others : List (List Tally)) (found most : ℕ) (before after : List (List Tally)) (place : ℕ) (new : List Tally) →
    AllJoined groups others found most before after place → place < length after →
    AreTalliesJoined groups (get_or others place []) found (get_or after place []) new → AreWithin most new →
    AllJoined groups others found most before (slice_set after place new) (place + 1)
more groups others found most before after place new so there joins within =
    let now = slice_set after place new in
    let here : get_or now place [] ≡ new = get_or-set_same after place new [] there in
    let other : (item : ℕ) → item ≢ place → get_or now item [] ≡ get_or after item [] = λ item differs. get_or-set_other after place item new [] differs in
    record {
      joined = below_more (λ item. AreTalliesJoined groups (get_or others item []) found (get_or before item []) (get_or now item [])) place
          (λ item low. subst (AreTalliesJoined groups (get_or others item []) found (get_or before item [])) (sym (other item (λ (q : item ≡ place). omega arith))) (so.joined item low))
          (subst (AreTalliesJoined groups (get_or others place []) found (get_or before place [])) (sym here)
          (subst (λ old. AreTalliesJoined groups (get_or others place []) found old new) (so.left place (omega arith)) joins));
      small = below_more (λ item. AreWithin most (get_or now item [])) place
          (λ item low. subst (AreWithin most) (sym (other item (λ (q : item ≡ place). omega arith))) (so.small item low))
          (subst (AreWithin most) (sym here) within);
      left = λ item high. other item (λ (q : item ≡ place). omega arith) ∙ so.left item (omega arith);
    }

-- where all items are done, there is a tally of each item for each group
pub kept_after : (items : List Aggregate) (groups : List ℕ) (others : List (List Tally)) (found most : ℕ) (before after : List (List Tally)) →
    AllJoined groups others found most before after (length items) → length after ≡ length items → IsKept items found most after
kept_after items groups others found most before after so many = record {
  many = many;
  long = λ item low. let one = so.joined item low in
      ap length one.is ∙ joined_long groups (get_or others item []) one.padded (length groups) ∙ one.long;
  small = so.small;
}
