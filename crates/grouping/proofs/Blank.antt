-- Groups before any row.
use Rattle.std.proofs.Common.{◌≡◌, ◌<◌, ℕ, zero, suc, List, [], ◌∷◌, length, get_or, refl, sym, ap, ◌∙◌, subst, arith, All}
use Rattle.std.proofs.lemmas.Int.{ints}
use Rattle.std.proofs.lemmas.List.{length-map}
use Rattle.std.proofs.lemmas.List.Sums.{sum_by-cons}
use Rattle.typed_plan.specs.declared.plan.Aggregate.{Aggregate}
use Rattle.typed_plan.specs.declared.plan.Aggregate.TheVariants.{Key}
use Rattle.group_slots.specs.declared.item_tallies.ItemTallies.{ItemTallies}
use Rattle.group_slots.specs.declared.tally.Tally.{Tally}
use Rattle.group_slots.specs.Tallies.{no_rows}
use Rattle.group_slots.specs.Adding.{IsKept, lists_of}
use Rattle.group_slots.specs.Counting.{IsSmall, counted_in}
use Rattle.group_slots.specs.HeldTallies.{AreBlank, tallies_in}
use Rattle.grouping.specs.FedRows.{GroupsAt, Holds, AreTallied}
use Rattle.grouping.specs.FoundKeys.{first_found}
use Rattle.grouping.specs.inside.Placing.{found_by}

blank_at : (tallies : List ItemTallies) (groups : ℕ) → All (λ (list : ItemTallies). AreBlank groups (tallies_in list)) tallies →
    (item : ℕ) → item < length tallies → AreBlank groups (get_or (lists_of tallies) item [])
blank_at [] groups all item low = absurd (omega arith)
blank_at (t ∷ tallies) groups all zero low = all 0 t (omega arith)
blank_at (t ∷ tallies) groups all (suc item) low = blank_at tallies groups (λ k d below. all (suc k) d (omega arith)) item (omega arith)

none_small : IsSmall no_rows
none_small = record { low = omega (arith, ints); high = omega (arith, ints) }

none_counted : (tallies : List Tally) (groups : ℕ) → length tallies ≡ groups → ((group : ℕ) → group < groups → get_or tallies group no_rows ≡ no_rows) → counted_in tallies ≡ 0
none_counted [] groups long each = refl
none_counted (tally ∷ tallies) groups long each =
    let first = ap (λ (tally : Tally). tally.count) (each 0 (omega (arith, long))) in
    let rest = none_counted tallies (length tallies) refl (λ group low. each (suc group) (omega (arith, long))) in
    let all = sum_by-cons (λ (tally : Tally). tally.count) tally tallies in
    omega (arith, first, rest, all)

-- tallies of no rows are kept
pub kept_blank : (items : List Aggregate) (tallies : List ItemTallies) (groups : ℕ) → length tallies ≡ length items →
    All (λ (list : ItemTallies). AreBlank groups (tallies_in list)) tallies → IsKept items groups 0 (lists_of tallies)
kept_blank items tallies groups many all = record {
  many = length-map tallies tallies_in ∙ many;
  long = λ item low. (blank_at tallies groups all item (omega arith)).long;
  small = λ item low.
      let blank = blank_at tallies groups all item (omega arith) in
      record {
        few = let none = none_counted (get_or (lists_of tallies) item []) groups blank.long blank.each in omega (arith, none);
        small = λ group below. subst IsSmall (sym (blank.each group (omega (arith, blank.long)))) none_small;
      };
}

-- before any row the keys are those of none
pub found_first : (keys : List ℕ) → found_by keys [] ≡ first_found keys
found_first [] = refl
found_first (key ∷ keys) = refl

-- and the groups are those of no rows
pub holds_none : (groups : GroupsAt) (tallies : List ItemTallies) (count : ℕ) → groups.found ≡ first_found groups.keys →
    count ≡ length groups.found → groups.count ≡ 0 → groups.tallies ≡ lists_of tallies → length tallies ≡ length groups.items →
    All (λ (list : ItemTallies). AreBlank count (tallies_in list)) tallies → Holds groups []
holds_none groups tallies count found long none is many all = record {
  found = found;
  count = none;
  many = ap length is ∙ length-map tallies tallies_in ∙ many;
  tallied = λ item low.
      let blank = blank_at tallies count all item (omega arith) in
      subst (λ lists. AreTallied groups.keys groups.found [] (get_or groups.items item (Key 0)) (get_or lists item [])) (sym is)
      (record { long = blank.long ∙ long; each = λ group below. blank.each group (omega (arith, long)) });
}
