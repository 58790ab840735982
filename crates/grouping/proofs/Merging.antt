-- What taking in the groups of other rows leaves.
use Rattle.std.proofs.Common.{◌≡◌, ◌<◌, ℕ, ◌+◌, List, [], ◌++◌, length, get_or, None, Option, Ok, sym, ap, ◌∙◌, subst, arith}
use Rattle.std.proofs.lemmas.List.{length-append}
use Rattle.indexmap.specs.IndexSet.{insert_all}
use Rattle.scan_base.specs.declared.fault.Fault.{Fault}
use Rattle.scan_base.specs.declared.value.Value.{Value}
use Rattle.table_versions.specs.Table.{Row}
use Rattle.typed_plan.specs.GroupedRows.{same_key}
use Rattle.typed_plan.specs.declared.plan.Aggregate.TheVariants.{Key}
use Rattle.grouping.specs.FedRows.{AreTallied, GroupsAt, HasMerged, Holds, IsAlike, Merges}
use Rattle.grouping.specs.FoundKeys.{first_found, found_in}
use Rattle.grouping.specs.inside.Merging.{AreJoined, IsMerged}
use Rattle.grouping.proofs.Finding.{found_more}
use Rattle.grouping.proofs.JoinedKeys.{joined_then}
use Rattle.grouping.proofs.JoinedTallies.{both_tallied}

-- the groups of rows, and of others after them
merged_holds : (before other after : GroupsAt) (most : ℕ) (rows more : List Row) → other.keys ≡ before.keys → other.items ≡ before.items → after.keys ≡ before.keys →
    after.items ≡ before.items → after.count ≡ before.count + other.count → length after.tallies ≡ length before.items →
    IsMerged before.found other.found after.found (length before.items) most other.tallies before.tallies after.tallies →
    Holds before rows → Holds other more → Holds after (rows ++ more)
merged_holds before other after most rows more other_keys other_items keys items count many merged held more_held =
    let here = found_in before.keys rows in
    let there = found_in before.keys more in
    let others : other.found ≡ there = more_held.found ∙ ap (λ (keys : List ℕ). found_in keys more) other_keys in
    let found =
    merged.found_is ∙ ap (λ (found : List (List Value)). insert_all same_key found other.found) held.found
    ∙ ap (insert_all same_key here) others ∙ joined_then before.keys rows more in
    let placed = subst (λ (found : List (List Value)). AreJoined after.found found merged.groups (length found)) others merged.placed in
    record {
      found = found ∙ sym (found_more before.keys (first_found before.keys) rows more) ∙ ap (λ (keys : List ℕ). found_in keys (rows ++ more)) (sym keys);
      count = omega (arith, count, held.count, more_held.count, length-append rows more);
      many = many ∙ ap length (sym items);
      tallied = λ item low.
          let below : item < length before.items = omega (arith, low, ap length items) in
          let below_too : item < length other.items = omega (arith, below, ap length other_items) in
          let own = subst (λ (found : List (List Value)). AreTallied before.keys found rows (get_or before.items item (Key 0)) (get_or before.tallies item [])) held.found (held.tallied item below) in
          let theirs =
          subst (λ (found : List (List Value)). AreTallied before.keys found more (get_or before.items item (Key 0)) (get_or other.tallies item [])) others
          (subst (λ items. AreTallied before.keys other.found more (get_or items item (Key 0)) (get_or other.tallies item [])) other_items
          (subst (λ keys. AreTallied keys other.found more (get_or other.items item (Key 0)) (get_or other.tallies item [])) other_keys (more_held.tallied item below_too))) in
          let done = both_tallied before.keys rows more (get_or before.items item (Key 0)) (get_or before.tallies item []) (get_or other.tallies item []) (get_or after.tallies item [])
          after.found merged.groups found placed (merged.all.joined item below) own theirs in
          subst (λ keys. AreTallied keys after.found (rows ++ more) (get_or after.items item (Key 0)) (get_or after.tallies item [])) (sym keys)
          (subst (λ items. AreTallied before.keys after.found (rows ++ more) (get_or items item (Key 0)) (get_or after.tallies item [])) (sym items) done);
    }

-- what was not refused, and has the rows of both, merges them
merges_ok : (before other after : GroupsAt) → before.refused ≡ None → other.refused ≡ None → HasMerged before other after → Merges before other (Ok tt) after
merges_ok before other after none none_other merged =
    let now : HasMerged (record before { refused = None }) (record other { refused = None }) after = record {
      alike = record { batches = merged.alike.batches; types = merged.alike.types; keys = merged.alike.keys; items = merged.alike.items };
      refused = merged.refused;
      count = merged.count;
      held = λ rows more h k. merged.held rows more (record { found = h.found; count = h.count; many = h.many; tallied = h.tallied })
          (record { found = k.found; count = k.count; many = k.many; tallied = k.tallied });
    } in
    subst (λ (refused : Option Fault). Merges (record before { refused = refused }) other (Ok tt) after) (sym none)
    (subst (λ (refused : Option Fault). Merges (record before { refused = None }) (record other { refused = refused }) (Ok tt) after) (sym none_other) now)

-- groups that are taken in are merged
pub merges_all : (inside inside_other before other after : GroupsAt) (found_other : List (List Value)) (most : ℕ) → inside ≡ before → inside_other ≡ other →
    IsAlike before other → inside.refused ≡ None → inside_other.refused ≡ None → found_other ≡ inside_other.found →
    after.batches ≡ inside.batches → after.types ≡ inside.types → after.keys ≡ inside.keys → after.items ≡ inside.items → after.refused ≡ None →
    after.count ≡ inside.count + inside_other.count → length after.tallies ≡ length inside.items →
    IsMerged inside.found found_other after.found (length inside.items) most inside_other.tallies inside.tallies after.tallies →
    Merges before other (Ok tt) after
merges_all inside inside_other before other after found_other most is is_other alike none none_other same batches types keys items still count many merged =
    let other_keys : inside_other.keys ≡ inside.keys = ap (λ (g : GroupsAt). g.keys) is_other ∙ alike.keys ∙ sym (ap (λ (g : GroupsAt). g.keys) is) in
    let other_items : inside_other.items ≡ inside.items = ap (λ (g : GroupsAt). g.items) is_other ∙ alike.items ∙ sym (ap (λ (g : GroupsAt). g.items) is) in
    let all = subst (λ (found : List (List Value)). IsMerged inside.found found after.found (length inside.items) most inside_other.tallies inside.tallies after.tallies) same merged in
    subst (λ (g : GroupsAt). Merges g other (Ok tt) after) is
    (subst (λ (g : GroupsAt). Merges inside g (Ok tt) after) is_other
    (merges_ok inside inside_other after none none_other (record {
      alike = record { batches = batches; types = types; keys = keys; items = items };
      refused = still;
      count = count;
      held = λ rows more held more_held. merged_holds inside inside_other after most rows more other_keys other_items keys items count many all held more_held;
    })))
