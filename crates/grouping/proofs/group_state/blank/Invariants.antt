use Rattle.std.proofs.Common.{◌≡◌, length, All}
use Rattle.group_slots.specs.declared.item_tallies.ItemTallies.{ItemTallies}
use Rattle.group_slots.specs.HeldTallies.{AreBlank, tallies_in}
use Rattle.grouping.proofs.group_state.blank.Given as goal

abbrev pub invariant-loop-item : goal.invariant-loop-item
invariant-loop-item l = record {
  many : length l.tallies.items ≡ l._item;
  blank : All (λ (list : ItemTallies). AreBlank l.groups (tallies_in list)) l.tallies.items;
}
