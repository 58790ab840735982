use Rattle.std.proofs.Common.{◌≡◌, ◌<◌, List, [], length, sym, ap, ◌∙◌, subst, arith}
use Rattle.std.proofs.lemmas.List.{map-set, get_or-map, length-map}
use Rattle.group_slots.specs.declared.item_tallies.ItemTallies.{ItemTallies}
use Rattle.group_slots.specs.declared.tally.Tally.{Tally}
use Rattle.group_slots.specs.Adding.{lists_of}
use Rattle.group_slots.specs.Counting.{AreWithin}
use Rattle.group_slots.specs.HeldTallies.{tallies_in}
use Rattle.group_slots.proofs.AddingAll.{item_left, step, kept_after}
use Rattle.group_slots.proofs.row_groups.add_all.Goals as goal
use Rattle.group_slots.proofs.row_groups.add_all.Goals.{After-index-tallies-item}

-- the tallies of the item before it is added to
next : (c : After-index-tallies-item) → (length (tallies_in c.index-tallies-item.result) ≡ c.requires.kept.0) × AreWithin c.args.part.now.fed (tallies_in c.index-tallies-item.result)
next c =
    let place = c.loop-item.item in
    let tallies = c.loop-item.tallies in
    let many = c.requires.kept.2.many in
    let low : place < length c.args.items.now = omega (arith, c.loop-item-test.true) in
    let below : place < length tallies = omega (arith, many, low, length-map tallies tallies_in, length-map c.args.tallies.now tallies_in) in
    let old = get_or-map tallies_in tallies place c.index-tallies-item.result [] below in
    let is = old ∙ ap tallies_in (sym c.index-tallies-item.is) in
    let left = item_left c.args.items.now c.requires.kept.0 c.args.part.now.fed place (lists_of c.args.tallies.now) (lists_of tallies) (c.loop-item.invariant.left place (omega arith)) c.requires.kept.2 low in
    subst (λ (list : List Tally). (length list ≡ c.requires.kept.0) × AreWithin c.args.part.now.fed list) is left

pub add_to-requires-clause-grown : goal.add_to-requires-clause-grown
add_to-requires-clause-grown c =
    let at = next (goal.at.add_to-requires-clause-grown c).After-index-tallies-item in
    omega (arith, at.0, c.requires.kept.1, ap (λ (list : ItemTallies). length (tallies_in list)) c.index-tallies-item.is)

pub add_to-requires-clause-small : goal.add_to-requires-clause-small
add_to-requires-clause-small c =
    let at = next (goal.at.add_to-requires-clause-small c).After-index-tallies-item in
    subst (λ (list : ItemTallies). AreWithin c.args.part.now.fed (tallies_in list)) c.index-tallies-item.is at.1

pub loop-item-preserved : goal.loop-item-preserved
loop-item-preserved c =
    let place = c.loop-item.item in
    let tallies = c.loop-item.tallies in
    let below : place < length tallies = omega (arith, c.requires.kept.2.many, length-map tallies tallies_in, length-map c.args.tallies.now tallies_in) in
    let there : place < length (lists_of tallies) = omega (arith, length-map tallies tallies_in) in
    let old = get_or-map tallies_in tallies place c.index-tallies-item.result [] below in
    let done = c.in_ok-add_to.ensures in
    rw map-set
    (step c.args.items.now _ _ _ _ _ _ (lists_of tallies) place (tallies_in c.add_to.new.tallies) c.loop-item.invariant there
    (rw old done.added) done.small)

pub returns-clause-kept : goal.returns-clause-kept
returns-clause-kept c =
    let long : length (lists_of c.loop-item.tallies) ≡ length c.args.items.now =
    omega (arith, c.requires.kept.2.many, length-map c.loop-item.tallies tallies_in, length-map c.args.tallies.now tallies_in) in
    let all : c.loop-item.item ≡ length c.args.items.now = omega arith in
    kept_after _ _ _ _ _ _ _ _ (rw all at c.loop-item.invariant) long
