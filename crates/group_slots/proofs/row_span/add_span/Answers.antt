use Rattle.std.proofs.Common.{◌≡◌, ◌<◌, ◌+◌, ◌-◌, ℕ, List, [], length, sym, ap, ◌∙◌, subst, arith}
use Rattle.std.proofs.lemmas.List.{map-set, get_or-map, length-map}
use Rattle.std.proofs.lemmas.List.FromFn.{length-range_with_len}
use Rattle.group_slots.specs.declared.item_tallies.ItemTallies.{ItemTallies}
use Rattle.group_slots.specs.declared.tally.Tally.{Tally}
use Rattle.group_slots.specs.Adding.{IsKept, lists_of}
use Rattle.group_slots.specs.Counting.{AreWithin}
use Rattle.group_slots.specs.HeldTallies.{tallies_in}
use Rattle.group_slots.specs.RowSpans.{span_rows}
use Rattle.group_slots.proofs.AddingAll.{item_left, step, kept_after}
use Rattle.group_slots.proofs.row_span.add_span.Goals as goal
use Rattle.group_slots.proofs.row_span.add_span.Goals.{After-index-tallies-item}

-- the tallies of the item before it is added to
next : (c : After-index-tallies-item) → (length (tallies_in c.index-tallies-item.result) ≡ 1) × AreWithin c.args.span.now.fed (tallies_in c.index-tallies-item.result)
next c =
    let place = c.loop-item.item in
    let tallies = c.loop-item.tallies in
    let low : place < length c.args.items.now = omega (arith, c.loop-item-test.true) in
    let below : place < length tallies = omega (arith, c.requires.kept.many, low, length-map tallies tallies_in, length-map c.args.tallies.now tallies_in) in
    let old = get_or-map tallies_in tallies place c.index-tallies-item.result [] below in
    let is = old ∙ ap tallies_in (sym c.index-tallies-item.is) in
    let left = item_left c.args.items.now 1 c.args.span.now.fed place (lists_of c.args.tallies.now) (lists_of tallies) (c.loop-item.invariant.left place (omega arith)) c.requires.kept low in
    subst (λ (list : List Tally). (length list ≡ 1) × AreWithin c.args.span.now.fed list) is left

-- as many rows as the span has
many : (c : After-index-tallies-item) → length (span_rows c.args.span.now) ≡ c.args.span.now.to - c.args.span.now.from
many c = length-range_with_len c.args.span.now.from (c.args.span.now.to - c.args.span.now.from)

pub add_to-requires-clause-one : goal.add_to-requires-clause-one
add_to-requires-clause-one c =
    let at = next (goal.at.add_to-requires-clause-one c).After-index-tallies-item in
    subst (λ (list : ItemTallies). length (tallies_in list) ≡ 1) c.index-tallies-item.is at.0

pub add_to-requires-clause-small : goal.add_to-requires-clause-small
add_to-requires-clause-small c =
    let at = next (goal.at.add_to-requires-clause-small c).After-index-tallies-item in
    subst (λ (list : ItemTallies). AreWithin c.args.span.now.fed (tallies_in list)) c.index-tallies-item.is at.1

pub loop-item-preserved : goal.loop-item-preserved
loop-item-preserved c =
    let place = c.loop-item.item in
    let tallies = c.loop-item.tallies in
    let below : place < length tallies = omega (arith, c.requires.kept.many, length-map tallies tallies_in, length-map c.args.tallies.now tallies_in) in
    let there : place < length (lists_of tallies) = omega (arith, length-map tallies tallies_in) in
    let old = get_or-map tallies_in tallies place c.index-tallies-item.result [] below in
    let done = c.in_ok-add_to.ensures in
    let rows = many (goal.at.loop-item-preserved c).After-index-tallies-item in
    rw map-set
    (step c.args.items.now _ _ _ _ _ _ (lists_of tallies) place (tallies_in c.add_to.new.tallies) c.loop-item.invariant there
    (rw old done.added) (subst (λ (n : ℕ). AreWithin (c.args.span.now.fed + n) (tallies_in c.add_to.new.tallies)) (sym rows) done.small))

pub returns-clause-kept : goal.returns-clause-kept
returns-clause-kept c =
    let s = c.args.span.now in
    let long : length (lists_of c.loop-item.tallies) ≡ length c.args.items.now =
    omega (arith, c.requires.kept.many, length-map c.loop-item.tallies tallies_in, length-map c.args.tallies.now tallies_in) in
    let all : c.loop-item.item ≡ length c.args.items.now = omega arith in
    subst (λ (n : ℕ). IsKept c.args.items.now 1 (s.fed + n) (lists_of c.loop-item.tallies)) (length-range_with_len s.from (s.to - s.from))
    (kept_after _ _ _ _ _ _ _ _ (rw all at c.loop-item.invariant) long)
