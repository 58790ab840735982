use Rattle.std.proofs.Common.{◌≡◌, ◌<◌, ◌+◌, List, [], length, get_or, sym, subst, arith}
use Rattle.std.proofs.lemmas.List.{map-set, length-map}
use Rattle.group_slots.specs.declared.tally.Tally.{Tally}
use Rattle.group_slots.specs.Adding.{lists_of}
use Rattle.group_slots.specs.Counting.{counted_in}
use Rattle.group_slots.specs.HeldTallies.{tallies_in}
use Rattle.grouping.specs.inside.Merging.{AreTalliesJoined}
use Rattle.grouping.proofs.JoiningAll.{IsItem, item_at, kept_after, more, within_more, within_own}
use Rattle.grouping.proofs.other_groups.join_all.Given.{Over}
use Rattle.grouping.proofs.other_groups.join_all.Goals as goal
use Rattle.grouping.proofs.other_groups.join_all.Goals.{After-index-others-item}

-- the tallies of the item, and the others of it
at : (g : Over) (c : After-index-others-item g) → IsItem c.requires.kept.0 c.args.others.now.fed (length c.args.others.now.groups.now) c.args.others.now.more c.loop-item.item
    c.loop-item.tallies c.args.others.now.tallies.now (tallies_in (get_or c.loop-item.tallies c.loop-item.item c.index-tallies-item.result))
    (tallies_in (get_or c.args.others.now.tallies.now c.loop-item.item c.index-others-item.result))
at g c =
    item_at c.args.items.now c.loop-item.item c.requires.kept.0 c.args.others.now.fed (length c.args.others.now.groups.now) c.args.others.now.more
    c.index-tallies-item.result c.index-others-item.result c.args.tallies.now c.loop-item.tallies c.args.others.now.tallies.now c.loop-item-test.true
    (c.loop-item.invariant.joined.left c.loop-item.item (omega arith)) c.loop-item.auto.tallies c.requires.kept.2 c.requires.others

pub join_item-requires-clause-long : goal.join_item-requires-clause-long
join_item-requires-clause-long g c = sym (at g (goal.at.join_item-requires-clause-long g c).After-index-others-item).long_others

pub join_item-requires-clause-grown : goal.join_item-requires-clause-grown
join_item-requires-clause-grown g c =
    let here = at g (goal.at.join_item-requires-clause-grown g c).After-index-others-item in
    omega (arith, here.long, c.requires.kept.1)

pub join_item-requires-clause-few : goal.join_item-requires-clause-few
join_item-requires-clause-few g c =
    let here = at g (goal.at.join_item-requires-clause-few g c).After-index-others-item in
    omega (arith, here.small.few, here.small_others.few, c.requires.few)

pub join_item-requires-clause-small : goal.join_item-requires-clause-small
join_item-requires-clause-small g c = within_own _ _ (at g (goal.at.join_item-requires-clause-small g c).After-index-others-item).small

pub join_item-requires-clause-others : goal.join_item-requires-clause-others
join_item-requires-clause-others g c =
    within_own _ _ (at g (goal.at.join_item-requires-clause-others g c).After-index-others-item).small_others

pub loop-item-preserved : goal.loop-item-preserved
loop-item-preserved g c =
    let others = c.args.others.now in
    let tallies = c.loop-item.tallies in
    let item = c.loop-item.item in
    let here = at g (goal.at.loop-item-preserved g c).After-index-others-item in
    let new = tallies_in c.join_item.new.tallies in
    let own = tallies_in (get_or tallies item c.index-tallies-item.result) in
    let other = tallies_in (get_or others.tallies.now item c.index-others-item.result) in
    let done = c.in_ok-join_item.ensures in
    let there : item < length (lists_of tallies) =
    let many = c.requires.kept.2.many in
    omega (arith, many, c.loop-item-test.true, c.loop-item.auto.tallies, length-map tallies tallies_in, length-map c.args.tallies.now tallies_in) in
    record {
      joined = rw map-set
          (more others.groups.now (lists_of others.tallies.now) c.args.others.now.found (others.fed + others.more) (lists_of c.args.tallies.now) (lists_of tallies) item new c.loop-item.invariant.joined there
          (subst (λ (list : List Tally). AreTalliesJoined others.groups.now list c.args.others.now.found (get_or (lists_of tallies) item []) new) (sym here.same_others)
          (subst (λ (list : List Tally). AreTalliesJoined others.groups.now other c.args.others.now.found list new) (sym here.same) done.joined))
          (within_more (counted_in own + counted_in other) (others.fed + others.more) new (omega (arith, here.small.few, here.small_others.few)) done.small));
      ready = c.in_ok-tell.ensures.ready;
      watched = g.met.W.Watches.again _ _ _ c.loop-item.invariant.watched c.in_ok-tell.ensures.watched;
    }

pub returns-clause-kept : goal.returns-clause-kept
returns-clause-kept g c =
    let tallies = c.loop-item.tallies in
    let many = c.requires.kept.2.many in
    let long : length (lists_of tallies) ≡ length c.args.items.now =
    omega (arith, many, c.loop-item.auto.tallies, length-map tallies tallies_in, length-map c.args.tallies.now tallies_in) in
    let all : c.loop-item.item ≡ length c.args.items.now = omega arith in
    kept_after _ _ _ _ _ _ _ (rw all at c.loop-item.invariant.joined) long

-- who watches ended it
pub returns-in_err-tell-clause-watched : goal.returns-in_err-tell-clause-watched
returns-in_err-tell-clause-watched g c = g.met.W.Watches.again _ _ _ c.loop-item.invariant.watched c.in_err-tell.ensures.watched
