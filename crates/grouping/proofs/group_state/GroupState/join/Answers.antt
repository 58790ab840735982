use Rattle.std.proofs.Common.{◌<◌, ℕ, List, All, length, ap, sym, subst, arith}
use Rattle.group_slots.specs.declared.item_tallies.ItemTallies.{ItemTallies}
use Rattle.group_slots.specs.Adding.{IsKept, lists_of}
use Rattle.grouping.specs.inside.Placing.{found_by}
use Rattle.grouping.proofs.JoinedKeys.{all_there, keys_grow}
use Rattle.grouping.proofs.group_state.GroupState.join.Goals as goal

pub join_all-requires-clause-grouped : goal.join_all-requires-clause-grouped
join_all-requires-clause-grouped g c =
    let all = all_there _ _ _ c.in_ok-groups.ensures.joined in
    subst (λ (groups : List ℕ). All (λ group. group < c.found_count-found.result) groups) (sym c.as_slice-2.ensures.value)
    (subst (λ (found : ℕ). All (λ group. group < found) c.in_ok-groups.groups.items) (sym c.found_count-found.ensures) all)

pub join_all-requires-clause-kept : goal.join_all-requires-clause-kept
join_all-requires-clause-kept g c =
    let columns = c.args.shape.now.keys.now in
    let before = found_by columns c.args.self.now.firsts.keys in
    let grows = keys_grow before (found_by columns c.args.other.now.firsts.keys) in
    (length before, omega (arith, grows, ap length c.in_ok-groups.ensures.found, c.found_count-found.ensures), rw c.as_mut_slice.ensures.value c.requires.kept)

pub join_all-requires-clause-others : goal.join_all-requires-clause-others
join_all-requires-clause-others g c =
    let long = c.in_ok-groups.ensures.joined.long in
    rw (c.as_slice-2.ensures.value, long) (subst (λ (tallies : List ItemTallies). IsKept c.args.shape.now.items.now
    (length (found_by c.args.shape.now.keys.now c.args.other.now.firsts.keys)) c.args.other.now.count (lists_of tallies)) (sym c.as_slice.ensures.value) c.requires.other)
