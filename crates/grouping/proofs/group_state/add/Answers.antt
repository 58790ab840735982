use Rattle.std.proofs.Common.{ℕ, length, map, sym, ap, subst, arith, Vec}
use Rattle.std.specs.Global.{Global}
use Rattle.arrays.specs.Batch.{row_of}
use Rattle.group_slots.specs.declared.item_tallies.ItemTallies.{ItemTallies}
use Rattle.group_slots.specs.Adding.{IsKept, lists_of}
use Rattle.grouping.specs.inside.Placing.{found_by}
use Rattle.grouping.proofs.Sharing.{found_grows}
use Rattle.grouping.proofs.group_state.add.Goals as goal

pub add_all-requires-clause-kept : goal.add_all-requires-clause-kept
add_all-requires-clause-kept c =
    let items = c.args.items.now in
    let columns = c.args.chosen.now.columns.now in
    let before = found_by columns c.args.kept.now.firsts.keys in
    let placed = c.in_ok-groups.ensures in
    let grows = found_grows columns before (map (row_of c.args.chosen.now.batch.now.columns) c.args.chosen.now.rows.now) in (
      length before,
      omega (arith, grows, ap length placed.found, c.found_count-found.ensures),
      rw c.as_mut_slice.ensures.value
          (subst (λ (tallies : Vec ItemTallies Global). IsKept items (length before) c.place_rows.new.kept.count (lists_of tallies.items)) (sym placed.tallies)
          (subst (λ (fed : ℕ). IsKept items (length before) fed (lists_of c.args.kept.now.tallies.items)) (sym placed.count) c.requires.kept)),
    )
