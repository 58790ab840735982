use Rattle.std.proofs.Common.{◌<◌, length, get_or, arith}
use Rattle.std.proofs.lemmas.List.Elements.{All-get_or}
use Rattle.group_slots.proofs.Stepping.{step}
use Rattle.group_slots.proofs.row_groups.add_each.Goals as goal

pub loop-k-preserved : goal.loop-k-preserved
loop-k-preserved c =
    let groups = c.args.part.now.groups.now in
    let there : get_or groups c.loop-k.k 0 < length c.args.tallies.now =
    All-get_or (λ group. group < length c.args.tallies.now) groups c.loop-k.k 0 (omega arith) c.requires.grouped in
    step _ _ groups _ _ _ c.loop-k.k _ _ c.loop-k.invariant (omega arith) c.with_row.ensures.added c.with_row.ensures.few c.with_row.ensures.small
