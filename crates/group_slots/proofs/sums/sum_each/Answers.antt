use Rattle.std.proofs.Common.{◌<◌, FitsSigned, length, get_or, arith, rules}
use Rattle.std.specs.Int.{w64}
use Rattle.std.proofs.lemmas.Int.{to_z-of_z}
use Rattle.std.proofs.lemmas.List.Elements.{All-get_or}
use Rattle.typed_plan.specs.declared.plan.Aggregate.TheVariants.{Sum}
use Rattle.group_slots.specs.Tallies.{no_rows}
use Rattle.group_slots.proofs.Stepping.{step}
use Rattle.group_slots.proofs.Slotted.{small_after, summed_cell}
use Rattle.group_slots.proofs.sums.sum_each.Goals as goal

pub loop-k-preserved : goal.loop-k-preserved
loop-k-preserved g c =
    let groups = c.args.part.now.groups.now in
    let row = get_or c.args.part.now.rows.now c.loop-k.k 0 in
    let group = get_or groups c.loop-k.k 0 in
    let old = get_or c.loop-k.tallies group no_rows in
    let valid = c.is_valid-valid.result in
    let number = c.number-number.result in
    let fits : FitsSigned w64 number = search rules in
    let there : group < length c.args.tallies.now =
    All-get_or (λ group. group < length c.args.tallies.now) groups c.loop-k.k 0 (omega arith) c.requires.grouped in
    let inside : group < length c.loop-k.tallies = omega (arith, there, c.loop-k.invariant.long) in
    let added = rw (to_z-of_z w64 number fits) at c.add_slot.ensures.added in
    step (Sum c.args.column) _ groups _ _ _ c.loop-k.k _ _ c.loop-k.invariant inside
    (summed_cell old _ c.args.slots.now row _ valid number added c.is_valid-valid.ensures c.number-number.ensures (c.requires.slots.cells row))
    c.add_slot.ensures.few (small_after old _ valid number fits (c.loop-k.invariant.small.small group inside) added)
