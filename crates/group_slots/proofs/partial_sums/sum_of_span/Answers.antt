use Rattle.std.proofs.Common.{◌+◌, ◌-◌, FitsSigned, arith, ap, rules}
use Rattle.std.specs.Int.{w64}
use Rattle.std.proofs.lemmas.Bool.{and_parts}
use Rattle.std.proofs.lemmas.Int.{to_z-of_z}
use Rattle.typed_plan.specs.declared.plan.Aggregate.TheVariants.{Sum}
use Rattle.group_slots.specs.Pieces.{piece_tally}
use Rattle.group_slots.proofs.RangeTallies.{tally_more, tally_none}
use Rattle.group_slots.proofs.Slotted.{small_after, summed_cell}
use Rattle.group_slots.proofs.partial_sums.sum_of_span.Goals as goal

pub loop-row-init : goal.loop-row-init
loop-row-init g c =
    let s = c.args.span.now in
    record {
      few = omega (arith, ap (λ t. t.count) c.new-sum.ensures);
      held = λ _. tally_none (Sum c.args.column) s.batch.now.columns s.from (s.from - s.from) (piece_tally c.new-sum.result) (omega arith) c.new-sum.ensures;
    }

pub loop-row-preserved : goal.loop-row-preserved
loop-row-preserved g c =
    let s = c.args.span.now in
    let row = c.loop-row.row in
    let old = piece_tally c.loop-row.sum in
    let valid = c.is_valid-valid.result in
    let number = c.number-number.result in
    let fits : FitsSigned w64 number = search rules in
    record {
      few = omega (arith, c.loop-row.invariant.few, c.add_slot-fits.ensures.few);
      held = λ both.
          let parts = and_parts c.loop-row.holds c.add_slot-fits.result both in
          let so = c.loop-row.invariant.held parts.0 in
          let added = rw (to_z-of_z w64 number fits) at c.add_slot-fits.ensures.added parts.1 in
          tally_more (Sum c.args.column) s.batch.now.columns s.from (row - s.from) row (row + 1 - s.from) old (piece_tally c.add_slot-fits.new.self) (omega arith) (omega arith) so
          (summed_cell old _ c.args.slots.now row _ valid number added c.is_valid-valid.ensures c.number-number.ensures (c.requires.slots.cells row))
          c.add_slot-fits.ensures.few (small_after old _ valid number fits so.small added);
    }
