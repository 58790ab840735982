use Rattle.std.proofs.Common.{arith}
use Rattle.std.proofs.lemmas.List.Elements.{All-push}
use Rattle.array_select.specs.OfSlots.{IsSlotOf}
use Rattle.typed_plan.specs.TypedPlans.{type_at}
use Rattle.grouping.specs.inside.Answering.{first_cell}
use Rattle.grouping.proofs.Answering.{values_more}
use Rattle.grouping.proofs.batches.GroupRows.slots.Goals as goal

pub slot-requires-clause-first : goal.slot-requires-clause-first
slot-requires-clause-first c = c.requires.firsts c.loop-first.first-index _ (omega arith)

pub loop-first-preserved : goal.loop-first-preserved
loop-first-preserved c =
    let slots = c.loop-first.slots.items in
    let slot = c.slot.result in
    record {
      values = rw c.in_ok-push.ensures.items (values_more (first_cell c.args.self.now.batches.now c.args.column) c.args.firsts.now c.loop-first.first-index _ slots slot
          (omega arith) c.slot.ensures.value c.loop-first.invariant.values);
      there = rw c.in_ok-push.ensures.items (All-push (IsSlotOf (type_at c.args.self.now.types.now c.args.column)) slots slot c.loop-first.invariant.there c.slot.ensures.there);
    }
