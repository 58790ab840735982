use Rattle.std.proofs.Common.{◌≡◌, map, take, All}
use Rattle.array_select.specs.OfSlots.{slot_value, IsSlotOf}
use Rattle.typed_plan.specs.TypedPlans.{type_at}
use Rattle.grouping.specs.inside.Answering.{first_cell}
use Rattle.grouping.proofs.batches.GroupRows.slots.Given as goal

abbrev pub invariant-loop-first : goal.invariant-loop-first
invariant-loop-first l = record {
  values : map slot_value l.slots.items ≡ map (first_cell l.self.batches.now l.column) (take l.first-index l.firsts);
  there : All (IsSlotOf (type_at l.self.types.now l.column)) l.slots.items;
}
