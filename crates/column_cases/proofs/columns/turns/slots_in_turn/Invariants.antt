use Rattle.std.proofs.Common.{All}
use Rattle.arrow_types.specs.declared.data_type.DataType.{DataType}
use Rattle.arrays.specs.TypedLayouts.{IsOfType}
use Rattle.array_select.specs.OfSlots.{IsSlotOf}
use Rattle.column_cases.proofs.columns.turns.slots_in_turn.Given as goal

abbrev pub invariant-loop-turn : goal.invariant-loop-turn
invariant-loop-turn l = (data_type : DataType) → IsOfType data_type l.whole.layout → IsOfType data_type l.kept.layout → All (IsSlotOf data_type) l.slots.items
