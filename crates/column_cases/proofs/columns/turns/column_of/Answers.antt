use Rattle.std.proofs.Common.{◌≡◌, All, List, subst, sym}
use Rattle.arrow_types.specs.declared.data_type.DataType.{DataType}
use Rattle.array_select.specs.declared.of_slots.SlotRef.{SlotRef}
use Rattle.arrays.specs.declared.layout.Layout.{Layout}
use Rattle.arrays.specs.TypedLayouts.{IsOfType}
use Rattle.array_select.specs.OfSlots.{IsSlotOf}
use Rattle.column_cases.proofs.columns.turns.column_of.Goals as goal

-- the slots are there, in columns of the type
are_there : (data_type : DataType) (slots items : List SlotRef) (whole kept : Layout) → slots ≡ items → kept ≡ whole → IsOfType data_type whole →
    (IsOfType data_type whole → IsOfType data_type kept → All (IsSlotOf data_type) items) → All (IsSlotOf data_type) slots
are_there data_type slots items whole kept same layouts of taken =
    subst (All (IsSlotOf data_type)) (sym same) (taken of (subst (IsOfType data_type) (sym layouts) of))

pub texts_fit-requires : goal.texts_fit-requires
texts_fit-requires c = λ k d low.
    (are_there c.type_of-data_type.result c.as_slice-slots.result.now c.in_ok-taken.taken.items c.args.whole.now.layout c.args.kept.now.layout
    c.as_slice-slots.ensures.value c.requires c.type_of-data_type.ensures (c.in_ok-taken.ensures c.type_of-data_type.result) k d low).0

pub column_of_slots-requires-clause-there : goal.column_of_slots-requires-clause-there
column_of_slots-requires-clause-there c =
    are_there c.type_of-data_type.result c.as_slice-slots.result.now c.in_ok-taken.taken.items c.args.whole.now.layout c.args.kept.now.layout
    c.as_slice-slots.ensures.value c.requires c.type_of-data_type.ensures (c.in_ok-taken.ensures c.type_of-data_type.result)
