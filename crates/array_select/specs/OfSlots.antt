-- Slots of any columns, one after another.
use Rattle.std.specs.Prelude.{◌<◌}
use Rattle.scan_base.specs.declared.value.Value.{Value}
use Rattle.arrow_types.specs.declared.data_type.DataType.{DataType}
use Rattle.array_select.specs.declared.of_slots.SlotRef.{SlotRef}
use Rattle.arrays.specs.Column.{slot_of}
use Rattle.arrays.specs.TypedLayouts.{IsOfType}

-- the value of a slot
abbrev pub slot_value : SlotRef → Value
slot_value slot = slot_of slot.column.now slot.place

-- the slot is there, in a column of the type
abbrev pub IsSlotOf : DataType → SlotRef → Type 0
IsSlotOf data_type slot =
    (slot.place < slot.column.now.len) × IsOfType data_type slot.column.now.layout
