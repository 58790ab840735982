use Rattle.std.proofs.Common.{◌<◌, ◌^◌, List, All, length, map, get_or, sym, ap, ◌∙◌, subst}
use Rattle.std.proofs.lemmas.List.{length-map}
use Rattle.arrow_types.specs.declared.data_type.DataType.{DataType}
use Rattle.arrow_types.specs.declared.data_type.DataType.TheVariants.{Utf8}
use Rattle.scan_base.specs.declared.value.Value.{Value}
use Rattle.array_select.specs.declared.of_slots.SlotRef.{SlotRef}
use Rattle.array_select.specs.OfSlots.{slot_value, IsSlotOf}
use Rattle.arrays.specs.WrittenSlots.{texts_joined}
use Rattle.join_batches.specs.Rows.{pair_row}
use Rattle.join_batches.specs.BatchSides.{rows_at, side_types}
use Rattle.join_batches.proofs.Cells.{held_long, held_there, held_values}
use Rattle.join_batches.proofs.Made.{column_made}
use Rattle.join_batches.proofs.batch_sides.BatchSides.column_of_slots.Goals as goal

pub column_of_slots-requires-clause-there : goal.column_of_slots-requires-clause-there
column_of_slots-requires-clause-there c =
    let sides = c.args.self.now in
    subst (λ (t : DataType). All (IsSlotOf t) c.as_slice.result.now) (sym c.type_of.ensures)
    (subst (λ (slots : List SlotRef). All (IsSlotOf (get_or (side_types sides) c.args.number Utf8)) slots) (sym c.as_slice.ensures.value)
    (held_there sides c.args.number c.args.pairs.now c.in_ok-slots.slots.items c.in_ok-slots.ensures))

pub column_of_slots-requires-clause-short : goal.column_of_slots-requires-clause-short
column_of_slots-requires-clause-short c =
    let sides = c.args.self.now in
    let values = ap (map slot_value) c.as_slice.ensures.value ∙ held_values sides c.args.number c.args.pairs.now c.in_ok-slots.slots.items c.in_ok-slots.ensures in
    subst (λ (some : List Value). length (texts_joined some) < 2 ^ 31) (sym values) c.requires.named

pub returns-clause-cells : goal.returns-clause-cells
returns-clause-cells c =
    let sides = c.args.self.now in
    let number = c.args.number in
    let pairs = c.args.pairs.now in
    let slots = c.in_ok-slots.slots.items in
    column_made (rows_at sides pairs) number c.column_of_slots.result (map slot_value c.as_slice.result.now) (length c.as_slice.result.now)
    (ap (map slot_value) c.as_slice.ensures.value ∙ held_values sides number pairs slots c.in_ok-slots.ensures)
    (ap length c.as_slice.ensures.value ∙ held_long sides number pairs slots c.in_ok-slots.ensures ∙ sym (length-map pairs (pair_row sides.rights.now sides.left.now)))
    c.column_of_slots.ensures.values c.column_of_slots.ensures.long
