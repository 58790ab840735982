use Rattle.std.proofs.Common.{◌<◌, List, All, length, map, nat_le, get_or, sym, ap, ◌∙◌, subst}
use Rattle.std.proofs.lemmas.List.Elements.{All-weaker}
use Rattle.arrow_types.specs.declared.data_type.DataType.TheVariants.{Utf8}
use Rattle.scan_base.specs.declared.value.Value.{Value}
use Rattle.arrays.specs.WrittenSlots.{texts_joined}
use Rattle.array_select.specs.declared.of_slots.SlotRef.{SlotRef}
use Rattle.array_select.specs.OfSlots.{slot_value, IsSlotOf}
use Rattle.join_batches.specs.BatchSides.{side_types}
use Rattle.join_batches.proofs.Cells.{held_there, held_values}
use Rattle.join_batches.proofs.Sources.{places_there, places_counted}
use Rattle.join_batches.proofs.batch_sides.BatchSides.texts_fit.Goals as goal

pub texts_fit-requires : goal.texts_fit-requires
texts_fit-requires c =
    let sides = c.args.self.now in
    let number = c.args.number in
    subst (λ (slots : List SlotRef). All (λ (slot : SlotRef). slot.place < slot.column.now.len) slots) (sym c.as_slice.ensures.value)
    (All-weaker (IsSlotOf (get_or (side_types sides) number Utf8)) (λ (slot : SlotRef). slot.place < slot.column.now.len) (λ slot is. is.0)
    c.in_ok-slots.slots.items (held_there sides number c.args.placed.now.pairs.now c.in_ok-slots.slots.items c.in_ok-slots.ensures))

pub returns-then-self-placed : goal.returns-then-self-placed
returns-then-self-placed c =
    let sides = c.args.self.now in
    c.texts_fit.ensures
    ∙ ap (λ (values : List Value). nat_le (length (texts_joined values)) c.args.most)
    (ap (map slot_value) c.as_slice.ensures.value ∙ held_values sides c.args.number c.args.placed.now.pairs.now c.in_ok-slots.slots.items c.in_ok-slots.ensures)

pub texts_fit_many-requires : goal.texts_fit_many-requires
texts_fit_many-requires c =
    rw (c.as_slice-2.ensures.value, c.places-places.ensures)
    (places_there c.args.self.now c.args.number (map (λ column. column.now) c.in_ok-columns.columns.items) c.args.placed.now.pairs.now c.in_ok-columns.ensures c.requires.there)

pub returns : goal.returns
returns c =
    places_counted c.args.self.now c.args.number (map (λ column. column.now) c.in_ok-columns.columns.items) c.places-places.result.now c.args.placed.now.pairs.now
    c.texts_fit_many.result c.args.most c.in_ok-columns.ensures c.requires.there c.places-places.ensures (rw c.as_slice-2.ensures.value at c.texts_fit_many.ensures)
