use Rattle.std.proofs.Common.{All, map, length, subst, sym}
use Rattle.std.proofs.lemmas.List.{length-map}
use Rattle.arrow_types.specs.declared.data_type.Cell.{Cell}
use Rattle.arrays.specs.Number.{AreBytes, cell_width, number_in}
use Rattle.arrays.specs.TypedLayouts.{LieIn}
use Rattle.array_select.specs.GatherMany.{value_in}
use Rattle.array_select.specs.inside.GatheredMany.{columns_of}
use Rattle.array_select.proofs.FilledSlots.{numbers_filled}
use Rattle.array_select.proofs.GatheredMany.{room_there, number_at, valid_long}
use Rattle.array_select.proofs.many_places.SlotPlaces.gather_numbers.Goals as goal

pub packed_numbers-requires : goal.packed_numbers-requires
packed_numbers-requires c =
    subst (λ (cell : Cell). All (λ column. LieIn cell column.layout) (columns_of c.args.self.now)) (sym c.cell-cell.ensures) c.requires.typed

pub gather_width-requires-clause-room : goal.gather_width-requires-clause-room
gather_width-requires-clause-room c =
    let slots = c.args.self.now in
    rw c.as_slice.ensures.value
    (room_there (number_in c.cell-cell.result) (cell_width c.cell-cell.result) (map (λ one. one.now) c.in_ok-sources.sources.items) (columns_of slots) slots.places.now _ (length-map slots.columns.now (λ one. one.now))
    c.in_ok-sources.ensures c.requires.there)

pub gather_width-requires-clause-valid : goal.gather_width-requires-clause-valid
gather_width-requires-clause-valid c = valid_long (columns_of c.args.self.now) c.args.self.now.places.now c.args.validity.now c.requires.valid

pub returns : goal.returns
returns c =
    let slots = c.args.self.now in
    let cell = c.cell-cell.result in
    let made = c.in_ok-made.made.items in
    rw c.kept_numbers.ensures
    (numbers_filled c.args.number cell c.in_ok-packed.packed made (map (value_in (columns_of slots)) slots.places.now) (length slots.places.now) c.cell-cell.ensures c.in_ok-packed.ensures.ok
    (subst AreBytes c.as_slice-2.ensures c.are_bytes.ensures) c.in_ok-made.ensures.long (length-map slots.places.now (value_in (columns_of slots)))
    (number_at (number_in cell) (cell_width cell) made (map (λ one. one.now) c.in_ok-sources.sources.items) (columns_of slots) slots.places.now c.args.validity.now _
    (length-map slots.columns.now (λ one. one.now)) c.in_ok-sources.ensures c.requires.there c.requires.valid (rw c.as_slice.ensures.value at c.in_ok-made.ensures)))
