use Rattle.std.proofs.Common.{ℕ, map, length, subst}
use Rattle.std.proofs.lemmas.List.{length-map}
use Rattle.arrays.specs.Number.{AreBytes}
use Rattle.array_select.specs.inside.SlotFilling.{AreNumbersOf}
use Rattle.array_select.proofs.FilledSlots.{numbers_fill}
use Rattle.array_select.proofs.slot_filling.fill_numbers.Goals as goal

pub returns : goal.returns
returns g c =
    let slots = c.args.slots.now in
    let values = map g.S.Source.held slots in
    let made = c.in_ok-pack_numbers.field-0.items in
    rw c.kept_numbers.ensures
    (numbers_fill c.args.number c.cell-cell.result c.in_ok-packed.packed made values (length slots) c.cell-cell.ensures c.in_ok-packed.ensures.ok (subst AreBytes c.as_slice.ensures c.are_bytes.ensures) (length-map slots g.S.Source.held)
    (subst (λ (width : ℕ). AreNumbersOf width made values (length slots)) c.cell_width.ensures.width c.in_ok-pack_numbers.ensures) c.requires.typed)
