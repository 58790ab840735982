use Rattle.std.proofs.Common.{◌≡◌, ◌%◌, ◌^◌, List, ℕ, ℤ, ◌∙◌, ap, length, map, take, rules, of_z}
use Rattle.std.specs.Int.{w128, to_le_bytes}
use Rattle.std.proofs.lemmas.Int.{to_z-of_z}
use Rattle.byteorder.specs.Endian.{little_from}
use Rattle.array_select.specs.inside.SlotFilling.{number_of}
use Rattle.array_select.proofs.FilledSlots.{numbers_more, low_part, next_held}
use Rattle.array_select.proofs.slot_filling.pack_numbers.Goals as goal

pub loop-slot-preserved : goal.loop-slot-preserved
loop-slot-preserved g c =
    let width = c.args.width in
    let slots = c.args.slots.now in
    let i = c.loop-slot.slot-index in
    let number = c.number_of.result in
    let values = map g.S.Source.held slots in
    let held = next_held g.S.Source.held slots i c.slot-item.result c.loop-slot-test.true c.slot-item.is in
    let is : c.to_le_bytes-bytes.result ≡ to_le_bytes w128 (of_z w128 number) = c.to_le_bytes-bytes.ensures ∙ ap (λ (z : ℤ). to_le_bytes w128 (of_z w128 z)) (to_z-of_z w128 number (search rules)) in
    let part = low_part width (of_z w128 number) c.requires.width in
    numbers_more width c.loop-slot.packed.items c.extend_from_slice.new.self.items (take width c.to_le_bytes-bytes.result) values i c.in_ok-extend_from_slice.ensures.items
    (ap (λ (bytes : List ℕ). length (take width bytes)) is ∙ part.0)
    (ap (λ (bytes : List ℕ). little_from 0 width (take width bytes)) is ∙ part.1
    ∙ ap (λ (z : ℤ). of_z w128 z % 256 ^ width) (c.number_of.ensures ∙ ap number_of (c.value.ensures.value ∙ held)))
    c.loop-slot.invariant
