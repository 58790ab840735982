use Rattle.std.proofs.Common.{Some, length, map, sym, ap, ◌∙◌, arith}
use Rattle.std.proofs.lemmas.Bool.{lt-leb}
use Rattle.std.proofs.lemmas.Option.{slice_get-get_or}
use Rattle.array_select.specs.OfSlots.{slot_value}
use Rattle.arrays.specs.WrittenSlots.{texts_joined}
use Rattle.array_select.specs.declared.of_slots.SlotRef.{SlotRef}
use Rattle.array_select.proofs.TooMany.{past}
use Rattle.array_select.proofs.of_slots.texts_fit.Goals as goal

pub returns-then-bytes-left : goal.returns-then-bytes-left
returns-then-bytes-left c =
    let slot = c.slot-item.result in
    let there = slice_get-get_or c.args.slots.now c.loop-slot.slot-index slot c.loop-slot-test.true
    ∙ ap (λ (s : SlotRef). Some s) (sym c.slot-item.is) in
    let less = rw c.text_at-bytes.ensures at c.if-bytes-left.true in
    let more = past c.args.slots.now c.loop-slot.slot-index c.loop-slot.left slot there less in
    sym (lt-leb (length (texts_joined (map slot_value c.args.slots.now))) c.args.most (omega (arith, more, c.loop-slot.invariant)))
