use Rattle.std.proofs.Common.{◌≡◌, ◌∙◌, sym, arith}
use Rattle.dictionary_answers.specs.inside.PackedPlaces.{numbers_in}
use Rattle.dictionary_answers.proofs.Marks.{shown, shown_all, shown_mark, shown_more, shown_place}
use Rattle.dictionary_answers.proofs.packed_numbers.put_zeros.Goals as goal
use Rattle.dictionary_answers.proofs.packed_numbers.put_zeros.Goals.{then-number, else-number}

pub loop-slot-preserved : goal.loop-slot-preserved
loop-slot-preserved c =
    let number = c.read-number.result in
    let made : c.if-number.put_number ≡ shown number = elim c.if-number.branch [
      | then-number w ↦ w.put_number-is ∙ sym (shown_mark number w.if-number.true)
      | else-number w ↦ w.put_number-is ∙ sym (shown_place number w.if-number.false)
    ] in
    shown_more (numbers_in c.args.bytes.now) c.loop-slot.bytes c.put_number.new.bytes c.loop-slot.slot number c.if-number.put_number
    (omega arith) c.read-number.ensures made c.put_number.ensures c.loop-slot.invariant

pub returns : goal.returns
returns c = shown_all c.args.bytes.now c.loop-slot.bytes c.loop-slot.slot (omega arith) c.loop-slot.invariant
