use Rattle.std.proofs.Common.{◌∙◌, sym}
use Rattle.arrays.proofs.TextSlots.{read_are_texts}
use Rattle.arrays.proofs.texts.Texts.new.Goals as goal

pub invariant_of-result : goal.invariant_of-result
invariant_of-result c =
    read_are_texts c.in_ok-validity.validity c.args.offsets c.args.bytes c.as_slice.result.now c.as_slice-2.result.now c.args.len
    c.as_slice.ensures c.as_slice-2.ensures c.in_ok-validity.ensures.long (sym c.are_texts.ensures ∙ c.if-not-are_texts.false)
