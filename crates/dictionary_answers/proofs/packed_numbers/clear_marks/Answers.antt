use Rattle.std.proofs.Common.{◌∙◌, sym}
use Rattle.dictionary_answers.proofs.Marks.{packed_where}
use Rattle.dictionary_answers.proofs.packed_numbers.clear_marks.Goals as goal

pub returns-else-is_some : goal.returns-else-is_some
returns-else-is_some c = packed_where c.args.validity.now c.args.bytes.now (rw c.bits.ensures at (sym c.is_some.ensures ∙ c.if-is_some.false)) c.requires
