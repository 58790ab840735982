use Rattle.std.proofs.Common.{refl, arith}
use Rattle.array_buffers.proofs.Lengths.{no_third, third_texts}
use Rattle.array_buffers.proofs.buffer_writing.texts_length.Goals as goal

pub returns-in-Texts : goal.returns-in-Texts
returns-in-Texts c = rw (third_texts c.args.column.now c.layout.result c.in-Texts.field-0 c.layout.ensures.value c.in-Texts.is) c.joined_length.ensures

pub returns-in_default : goal.returns-in_default
returns-in_default c = rw (no_third c.args.column.now c.layout.result c.layout.ensures.value c.in_default.not-Texts) (omega arith, refl)
