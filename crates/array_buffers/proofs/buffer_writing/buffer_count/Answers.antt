use Rattle.std.proofs.Common.{refl}
use Rattle.array_buffers.proofs.Lengths.{written_texts, written_other}
use Rattle.array_buffers.proofs.buffer_writing.buffer_count.Goals as goal

pub returns-in_default : goal.returns-in_default
returns-in_default c = rw (written_other c.args.column.now c.layout.result c.layout.ensures.value c.in_default.not-Texts) refl

pub returns-in-Texts : goal.returns-in-Texts
returns-in-Texts c = rw (written_texts c.args.column.now c.layout.result c.in-Texts.field-0 c.layout.ensures.value c.in-Texts.is) refl
