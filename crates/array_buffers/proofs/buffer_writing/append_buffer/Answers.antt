use Rattle.array_buffers.proofs.Lengths.{third}
use Rattle.array_buffers.proofs.buffer_writing.append_buffer.Goals as goal

pub returns-clause-ok : goal.returns-clause-ok
returns-clause-ok c =
    rw (third c.args.column.now c.args.index c.requires.index c.if-index-eq0.false c.if-index-eq1.false).1 c.append_texts.ensures.ok
