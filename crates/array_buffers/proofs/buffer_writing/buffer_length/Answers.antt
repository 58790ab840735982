use Rattle.array_buffers.proofs.Lengths.{third}
use Rattle.array_buffers.proofs.buffer_writing.buffer_length.Goals as goal

pub returns : goal.returns
returns c =
    let last = third c.args.column.now c.args.index c.requires c.if-index-eq0.false c.if-index-eq1.false in
    rw last.0 c.texts_length.ensures
