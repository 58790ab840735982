use Rattle.std.proofs.Common.{◌≡◌, ◌-◌, length, ap, ◌∙◌, arith}
use Rattle.std.proofs.Common.{append_assoc}
use Rattle.std.proofs.lemmas.List.{length-append}
use Rattle.flatbuf.specs.Block.{padding}
use Rattle.array_buffers.specs.ColumnBuffers.{buffer_of}
use Rattle.ipc_batch.proofs.WriterLoops.{short_texts}
use Rattle.ipc_batch.proofs.sized_batch.append_buffer.Goals as goal

pub append_buffer-requires-clause-texts : goal.append_buffer-requires-clause-texts
append_buffer-requires-clause-texts c = short_texts c.args.column.now c.requires.short

pub returns-clause-ok : goal.returns-clause-ok
returns-clause-ok c =
    let buffer = buffer_of c.args.column.now c.args.index in
    let old = c.args.body.now.items in
    let made = c.in_ok-append_buffer.ensures.ok in
    let long = ap length made ∙ length-append old buffer in
    let written : c.len.result - c.len-start.result ≡ length buffer = omega (arith, long, c.len.ensures, c.len-start.ensures, c.append_buffer.new.out.ok, c.args.body.now.ok) in
    rw (made, written, append_assoc old buffer (padding (length buffer))) at c.append_zeros.ensures.ok
