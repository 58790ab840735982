use Rattle.std.proofs.Common.{◌-◌, ◌∙◌, drop, length, arith}
use Rattle.byteorder.specs.Numbers.{little_from-take}
use Rattle.flatbuf.proofs.Numbers.{little_from-at}
use Rattle.ipc_batch.specs.Parts.{word_at}
use Rattle.ipc_batch.proofs.parts.word.Goals as goal

pub returns : goal.returns
unfolding word_at
returns c =
    let bytes = c.args.bytes.now in
    let at = c.args.at in
    c.read_u64.ensures ∙ little_from-take 0 8 (length bytes - at) (drop at bytes) (omega arith) ∙ little_from-at at 8 bytes
