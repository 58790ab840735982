use Rattle.std.proofs.Common.{refl, arith}
use Rattle.std.proofs.lemmas.List.FromFn.{map-range_with_len_more}
use Rattle.ipc_batch.specs.Parts.{node_at}
use Rattle.ipc_batch.proofs.parts.unpacked_nodes.Goals as goal

pub loop-j-preserved : goal.loop-j-preserved
loop-j-preserved c =
    let more = map-range_with_len_more (node_at c.args.structs.now) 0 c.loop-j.j c.loop-j.j (omega arith) in
    rw (more, c.in_ok-push.ensures.items, c.node.ensures, c.loop-j.invariant) refl
