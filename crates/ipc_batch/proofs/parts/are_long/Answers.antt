use Rattle.std.proofs.Common.{◌==◌, refl}
use Rattle.ipc_batch.specs.declared.parts.FieldNode.{FieldNode}
use Rattle.ipc_batch.specs.Parts.{node_at}
use Rattle.ipc_batch.proofs.Lengths.{all_more}
use Rattle.ipc_batch.proofs.parts.are_long.Goals as goal

pub loop-j-preserved : goal.loop-j-preserved
loop-j-preserved c =
    rw (all_more (λ (node : FieldNode). node.length == c.args.rows) (node_at c.args.structs.now) c.loop-j.j, c.node.ensures, c.loop-j.invariant) refl
