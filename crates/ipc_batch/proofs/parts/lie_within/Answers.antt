use Rattle.std.proofs.Common.{refl}
use Rattle.ipc_batch.specs.Parts.{place_at, lies_in}
use Rattle.ipc_batch.proofs.Lengths.{all_more}
use Rattle.ipc_batch.proofs.parts.lie_within.Goals as goal

pub loop-j-preserved : goal.loop-j-preserved
loop-j-preserved c = rw (all_more (lies_in c.args.body.now) (place_at c.args.structs.now) c.loop-j.j, c.lies_in-all.ensures, c.place.ensures, c.loop-j.invariant) refl
