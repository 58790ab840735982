use Rattle.std.proofs.Common.{arith}
use Rattle.std.specs.Int.{w128}
use Rattle.std.proofs.lemmas.Int.{to_z-of_z}
use Rattle.hash_join.proofs.Sieving.{no_index}
use Rattle.hash_join.proofs.spans.index_among.Goals as goal

pub returns-in-Err-clause-place : goal.returns-in-Err-clause-place
returns-in-Err-clause-place c =
    let same = to_z-of_z w128 c.args.index c.ranges.index in
    no_index c.args.index c.args.count (omega (arith, c.ranges.count)) (λ fits. c.in-Err.ensures (rw same fits))
