use Rattle.std.proofs.Common.{◌-ℤ◌, arith}
use Rattle.std.specs.Int.{w128}
use Rattle.std.proofs.lemmas.Int.{to_z-of_z}
use Rattle.hash_join.proofs.Sieving.{no_difference}
use Rattle.hash_join.proofs.spans.place_from.Goals as goal

pub returns-in-None-clause-place : goal.returns-in-None-clause-place
returns-in-None-clause-place c =
    let number = to_z-of_z w128 c.args.number c.ranges.number in
    let least = to_z-of_z w128 c.args.least c.ranges.least in
    no_difference (c.args.number -ℤ c.args.least) c.args.count (omega (arith, c.ranges.count)) (λ fits. c.in-None.ensures (rw (number, least) fits))
