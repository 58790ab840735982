use Rattle.std.proofs.Common.{◌≡◌, ◌<◌, arith, lit<}
use Rattle.endpoint_split.proofs.Cuts.{length-first_ranges, all_partition}
use Rattle.endpoint_split.proofs.ranges.split.Goals as goal

pub push-requires : goal.push-requires
push-requires c = (lit< tt, rw c.loop-i.invariant (omega (arith, length-first_ranges c.args.rows c.from-count.result c.loop-i.i)))

pub returns-clause-partition : goal.returns-clause-partition
returns-clause-partition c =
    let some : 0 < c.from-count.result = omega arith in
    let done : c.loop-i.i ≡ c.from-count.result = omega arith in
    rw (c.loop-i.invariant, done) (all_partition c.args.rows c.from-count.result some)
