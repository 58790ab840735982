use Rattle.std.proofs.Common.{arith}
use Rattle.std.proofs.Math.Nat.{le-mul_of_pos_right}
use Rattle.hash_join.proofs.chains.weighted_rows.Goals as goal

pub returns : goal.returns
returns c = omega (arith, c.ranges.rows.fits, c.saturating_mul.ensures, le-mul_of_pos_right c.args.rows c.requires)
