use Rattle.std.proofs.Common.{arith}
use Rattle.batch_stats.proofs.TextKeys.{told_by_count}
use Rattle.batch_stats.proofs.keys.KeyRange.has.Goals as goal

pub returns : goal.returns
returns c = told_by_count c.args.self.low c.args.self.high c.args.key c.args.self.count c.ranges.key.fits (omega arith) c.requires
