use Rattle.batch_stats.proofs.TextKeys.{word_masked}
use Rattle.batch_stats.proofs.keys.first_bytes.Goals as goal

pub returns : goal.returns
returns c = word_masked c.args.word c.args.count c.ranges.word.fits c.requires
