use Rattle.sql_parse.specs.Calls.{tally_seen}
use Rattle.sql_parse.proofs.Past.{one_counted, none_past}
use Rattle.sql_parse.proofs.limits.first_past.Goals as goal

pub loop-index-preserved : goal.loop-index-preserved
loop-index-preserved c = record {
  left =
      one_counted (tally_seen c.loop-index.tally) c.args.tokens.now c.loop-index.index _ c.is_long_name.result c.is_past.result
      (tally_seen c.counted-tally.result)
      c.loop-index-test.true c.is_long_name.ensures c.if-is_long_name.false c.is_past.ensures.exact c.if-is_past.false
      c.counted-tally.ensures.exact c.loop-index.invariant.left;
  most = c.counted-tally.ensures.most;
}

pub returns : goal.returns
returns c = none_past (tally_seen c.loop-index.tally) c.args.tokens.now c.loop-index.index c.loop-index-test.false c.loop-index.invariant.left
