use Rattle.std.proofs.Common.{sym, ◌∙◌, arith}
use Rattle.sql_text.proofs.Quotes.{closed_plain, closed_pair}
use Rattle.sql_text.proofs.front.closed_len.Goals as goal

pub loop-at-preserved-then-bytes-at : goal.loop-at-preserved-then-bytes-at
loop-at-preserved-then-bytes-at c = record {
  left = sym (closed_plain c.args.quote c.loop-at.at c.args.bytes.now c.loop-at-test.true c.if-bytes-at.true) ∙ c.loop-at.invariant.left;
  within = omega arith;
}

pub loop-at-preserved : goal.loop-at-preserved
loop-at-preserved c = record {
  left = sym (closed_pair c.args.quote c.loop-at.at c.args.bytes.now c.if-at-bytes.true c.if-bytes-at.false c.if-bytes-at-2.true) ∙ c.loop-at.invariant.left;
  within = omega arith;
}
