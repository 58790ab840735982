use Rattle.std.proofs.Common.{◌≡◌, length, Some, None, ap, ◌∙◌, arith}
use Rattle.sql_text.specs.Values.{inside, unquoted, pair_at}
use Rattle.sql_text.proofs.Pairs.{pair_less, undoubled_none}
use Rattle.sql_text.proofs.value.unquoted_len.Goals as goal

pub loop-at-init : goal.loop-at-init
unfolding unquoted
loop-at-init c =
    let same : c.as_bytes-rest.result.now ≡ inside c.args.quote c.args.text.now = c.as_bytes-rest.ensures.value ∙ c.inside.ensures in
    record {
      left = rw same (omega arith);
      more = omega arith;
    }

pub loop-at-preserved : goal.loop-at-preserved
loop-at-preserved c =
    let e : pair_at c.args.quote 0 c.loop-at.rest.now ≡ Some c.in-Some.at = cc in
    let less = pair_less c.args.quote c.in-Some.at c.loop-at.rest.now e in
    let back = c.split_at.ensures.back in
    record {
      left = rw back (omega (arith, c.loop-at.invariant.left, c.loop-at.invariant.more, c.split_at.ensures.back_len, ap length back));
      more = rw back (omega (arith, c.loop-at.invariant.more, c.split_at.ensures.back_len, ap length back));
    }

pub returns : goal.returns
returns c =
    let e : pair_at c.args.quote 0 c.loop-at.rest.now ≡ None = cc in
    let same = ap length (undoubled_none c.args.quote 0 c.loop-at.rest.now e) in
    omega (arith, c.loop-at.invariant.left, same)
