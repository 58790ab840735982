use Rattle.std.proofs.Common.{None, sym, ◌∙◌, arith}
use Rattle.batch_stats.proofs.Passes.{pass_null}
use Rattle.batch_stats.proofs.validity.first_valid.Goals as goal

pub loop-place-preserved : goal.loop-place-preserved
loop-place-preserved c = record {
  low = omega (arith, c.loop-place.invariant.low);
  nulls = λ value. c.loop-place.invariant.nulls value ∙ pass_null None c.args.validity.now value c.loop-place.place c.args.to c.loop-place-test.true (sym c.is_valid.ensures ∙ c.if-is_valid.false);
}
