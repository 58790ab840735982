use Rattle.std.proofs.Common.{◌+◌, arith}
use Rattle.hash_join.proofs.chains.OpenRepeats.look_at_all.Goals as goal

pub loop-to-preserved : goal.loop-to-preserved
loop-to-preserved g c =
    let is = c.loop-to.invariant in
    record {
      repeats = c.look_at_rows.ensures;
      within = omega (arith, c.min-to.ensures, c.len-rows.ensures, c.args.rights.now.places.ok);
      ready = c.in_ok-tell.ensures.ready;
      watched = g.met.W.Watches.again _ _ _ is.watched c.in_ok-tell.ensures.watched;
      told = (
        is.told.0 + c.weighted_rows.result,
        omega (arith, is.told.1, c.weighted_rows.ensures),
        g.met.W.Watches.told_again _ _ _ _ _ is.told.2 c.in_ok-tell.ensures.told,
      );
    }
