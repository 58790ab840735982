use Rattle.std.proofs.Common.{◌+◌, arith}
use Rattle.hash_join.proofs.chains.OpenChains.link_all.Goals as goal

pub loop-from-preserved : goal.loop-from-preserved
loop-from-preserved g c =
    let is = c.loop-from.invariant in
    record {
      linked = c.link_rows.ensures;
      within = omega (arith, is.within, c.saturating_sub-from.ensures);
      ready = c.in_ok-tell.ensures.ready;
      watched = g.met.W.Watches.again _ _ _ is.watched c.in_ok-tell.ensures.watched;
      told = (
        is.told.0 + c.weighted_rows.result,
        omega (arith, is.within, is.told.1, c.saturating_sub-from.ensures, c.weighted_rows.ensures),
        g.met.W.Watches.told_again _ _ _ _ _ is.told.2 c.in_ok-tell.ensures.told,
      );
    }
