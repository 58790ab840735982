use Rattle.std.proofs.Common.{◌+◌, ap, length, ◌∙◌, arith}
use Rattle.hash_join.specs.Pairs.{places}
use Rattle.hash_join.proofs.build.Build.new.Goals as goal

pub returns-clause-told : goal.returns-clause-told
returns-clause-told g c =
    let are = c.in_ok-rights.ensures in
    let linked = c.in_ok-chains.ensures.told in (
      c.len.result + linked.0,
      omega (arith, ap length (are.whole.places ∙ ap places are.batches), linked.1),
      g.met.W.Watches.told_again _ _ _ _ _ c.in_ok-tell.ensures.told linked.2,
    )
