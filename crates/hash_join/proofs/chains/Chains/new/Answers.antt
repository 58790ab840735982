use Rattle.std.proofs.Common.{◌+◌, arith}
use Rattle.hash_join.proofs.chains.Chains.new.Goals as goal

pub returns-clause-told : goal.returns-clause-told
returns-clause-told g c =
    let linked = c.in_ok-link_all.ensures.told in
    let repeats = c.in_ok-repeats.ensures.told in
    (linked.0 + repeats.0, omega (arith, linked.1), g.met.W.Watches.told_again _ _ _ _ _ linked.2 repeats.2)
