use Rattle.std.proofs.Common.{◌≤◌, ◌++◌, length, sym, ap, ◌∙◌, arith}
use Rattle.hash_join.proofs.Walking.{none_joins}
use Rattle.hash_join.proofs.walk.Walk.push_pairs.Goals as goal

pub returns-in-None-clause-given : goal.returns-in-None-clause-given
returns-in-None-clause-given c =
    let walk = c.args.self.now in
    let past : length walk.rights.now.places.items ≤ c.len.result = omega (arith, c.len.ensures, walk.rights.now.places.ok) in
    ap (λ rest. c.args.made.now.pairs.items ++ rest)
    (sym (none_joins walk c.requires.whole c.args.from c.len.result (sym c.bucket.ensures.bucket ∙ c.in-None.is) past))
