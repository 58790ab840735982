use Rattle.std.proofs.Common.{◌≡◌, ◌++◌, List, IfOk, sym, subst}
use Rattle.hash_join.specs.declared.pair.Pair.{Pair}
use Rattle.hash_join.specs.Walks.{pairs_past}
use Rattle.hash_join.proofs.Walking.{lead_same}
use Rattle.hash_join.proofs.walk.Walk.push_bucket.Goals as goal

pub returns-clause-given : goal.returns-clause-given
returns-clause-given c =
    let walk = c.args.self.now in
    subst (λ (rest : List Pair). IfOk c.follow.result (λ stop. c.follow.new.made.pairs.items ++ pairs_past walk stop ≡ c.args.made.now.pairs.items ++ rest))
    (sym (lead_same walk c.requires.whole c.args.from c.first_in.result c.first_in.ensures)) c.follow.ensures.given
