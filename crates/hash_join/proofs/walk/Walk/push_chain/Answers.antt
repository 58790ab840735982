use Rattle.std.proofs.Common.{◌≡◌, ◌++◌, List, IfOk, sym, subst}
use Rattle.hash_join.specs.declared.pair.Pair.{Pair}
use Rattle.hash_join.specs.Walks.{pairs_past}
use Rattle.hash_join.proofs.Walking.{lead_same}
use Rattle.hash_join.proofs.walk.Walk.push_chain.Goals as goal

pub returns-clause-given : goal.returns-clause-given
returns-clause-given c =
    let walk = c.args.self.now in
    subst (λ (rest : List Pair). IfOk c.take_chain.result (λ stop. c.take_chain.new.pairs.items ++ pairs_past walk stop ≡ c.args.pairs.now.items ++ rest))
    (sym (lead_same walk c.requires.whole c.args.from c.first_in.result c.first_in.ensures)) c.take_chain.ensures.given
